-- This file defines what a recorder holds, and why it gives no answer.
-- Main definition: `recorded`.
--     recorded r                   the answers of a recorder: those that it gave, and then those that are planned
--     given_bounds r               the bounds of those that it gave
--     recorder_choices r                 a recorder as a chooser: its plan, what it gave, and with which bounds
--     RefusedByPlan c bound z n    it pauses at a question with bound n, which it keeps where its answer is out of
--                                  range
use Rattle.std.specs.Prelude.{◌≡◌, List, ◌∷◌, ◌++◌, length, take, false, Some, ℤ}
use Rattle.ptb_answers.specs.declared.pause.Pause.{Pause}
use Rattle.ptb_answers.specs.declared.pause.Pause.TheVariants.{Ended, OutOfRange, Memory}
use Rattle.ptb_answers.specs.Outcome.{Answers, is_answer}
use Rattle.ptb_answers.specs.AskedQuestions.{answers_in, bounds_in}
use Rattle.ptb_answers.specs.Choices.{Choices}
use Rattle.ptb_explore.specs.declared.recorder.Recorder.{Recorder}

abbrev pub recorded : Recorder → Answers
recorded r = answers_in r.asked.items

abbrev pub given_bounds : Recorder → List ℤ
given_bounds r = bounds_in (take r.given r.asked.items)

abbrev pub recorder_choices : Recorder → Choices
recorder_choices r = record {
  plan = take r.planned (recorded r);
  taken = take (length (given_bounds r)) (recorded r);
  kept = Some (given_bounds r);
}

-- never for lack of answers; as out of range only where the plan's next answer is
abbrev pub RefusedByPlan : Choices → ℤ → Pause → ℤ → Type 0
RefusedByPlan c bound Ended n = ⊥
RefusedByPlan c bound (OutOfRange g) n = ((rest : List ℤ) × (c.plan ≡ c.taken ++ g ∷ rest)) × (is_answer n g ≡ false)
    × (bound ≡ n)
RefusedByPlan c bound Memory n = Unit {0}
