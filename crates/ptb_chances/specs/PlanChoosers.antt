-- This file defines what the chooser of a plan holds.
-- Main definition: `PlanAnswers`.
--     PlanAnswers                    the answers of a plan, how many of them were given, and the bound of the question
--                                    that was refused last
--     plan_choices l                   what it holds as a chooser
--     RefusedByPlanAnswers l pause n        why it gives no answer to a question with bound n
use Rattle.std.specs.Prelude.{◌≡◌, ℕ, false, List, length, take, Some, None, slice_get, ℤ}
use Rattle.ptb_answers.specs.declared.pause.Pause.{Pause}
use Rattle.ptb_answers.specs.declared.pause.Pause.TheVariants.{Ended, OutOfRange, Memory}
use Rattle.ptb_answers.specs.Outcome.{is_answer}
use Rattle.ptb_answers.specs.Choices.{Choices}

pub record PlanAnswers : Type 0 where
  pub answers : List ℤ
  pub given : ℕ
  pub refused_bound : ℤ

-- it keeps no bounds
abbrev pub plan_choices : PlanAnswers → Choices
plan_choices l = record { plan = l.answers; taken = take l.given l.answers; kept = None }

-- the plan is used up, or its next answer is out of range; never for lack of memory
abbrev pub RefusedByPlanAnswers : PlanAnswers → Pause → ℤ → Type 0
RefusedByPlanAnswers l Ended n = (l.given ≡ length l.answers) × (l.refused_bound ≡ n)
RefusedByPlanAnswers l (OutOfRange g) n = (slice_get l.answers l.given ≡ Some g) × (is_answer n g ≡ false)
RefusedByPlanAnswers l Memory n = ⊥
