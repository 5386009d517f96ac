-- This file defines the run that a seed makes, and states what it is.
-- Main definition: `IsDrawn`.
--     IsDrawn seed play a              a is a run, and its answers are drawn from the seed for the bounds of its
--                                      questions
--     seeded_answers seed p input rules     the answers of the run of a program by a seed
--     seeded_run seed p input rules    the bytes and the ending of this run
--     SeededLaws                       a seed draws one run of each program on each input, and no other
use Rattle.std.specs.Prelude.{◌≡◌, ℕ, List}
use Rattle.ptb_text.specs.Statements.{StoredProgram}
use Rattle.ptb_answers.specs.Outcome.{Answers, Outcome}
use Rattle.ptb_answers.specs.Seeds.{generator_of}
use Rattle.ptb_answers.specs.DrawnAnswers.{IsDrawnFrom, answers_by}
use Rattle.ptb_command.specs.declared.ending.Ending.{Ending}
use Rattle.ptb_answers.specs.declared.rules.Rules.{Rules}
use Rattle.ptb_machine.specs.Play.{play, plain}
use Rattle.ptb_machine.specs.Questions.{most_answers}

-- a run whose answers are drawn from the words of the generator that begins with the seed
abbrev pub IsDrawn : {A W : Type 0} → ℕ → (Answers → Outcome A W) → Answers → Type 0
IsDrawn seed play a = IsDrawnFrom (generator_of seed) play a

-- no run asks more than `most_answers`
abbrev pub seeded_answers : ℕ → StoredProgram → List (List ℕ) → Rules → Answers
seeded_answers seed p input rules =
    answers_by (most_answers p input rules.limit) (generator_of seed) (play p input rules)

abbrev pub seeded_run : ℕ → StoredProgram → List (List ℕ) → Rules → List ℕ × Ending
seeded_run seed p input rules = plain p input rules (seeded_answers seed p input rules)

-- ---- the law

-- what a seed gives is one run, whose answers are drawn from the seed for the bounds of its questions; no other list
-- is drawn so
pub record SeededLaws : Type 0 where
  pub drawn : (seed : ℕ) (p : StoredProgram) (input : List (List ℕ)) (rules : Rules)
      → IsDrawn seed (play p input rules) (seeded_answers seed p input rules)
  pub only : (seed : ℕ) (p : StoredProgram) (input : List (List ℕ)) (rules : Rules) (a : Answers)
      → IsDrawn seed (play p input rules) a → a ≡ seeded_answers seed p input rules
