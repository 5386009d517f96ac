-- This file defines the answers and the bounds of a list of questions that were answered.
-- Main definitions: `answers_in` and `bounds_in`.
--     answers_in asked    the answers, in order
--     bounds_in asked     the bounds of their questions
use Rattle.std.specs.Prelude.{List, map, ℤ}
use Rattle.ptb_answers.specs.Outcome.{Answers}
use Rattle.ptb_answers.specs.declared.asked.Asked.{Asked}

abbrev pub answers_in : List Asked → Answers
answers_in asked = map (λ q. q.answer) asked

abbrev pub bounds_in : List Asked → List ℤ
bounds_in asked = map (λ q. q.bound) asked
