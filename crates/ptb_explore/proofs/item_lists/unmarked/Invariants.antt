-- This file says which items there are after some answers.
use Rattle.std.proofs.Common.{◌≡◌, take}
use Rattle.ptb_answers.specs.AnswerText.{unmarked}
use Rattle.ptb_explore.proofs.item_lists.unmarked.Given as goal

abbrev pub invariant-loop-answer : goal.invariant-loop-answer
invariant-loop-answer l = l.list.items ≡ unmarked (take l.answer-index l.answers)
