-- This file says that what is left of the lists decides.
use Rattle.std.proofs.Common.{◌≡◌, drop}
use Rattle.ptb_answers.specs.AnswerText.{answers_of}
use Rattle.ptb_machine.specs.RunTree.{begins_with}
use Rattle.ptb_explore.proofs.item_lists.items_begin_with.Given as goal

abbrev pub invariant-loop-k : goal.invariant-loop-k
invariant-loop-k l = begins_with (answers_of (drop l.k l.list)) (answers_of (drop l.k l.prefix))
    ≡ begins_with (answers_of l.list) (answers_of l.prefix)
