-- This file answers that a machine that is made is at the beginning.
use Rattle.ptb_explore.proofs.copies.boxed_first.Goals as goal

pub returns-in-Ok-clause-first : goal.returns-in-Ok-clause-first
returns-in-Ok-clause-first c = λ input choose. rw c.in-Ok.ensures.ok (c.in_ok-machine.ensures.represents input choose)
