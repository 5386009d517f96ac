-- This file answers that the state is the beginning of the program.
use Rattle.ptb_chances.proofs.worklist.SavedState.first.Goals as goal

pub returns-clause-machine : goal.returns-clause-machine
returns-clause-machine c = rw c.in_ok-save.ensures c.in_ok-machine.ensures
