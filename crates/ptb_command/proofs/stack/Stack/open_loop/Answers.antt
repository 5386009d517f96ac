-- This file answers that a stack without room for a loop stays as it is.
use Rattle.ptb_command.proofs.FoundLoops.{unchanged_full}
use Rattle.ptb_command.proofs.stack.Stack.open_loop.Goals as goal

pub returns-clause-full : goal.returns-clause-full
returns-clause-full c full = unchanged_full c.args.item.letter _ c.args.self.now c.remove_loops.new.self c.add.new.self
    c.remove_loops.ensures.removed c.remove_loops.ensures.few (rw full at c.add.ensures)
