-- This file proves goals of `close_newest` by short searches, so that a planted bug is refused soon.
use Rattle.std.proofs.Common.{arith}
use Rattle.std.proofs.lemmas.Grind.{common_steps}
use Rattle.ptb_command.proofs.stack.Stack.close_newest.Goals as goal

pub returns : goal.returns
returns c = grind (arith, common_steps)
