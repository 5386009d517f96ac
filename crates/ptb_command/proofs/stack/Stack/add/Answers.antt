-- This file proves goals of `add` by short searches, so that a planted bug is refused soon.
use Rattle.std.proofs.Common.{arith}
use Rattle.std.proofs.lemmas.Grind.{common_steps}
use Rattle.ptb_command.proofs.stack.Stack.add.Goals as goal

pub returns : goal.returns
returns c = grind (arith, common_steps)
