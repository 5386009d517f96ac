-- This file proves goals of `open_call` by short searches, so that a planted bug is refused soon.
use Rattle.std.proofs.Common.{rules}
use Rattle.ptb_command.proofs.stack.Stack.open_call.Goals as goal

pub returns : goal.returns
returns c = search rules fits 50 depth 2
