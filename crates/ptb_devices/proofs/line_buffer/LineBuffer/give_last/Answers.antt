-- This file proves goals of `give_last` by short searches, so that a planted bug is refused soon.
use Rattle.std.proofs.Common.{rules}
use Rattle.ptb_devices.proofs.line_buffer.LineBuffer.give_last.Goals as goal

pub returns-clause-begun : goal.returns-clause-begun
returns-clause-begun c = search rules fits 50 depth 2
