-- This file proves goals of `forget_given` by short searches, so that a planted bug is refused soon.
use Rattle.std.proofs.Common.{rules}
use Rattle.ptb_devices.proofs.line_buffer.LineBuffer.forget_given.Goals as goal

pub returns-then-self : goal.returns-then-self
returns-then-self c = search rules fits 50 depth 2
