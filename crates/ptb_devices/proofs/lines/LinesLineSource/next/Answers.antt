-- This file proves goals of `next` by short searches, so that a planted bug is refused soon.
use Rattle.std.proofs.Common.{arith}
use Rattle.std.proofs.lemmas.Grind.{common_steps}
use Rattle.ptb_devices.proofs.lines.LinesLineSource.next.Goals as goal

pub returns-then-self : goal.returns-then-self
returns-then-self c = grind (arith, common_steps)

pub returns : goal.returns
returns c = grind (arith, common_steps)
