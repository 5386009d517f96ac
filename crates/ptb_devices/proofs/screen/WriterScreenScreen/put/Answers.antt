-- This file proves goals of `put` by short searches, so that a planted bug is refused soon.
use Rattle.std.proofs.Common.{rules}
use Rattle.ptb_devices.proofs.screen.WriterScreenScreen.put.Goals as goal

pub returns-clause-unfailed : goal.returns-clause-unfailed
returns-clause-unfailed g c = search rules fits 50 depth 2

pub returns-clause-ok : goal.returns-clause-ok
returns-clause-ok g c = search rules fits 50 depth 2
