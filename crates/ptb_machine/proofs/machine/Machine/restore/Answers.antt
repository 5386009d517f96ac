-- This file proves goals of `restore` by short searches, so that a planted bug is refused soon.
use Rattle.std.proofs.Common.{refl, rules}
use Rattle.ptb_machine.proofs.machine.Machine.restore.Goals as goal

pub returns : goal.returns
returns c = record { ok = search rules fits 50 depth 2; same_size = λ same. refl; err = tt }
