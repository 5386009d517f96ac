-- This file proves goals of `cleaned_byte` by short searches, so that a planted bug is refused soon.
use Rattle.std.proofs.Common.{rules}
use Rattle.ptb_devices.proofs.cutter.cleaned_byte.Goals as goal

pub returns-in-9 : goal.returns-in-9
returns-in-9 c = search rules fits 50 depth 2
