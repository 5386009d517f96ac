-- This file proves goals of `from` by short searches, so that a planted bug is refused soon.
use Rattle.std.proofs.Common.{rules}
use Rattle.ptb_options.proofs.usage.UsageFaultFromAllocFailed.from.Goals as goal

pub returns : goal.returns
returns g c = search rules fits 50 depth 2
