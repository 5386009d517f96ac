-- This file proves goals of `flush` by short searches, so that a planted bug is refused soon.
use Rattle.std.proofs.Common.{rules}
use Rattle.ptb_text.proofs.device.Device.flush.Goals as goal

pub returns-then-is_err-clause-count : goal.returns-then-is_err-clause-count
returns-then-is_err-clause-count g c = search rules fits 50 depth 2

pub returns-clause-bytes : goal.returns-clause-bytes
returns-clause-bytes g c = search rules fits 50 depth 2
