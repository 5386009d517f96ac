-- This file proves goals of `run_status` by short searches, so that a planted bug is refused soon.
use Rattle.std.proofs.Common.{rules}
use Rattle.ptb_serve.proofs.service.run_status.Goals as goal

pub returns-in-Err-Write : goal.returns-in-Err-Write
returns-in-Err-Write c = search rules fits 50 depth 2
