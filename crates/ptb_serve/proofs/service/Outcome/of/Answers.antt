-- This file proves goals of `of` by short searches, so that a planted bug is refused soon.
use Rattle.std.proofs.Common.{rules}
use Rattle.ptb_serve.proofs.service.Outcome.of.Goals as goal

pub returns-in-Err : goal.returns-in-Err
returns-in-Err c = search rules fits 50 depth 2
