-- This file proves goals of `strip_carriage_return` by short searches, so that a planted bug is refused soon.
use Rattle.std.proofs.Common.{rules}
use Rattle.ptb_text.proofs.loader.strip_carriage_return.Goals as goal

pub returns-in_default-2 : goal.returns-in_default-2
returns-in_default-2 c = search rules fits 50 depth 2
