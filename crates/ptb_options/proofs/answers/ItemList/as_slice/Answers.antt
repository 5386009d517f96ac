-- This file proves goals of `as_slice` by short searches, so that a planted bug is refused soon.
use Rattle.std.proofs.Common.{rules}
use Rattle.ptb_options.proofs.answers.ItemList.as_slice.Goals as goal

pub returns : goal.returns
returns c = search rules fits 50 depth 2
