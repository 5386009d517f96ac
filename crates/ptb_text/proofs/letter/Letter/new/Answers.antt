-- This file proves goals of `new` by short searches, so that a planted bug is refused soon.
use Rattle.std.proofs.Common.{rules}
use Rattle.ptb_text.proofs.letter.Letter.new.Goals as goal

pub invariant_of-result : goal.invariant_of-result
invariant_of-result c = search rules fits 50 depth 2
