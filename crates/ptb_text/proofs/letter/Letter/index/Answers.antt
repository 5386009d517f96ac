-- This file proves goals of `index` by short searches, so that a planted bug is refused soon.
use Rattle.std.proofs.Common.{rules}
use Rattle.ptb_text.proofs.letter.Letter.index.Goals as goal

pub returns-clause-value : goal.returns-clause-value
returns-clause-value c = search rules fits 50 depth 2

pub returns-clause-within : goal.returns-clause-within
returns-clause-within c = search rules fits 50 depth 2
