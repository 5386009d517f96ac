-- This file proves goals of `table_word_at` by short searches, so that a planted bug is refused soon.
use Rattle.std.proofs.Common.{rules}
use Rattle.ptb_text.proofs.spelling.table_word_at.Goals as goal

pub returns-in-Step-clause-value : goal.returns-in-Step-clause-value
returns-in-Step-clause-value c = search rules fits 50 depth 2

pub returns-in-Step-clause-word : goal.returns-in-Step-clause-word
returns-in-Step-clause-word c = search rules fits 50 depth 2
