-- This file proves goals of `take_byte` by short searches, so that a planted bug is refused soon.
use Rattle.std.proofs.Common.{rules}
use Rattle.ptb_text.proofs.cursor.Cursor.take_byte.Goals as goal

pub returns-clause-place : goal.returns-clause-place
returns-clause-place c = search rules fits 50 depth 2
