-- This file proves goals of `size` by short searches, so that a planted bug is refused soon.
use Rattle.std.proofs.Common.{rules}
use Rattle.ptb_text.proofs.program.Program.size.Goals as goal

pub returns-clause-value : goal.returns-clause-value
returns-clause-value c = search rules fits 50 depth 2
