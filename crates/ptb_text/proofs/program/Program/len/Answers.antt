-- This file proves goals of `len` by short searches, so that a planted bug is refused soon.
use Rattle.std.proofs.Common.{arith}
use Rattle.std.proofs.lemmas.Grind.{common_steps}
use Rattle.ptb_text.proofs.program.Program.len.Goals as goal

pub returns-clause-value : goal.returns-clause-value
returns-clause-value c = grind (arith, common_steps)
