-- This file proves goals of `leading_digits` by short searches, so that a planted bug is refused soon.
use Rattle.std.proofs.Common.{arith}
use Rattle.std.proofs.lemmas.Grind.{common_steps}
use Rattle.ptb_text.proofs.numerals.leading_digits.Goals as goal

pub loop-count-preserved : goal.loop-count-preserved
loop-count-preserved c = grind (arith, common_steps)
