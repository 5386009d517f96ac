-- This file proves goals of `text_before` by short searches, so that a planted bug is refused soon.
use Rattle.std.proofs.Common.{arith}
use Rattle.std.proofs.lemmas.Grind.{common_steps}
use Rattle.ptb_machine.proofs.fault_report.text_before.Goals as goal

pub returns : goal.returns
returns c = grind (arith, common_steps)
