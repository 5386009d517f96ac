-- This file answers that the table of all runs has its laws.
use Rattle.ptb_chances.proofs.Totals.{table_laws}
use Rattle.ptb_chances.proofs.laws.table_laws.Goals as goal

pub returns : goal.returns
returns c = λ play most reads. table_laws play most reads
