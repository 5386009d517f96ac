-- This file answers that the rows of options that don't go together hold.
use Rattle.ptb_rows.proofs.CommandLineRows.{clash_rows}
use Rattle.ptb_rows.proofs.rows.clash_rows.Goals as goal

pub returns : goal.returns
returns c = clash_rows
