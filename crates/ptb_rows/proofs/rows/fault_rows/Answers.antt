-- This file answers that the rows of words that clap refuses hold.
use Rattle.ptb_rows.proofs.CommandLineRows.{fault_rows}
use Rattle.ptb_rows.proofs.rows.fault_rows.Goals as goal

pub returns : goal.returns
returns c = fault_rows
