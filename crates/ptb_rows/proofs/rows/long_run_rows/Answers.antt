-- This file answers what is left to prove of `long_run_rows`.
use Rattle.ptb_rows.proofs.LongRunRows.{long_run_rows}
use Rattle.ptb_rows.proofs.rows.long_run_rows.Goals as goal

pub returns : goal.returns
returns c = long_run_rows
