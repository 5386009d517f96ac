-- This file proves the worked rows of programs whose runs are long by computation.
-- Main lemma: `long_run_rows`.
use Rattle.std.specs.Prelude.{refl}
use Rattle.ptb_rows.specs.Rows.{LongRunRows}
use Rattle.ptb_rows.proofs.Unfoldings.{on_programs}

pub long_run_rows : LongRunRows
unfolding on_programs
long_run_rows = record {
  long_loop = refl;
  many_answers = refl;
  most_answers = refl;
}
