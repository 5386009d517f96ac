-- This file proves the worked rows of plain runs by computation.
-- Main lemma: `run_rows`.
use Rattle.std.specs.Prelude.{refl}
use Rattle.ptb_rows.specs.Rows.{RunRows}
use Rattle.ptb_rows.proofs.Unfoldings.{on_programs}

pub run_rows : RunRows
unfolding on_programs
run_rows = record {
  greeting = refl;
  one_answer = refl;
  answers_left = refl;
  no_answer = refl;
  bad_answer = refl;
  limit = refl;
  fault = refl;
  input = refl;
  no_input = refl;
  small_memory = refl;
}
