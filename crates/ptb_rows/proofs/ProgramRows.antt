-- This file proves the worked rows of programs that run once by computation.
-- Main lemma: `program_rows`.
use Rattle.std.specs.Prelude.{refl}
use Rattle.ptb_rows.specs.Rows.{ProgramRows}
use Rattle.ptb_rows.proofs.Unfoldings.{on_programs}

pub program_rows : ProgramRows
unfolding on_programs
program_rows = record {
  lines_in_order = refl;
  least_number = refl;
  rolled_input = refl;
  loop = refl;
  strings = refl;
  endless_calls = refl;
  product_too_great = refl;
  index_asked_again = refl;
  last_element = refl;
  size = refl;
  loop_of_subroutine = refl;
  stop = refl;
  end_at_limit = refl;
  missing_line = refl;
}
