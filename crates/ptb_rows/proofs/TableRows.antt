-- This file proves the worked rows of chances by computation.
-- Main lemma: `table_rows`.
use Rattle.std.specs.Prelude.{refl}
use Rattle.ptb_rows.proofs.Unfoldings.{on_programs}
use Rattle.ptb_rows.specs.TableRows.{TableRows}

pub table_rows : TableRows
unfolding on_programs
table_rows = record {
  one_half = refl;
  half_and_third = refl;
  no_question = refl;
  sum = refl;
  whole = refl;
  divisor = refl;
  with_zero = refl;
  digits = refl;
  zero_digits = refl;
  empty_program = refl;
  a_roll_in_two = refl;
  up_to_limit = refl;
  in_order = refl;
  last_line = refl;
}
