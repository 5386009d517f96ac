-- This file proves the worked rows of the mistakes in a text by computation.
-- Main lemma: `check_rows`.
use Rattle.std.specs.Prelude.{refl}
use Rattle.ptb_rows.specs.Rows.{CheckRows}
use Rattle.ptb_rows.proofs.Unfoldings.{on_programs}

pub check_rows : CheckRows
unfolding on_programs
check_rows = record {
  no_mistake = refl;
  in_rising_order = refl;
  several_in_one = refl;
  only_in_the_text = refl;
  fault_of_a_run_before_it = refl;
  no_program = refl;
  input_ignored = refl;
  refused = refl;
}
