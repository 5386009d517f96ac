-- This file proves the worked rows of mistakes by computation.
-- Main lemma: `mistake_rows`.
use Rattle.std.specs.Prelude.{refl}
use Rattle.ptb_rows.proofs.Unfoldings.{on_programs}
use Rattle.ptb_rows.specs.MistakeRows.{MistakeRows}

pub mistake_rows : MistakeRows
unfolding on_programs
mistake_rows = record {
  no_mistake = refl;
  in_rising_order = refl;
  up_to_a_malformed_one = refl;
  only_in_the_text = refl;
  fault_of_a_run_before_it = refl;
  number_there = refl;
  number_in_parentheses = refl;
  number_with_a_sign = refl;
  number_that_is_computed = refl;
}
