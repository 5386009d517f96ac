-- This file proves the worked rows of listings of all runs by computation.
-- Main lemma: `all_rows`.
use Rattle.std.specs.Prelude.{refl}
use Rattle.ptb_rows.specs.Rows.{AllRows}
use Rattle.ptb_rows.proofs.Unfoldings.{on_programs}

pub all_rows : AllRows
unfolding on_programs
all_rows = record {
  no_program = refl;
  one_roll = refl;
  two_rolls = refl;
  roll_after_if = refl;
  faulty_run = refl;
  limit = refl;
  limit_between = refl;
  rolled_input = refl;
  no_input = refl;
  index_asked_again = refl;
  endless_calls = refl;
  only_answer = refl;
  end_at_limit = refl;
  calls_in_loops = refl;
}
