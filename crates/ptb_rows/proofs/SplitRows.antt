-- This file proves the worked rows of lists that split the runs by computation.
-- Main lemma: `split_rows`.
use Rattle.std.specs.Prelude.{refl}
use Rattle.ptb_rows.specs.Rows.{SplitRows}
use Rattle.ptb_rows.proofs.Unfoldings.{on_programs}

pub split_rows : SplitRows
unfolding on_programs
split_rows = record {
  one_answer = refl;
  two_answers = refl;
  form_1 = refl;
  no_program = refl;
  within_command = refl;
  limit = refl;
  fault = refl;
  rolled_input = refl;
  instead_of_lines = refl;
  no_input = refl;
  refused = refl;
}
