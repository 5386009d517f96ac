-- This file proves the worked rows of chances by computation.
-- Main lemma: `chance_rows`.
use Rattle.std.specs.Prelude.{refl}
use Rattle.ptb_rows.specs.Rows.{ChanceRows}
use Rattle.ptb_rows.proofs.Unfoldings.{on_programs}

pub chance_rows : ChanceRows
unfolding on_programs
chance_rows = record {
  no_program = refl;
  rolled_again = refl;
  limit = refl;
  four_tosses = refl;
  each_ending = refl;
  rolled_input = refl;
  instead_of_lines = refl;
  no_input = refl;
  refused = refl;
}
