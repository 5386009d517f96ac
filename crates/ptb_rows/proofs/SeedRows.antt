-- This file proves the worked rows of runs by a seed by computation.
-- Main lemma: `seed_rows`.
use Rattle.std.specs.Prelude.{refl}
use Rattle.ptb_rows.specs.Rows.{SeedRows}
use Rattle.ptb_rows.proofs.Unfoldings.{on_programs}

pub seed_rows : SeedRows
unfolding on_programs
seed_rows = record {
  only_answer = refl;
  rolls = refl;
  least = refl;
  second = refl;
  greatest = refl;
  rolled_input = refl;
  no_input = refl;
  fault = refl;
  limit = refl;
  refused = refl;
}
