-- This file proves the worked rows of samples by computation.
-- Main lemma: `sampled_run_rows`.
use Rattle.std.specs.Prelude.{refl}
use Rattle.ptb_rows.proofs.Unfoldings.{on_programs}
use Rattle.ptb_rows.specs.SampledRunRows.{SampledRunRows}

pub sampled_run_rows : SampledRunRows
unfolding on_programs
sampled_run_rows = record {
  first_word = refl;
  second_word = refl;
  fifth_word = refl;
  rolls = refl;
  one_roll = refl;
  no_run = refl;
  least_seed = refl;
  greatest_seed = refl;
  no_question = refl;
  two_rolls = refl;
  fewer_and_more = refl;
}
