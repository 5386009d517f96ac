-- This file proves the worked rows of samples by computation.
-- Main lemma: `sample_rows`.
use Rattle.std.specs.Prelude.{refl}
use Rattle.ptb_rows.specs.Rows.{SampleRows}
use Rattle.ptb_rows.proofs.Unfoldings.{on_programs}

pub sample_rows : SampleRows
unfolding on_programs
sample_rows = record {
  rolls = refl;
  form_1 = refl;
  other_seed = refl;
  once_and_twice = refl;
  same_lines = refl;
  instead_of_lines = refl;
  no_input = refl;
  limit = refl;
  no_question = refl;
  refused = refl;
}
