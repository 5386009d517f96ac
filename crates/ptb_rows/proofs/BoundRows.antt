-- This file proves the worked rows of reports with bounds by computation.
-- Main lemma: `bound_rows`.
use Rattle.std.specs.Prelude.{refl}
use Rattle.ptb_rows.specs.Rows.{BoundRows}
use Rattle.ptb_rows.proofs.Unfoldings.{on_programs}

pub bound_rows : BoundRows
unfolding on_programs
bound_rows = record {
  roll_after_if = refl;
  after_bound = refl;
  other_bound = refl;
  bound_of_last = refl;
  beginning_of_run = refl;
  bounds_and_form_1 = refl;
  no_answers = refl;
  only_answer = refl;
  after_none = refl;
}
