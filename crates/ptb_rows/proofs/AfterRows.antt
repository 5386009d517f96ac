-- This file proves the worked rows of listings that begin after a run, or end early, by computation.
-- Main lemma: `after_rows`.
use Rattle.std.specs.Prelude.{refl}
use Rattle.ptb_rows.specs.Rows.{AfterRows}
use Rattle.ptb_rows.proofs.Unfoldings.{on_programs}

pub after_rows : AfterRows
unfolding on_programs
after_rows = record {
  first_two = refl;
  two_after = refl;
  after_second = refl;
  after_last = refl;
  beginning_of_run = refl;
  outside = refl;
  too_long = refl;
  after_shorter = refl;
  greatest = refl;
  after_only = refl;
  empty_list = refl;
  fewer_left = refl;
}
