-- This file proves the worked rows of shares of a tree by computation.
-- Main lemma: `share_rows`.
use Rattle.std.specs.Prelude.{refl}
use Rattle.ptb_rows.specs.Rows.{ShareRows}
use Rattle.ptb_rows.proofs.Unfoldings.{on_programs}

pub share_rows : ShareRows
unfolding on_programs
share_rows = record {
  second_answer = refl;
  first_of_share = refl;
  after_one = refl;
  run_alone = refl;
  first_answer = refl;
  with_bounds = refl;
  whole = refl;
  too_long = refl;
  outside = refl;
  other_bound = refl;
  after_another = refl;
  neither = refl;
  empty_program = refl;
}
