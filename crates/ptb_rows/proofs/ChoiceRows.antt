-- This file proves the worked rows of answers instead of missing lines by computation.
-- Main lemma: `choice_rows`.
use Rattle.std.specs.Prelude.{refl}
use Rattle.ptb_rows.specs.Rows.{ChoiceRows}
use Rattle.ptb_rows.proofs.Unfoldings.{on_programs}

pub choice_rows : ChoiceRows
unfolding on_programs
choice_rows = record {
  each_answer = refl;
  after_faulty_line = refl;
  index_and_value = refl;
  no_answer = refl;
  bad_answer = refl;
  answer = refl;
  line_first = refl;
  no_line_asked_for = refl;
  only_answer = refl;
  greatest = refl;
  drawn = refl;
  limit = refl;
  after_first = refl;
  first_one = refl;
  after_none = refl;
}
