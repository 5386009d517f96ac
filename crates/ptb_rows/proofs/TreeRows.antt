-- This file proves the worked rows of runs and of their reports by computation.
-- Main lemma: `tree_rows`.
use Rattle.std.specs.Prelude.{refl}
use Rattle.ptb_rows.proofs.Unfoldings.{on_programs}
use Rattle.ptb_rows.specs.TreeRows.{TreeRows, ReportRows}

pub tree_rows : TreeRows
unfolding on_programs
tree_rows = record {
  no_question = refl;
  two_rolls = refl;
  nested_roll = refl;
  with_fault = refl;
  after_first = refl;
  after_last = refl;
  past_end = refl;
  split_after_none = refl;
  split_of_no_question = refl;
  split_after_one = refl;
  split_after_two = refl;
  split_with_fault = refl;
  split_past_end = refl;
  whole = refl;
  beginning = refl;
  too_long = refl;
  outside = refl;
  their_bounds = refl;
  shorter = refl;
  longer = refl;
  smaller = refl;
  greater = refl;
  numbers = refl;
  ten_after_nine = refl;
  beginning_before = refl;
  beginning_after = refl;
}

pub report_rows : ReportRows
unfolding on_programs
report_rows = record {
  none = refl;
  one_answer = refl;
  two_answers = refl;
  no_steps_left = refl;
  no_newline_shown = refl;
  one_bound = refl;
  two_bounds = refl;
  no_bounds = refl;
  some_bounds = refl;
  fault = refl;
  fault_with_bounds = refl;
  greatest = refl;
  greatest_with_bound = refl;
  right_bounds = refl;
  right_first = refl;
  right_last = refl;
  wrong_first = refl;
  wrong_last = refl;
  none_stated = refl;
  their_answers = refl;
}
