-- This file proves the worked rows of expressions by computation.
-- Main lemma: `value_rows`.
use Rattle.std.specs.Prelude.{refl}
use Rattle.ptb_rows.proofs.Unfoldings.{on_programs}
use Rattle.ptb_rows.specs.ExpressionRows.{ValueRows}

pub value_rows : ValueRows
unfolding on_programs
value_rows = record {
  two_rolls = refl;
  no_answer = refl;
  bad_answer = refl;
  no_bound = refl;
  sign_in_front = refl;
  apart = refl;
  at_most = refl;
  at_most_end = refl;
  unclosed = refl;
  least = refl;
  too_great = refl;
  element = refl;
  past_end = refl;
  below_0 = refl;
  no_product = refl;
  first_product = refl;
  product_in_front = refl;
  truth = refl;
  quotient = refl;
  towards_zero = refl;
  by_zero = refl;
  size = refl;
  only_answer = refl;
  only_answer_asked = refl;
  left_first = refl;
  left_asked_first = refl;
  left_fault_first = refl;
  left_compared_first = refl;
  asked_before_missing = refl;
  asked_before_unclosed = refl;
  mark_of_operator = refl;
  mark_of_function = refl;
  mark_of_missing = refl;
  mark_of_unclosed = refl;
  mark_of_number = refl;
  mark_of_minus = refl;
  absolute = refl;
  no_absolute = refl;
  product_too_low = refl;
  quotient_too_low = refl;
  difference_too_low = refl;
  least_compared = refl;
  plus_in_front = refl;
  not_equal = refl;
  digits_apart = refl;
  one_comparison = refl;
}
