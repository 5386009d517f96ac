-- This file proves the worked rows of plain runs by computation.
-- Main lemmas: `answer_rows`, `loop_rows` and `run_fault_rows`.
use Rattle.std.specs.Prelude.{refl}
use Rattle.ptb_rows.proofs.Unfoldings.{on_programs}
use Rattle.ptb_rows.specs.PlayRows.{AnswerRows, PrintRows, InputRows, LoopRows, RunFaultRows}
use Rattle.ptb_rows.specs.PlayRows.{ArrayRows, LongRows, StepRows}

pub answer_rows : AnswerRows
unfolding on_programs
answer_rows = record {
  answer = refl;
  answer_left = refl;
  no_answer = refl;
  bad_answer = refl;
  bound_of_0 = refl;
  index_before_equals = refl;
  first_value_before_to = refl;
  roll_before_fault = refl;
}

pub print_rows : PrintRows
unfolding on_programs
print_rows = record {
  greeting = refl;
  strings = refl;
  printed_strings = refl;
  least_number = refl;
  widths = refl;
  open_quote = refl;
  number_too_big = refl;
  remark = refl;
  if_not = refl;
  if_short = refl;
  size_short = refl;
  memory_left = refl;
  newline = refl;
  open_line = refl;
  newline_before_end = refl;
  width_of_each = refl;
  least_width = refl;
  width_below_0 = refl;
  no_first_item = refl;
  no_item = refl;
}

pub input_rows : InputRows
unfolding on_programs
input_rows = record {
  random_input = refl;
  faulty_input = refl;
  input_used_up = refl;
  index_asked_again = refl;
  text_after_value = refl;
  unread = refl;
  input_quote = refl;
  index_asks_again = refl;
  string_again = refl;
  operator_alone = refl;
  parenthesis_after = refl;
  empty_line = refl;
  number_too_big = refl;
  no_room = refl;
  variables_then = refl;
  blanks_of_prompt = refl;
  return_before = refl;
  faulty_item = refl;
  no_item = refl;
  no_second_item = refl;
  no_variable = refl;
}

pub loop_rows : LoopRows
unfolding on_programs
loop_rows = record {
  loop = refl;
  one_turn = refl;
  sum_too_great = refl;
  subroutine = refl;
  loop_of_subroutine = refl;
  endless_calls = refl;
  nested256 = refl;
  no_call = refl;
  limit = refl;
  newer_loop_stays = refl;
  older_loop_ends = refl;
  newer_loops_end = refl;
  down = refl;
  step_0 = refl;
  limit_after_first = refl;
  no_letter = refl;
  outer_loop_again = refl;
  outer_loop_unseen = refl;
  loop_of_each_level = refl;
  no_such_subroutine = refl;
  subroutine_not_last = refl;
  return_semicolon = refl;
  stop_semicolon = refl;
  end_at_limit = refl;
  limit_after_one = refl;
  limit_before_fault = refl;
}

pub run_fault_rows : RunFaultRows
unfolding on_programs
run_fault_rows = record {
  misspelt = refl;
  unclosed = refl;
  no_such_line = refl;
  sign_after_operator = refl;
  compared_twice = refl;
  goto_not_last = refl;
  goto_semicolon = refl;
  two_semicolons = refl;
  division_by_0 = refl;
  product_too_great = refl;
  no_negation = refl;
  period = refl;
  letter_alone = refl;
  print_period = refl;
  mark_after_blank = refl;
  blank_at_end = refl;
  fresh_line = refl;
  element_not_opened = refl;
  prompt_not_opened = refl;
  if_semicolon = refl;
  if_alone = refl;
  first_of_table = refl;
  small_letters = refl;
  never_reached = refl;
  no_equals = refl;
}

pub array_rows : ArrayRows
unfolding on_programs
array_rows = record {
  element = refl;
  comparison_stored = refl;
  last_of_small_array = refl;
  past_small_array = refl;
  last_element = refl;
  past_element = refl;
  far_element = refl;
}

pub long_rows : LongRows
unfolding on_programs
long_rows = record {
  parens253 = refl;
  parens126 = refl;
  nines = refl;
  zeros = refl;
}

pub step_rows : StepRows
unfolding on_programs
step_rows = record {
  one_turn = refl;
  sum_too_great = refl;
  subroutine = refl;
  if_not = refl;
  remark = refl;
  loop = refl;
  endless_calls = refl;
  nested = refl;
  empty = refl;
  newer_loop_stays = refl;
  fault = refl;
  semicolon = refl;
  empty_command = refl;
}
