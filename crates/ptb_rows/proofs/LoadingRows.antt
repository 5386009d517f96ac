-- This file proves the worked rows of loading, listing, words and tokens by computation.
-- Main lemma: `loading_rows`.
use Rattle.std.specs.Prelude.{refl}
use Rattle.ptb_rows.proofs.Unfoldings.{on_programs}
use Rattle.ptb_rows.specs.LoadingRows.{LoadingRows, WordRows}

pub loading_rows : LoadingRows
unfolding on_programs
loading_rows = record {
  listed = refl;
  listing = refl;
  too_big = refl;
  full = refl;
  bad_byte = refl;
  no_number = refl;
  long_number = refl;
  long_text = refl;
  order = refl;
  replaced = refl;
  one_byte_more = refl;
  longest_text = refl;
  nothing_deleted = refl;
  blanks_at_end = refl;
  greatest_number = refl;
  blank_line_counted = refl;
  byte_before_number = refl;
  number_before_text = refl;
  text_before_memory = refl;
  no_last = refl;
  no_line = refl;
  empty_line = refl;
  return_alone = refl;
  one_return = refl;
  input = refl;
  dropped = refl;
  longest_input = refl;
}

pub word_rows : WordRows
unfolding on_programs
word_rows = record {
  goto = refl;
  gosub = refl;
  return = refl;
  return_cut = refl;
  rem = refl;
  next = refl;
  let_cut = refl;
  for_joined = refl;
  gosub_whole = refl;
  blank_within = refl;
  blank_before_period = refl;
  if = refl;
  input = refl;
  stop = refl;
  print = refl;
  no_letter = refl;
  no_period = refl;
  rnd = refl;
  abs = refl;
  size = refl;
  no_function = refl;
  to = refl;
  step = refl;
  semicolon = refl;
  at_least = refl;
  variable = refl;
  digits = refl;
  too_great = refl;
  string = refl;
  unclosed = refl;
  no_quote = refl;
}
