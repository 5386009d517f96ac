-- This file proves the worked rows of programs that are refused, and of listings, by computation.
-- Main lemma: `refusal_rows`.
use Rattle.std.specs.Prelude.{refl}
use Rattle.std.specs.Fmt.{digits}
use Rattle.ptb_text.specs.Statements.{after_lines}
use Rattle.ptb_serve.specs.Replies.{program_of_text}
use Rattle.ptb_rows.specs.Rows.{RefusalRows, ListingRows}

pub refusal_rows : RefusalRows
unfolding after_lines program_of_text
refusal_rows = record {
  number = refl;
  no_number = refl;
  byte = refl;
  full = refl;
  long_text = refl;
  long_number = refl;
  all_runs = refl;
  second_line = refl;
}

pub listing_rows : ListingRows
unfolding digits after_lines program_of_text
listing_rows = record {
  listing = refl;
  empty = refl;
  line_order = refl;
}
