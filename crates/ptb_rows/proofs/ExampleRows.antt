-- This file proves the examples of the document on the language by computation.
-- Main lemma: `example_rows`.
use Rattle.std.specs.Prelude.{refl}
use Rattle.ptb_rows.specs.Rows.{ExampleRows}
use Rattle.ptb_rows.proofs.Unfoldings.{on_programs}

pub example_rows : ExampleRows
unfolding on_programs
example_rows = record {
  two_dice = refl;
  many = refl;
  twelve = refl;
  open_paren = refl;
  blank_before_mark = refl;
  no_blanks = refl;
  blank_in_word = refl;
}
