-- This file proves with which part a LET, a FOR and a NEXT begin.
-- Main lemmas: `assigns_something` and `for_letter`.
use Rattle.std.proofs.Common.{◌≡◌, ℕ, true, false, List, Option, Some, None, refl, sym, ap}
use Rattle.std.specs.Prelude.{is_some, option_map}
use Rattle.std.proofs.lemmas.Bool.{false≢true}
use Rattle.ptb_text.specs.declared.word.Word.{Word}
use Rattle.ptb_text.specs.Words.{letter_at, token_at}
use Rattle.ptb_expr.specs.declared.fault.FaultKind.TheVariants.{What}
use Rattle.ptb_expr.specs.Tree.{Tree, Bad}
use Rattle.ptb_expr.specs.Reading.{Reading, Whole, Malformed, item_of, after as after_reading}
use Rattle.ptb_expr.specs.Reading.{expression, variable_tree}
use Rattle.ptb_command.specs.Items.{in_front}
use Rattle.ptb_command.specs.Commands.{Part, Assign, Letter, value_part, assignment, defect, end_check}
use Rattle.ptb_command.specs.Commands.{first_parts, for_by, for_parts, next_by, next_parts}
use Rattle.ptb_command.proofs.Items.{item_mapped}

-- ---- an assignment

value_is : (t : List ℕ) (x : Tree) (j : ℕ) (o : Option ℕ) → (y : Tree) × (item_of (value_part t x j o) ≡ Assign x y)
value_is t x j (Some k) = (item_of (expression t k), item_mapped (Assign x) (expression t k))
value_is t x j None = (Bad What j, refl)

variable_and : List ℕ → ℕ → Reading Tree → Reading Part
variable_and t i r = after_reading r (λ x. Assign x (Bad What i)) (λ x j. value_part t x j (token_at 61 t j))

assign_is : (t : List ℕ) (i : ℕ) (r : Reading Tree) → (y : Tree) × (item_of (variable_and t i r) ≡ Assign (item_of r) y)
unfolding variable_and
assign_is t i (Whole x j) = value_is t x j (token_at 61 t j)
assign_is t i (Malformed x) = (Bad What i, refl)

module _ (t : List ℕ) (i : ℕ) where
  -- its variable comes first, whatever follows
  pub assigns_something : (y : Tree) × (item_of (assignment t i) ≡ Assign (item_of (variable_tree t i)) y)
  unfolding assignment variable_and
  assigns_something = assign_is t i (variable_tree t i)

-- ---- FOR and NEXT

pub no_word : (o : Option (Word × ℕ)) (r : Option Word) (j : ℕ) → is_some r ≡ false → o ≡ option_map (λ w. (w, j)) r
    → o ≡ None
no_word o (Some w) j n e = absurd (false≢true (sym n))
no_word o None j n e = e

module _ (t : List ℕ) (i : ℕ) where
  pub for_letter : (x j : ℕ) → letter_at t i ≡ Some (x, j)
      → for_parts t i ≡ in_front (Letter x) (first_parts t x j (token_at 61 t j))
  unfolding for_parts
  for_letter x j e = ap (for_by t i) e

  pub for_no_letter : letter_at t i ≡ None → for_parts t i ≡ defect i
  unfolding for_parts
  for_no_letter e = ap (for_by t i) e

  pub next_letter : (x j : ℕ) → letter_at t i ≡ Some (x, j) → next_parts t i ≡ in_front (Letter x) (end_check t j)
  unfolding next_parts
  next_letter x j e = ap (next_by t i) e

  pub next_no_letter : letter_at t i ≡ None → next_parts t i ≡ defect i
  unfolding next_parts
  next_no_letter e = ap (next_by t i) e
