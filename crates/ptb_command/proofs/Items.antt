-- This file proves what the items of PRINT are, by what is there.
-- Main lemmas: `round_open` and `round_closed`.
use Rattle.std.proofs.Common.{◌≡◌, ℕ, true, false, List, [], ◌∷◌, Some, None, refl, ap, ◌∙◌}
use Rattle.ptb_text.specs.Words.{token_at, QuotedText}
use Rattle.ptb_expr.specs.Reading.{Reading, Whole, Malformed, item_of, map_reading}
use Rattle.ptb_expr.specs.Evaluation.{IsWhole}
use Rattle.ptb_command.specs.Items.{Last, Onward, in_front, items}
use Rattle.ptb_command.specs.Commands.{Part, Say, NewLine, command_ends, end_check, string_at}
use Rattle.ptb_command.specs.Commands.{string_or_value, width_or, print_item, next_item, after_item}
use Rattle.ptb_command.specs.Commands.{item_round, print_parts_if, print_parts}

-- ---- an item

pub item_mapped : {A B : Type 0} (f : A → B) (r : Reading A) → item_of (map_reading f r) ≡ f (item_of r)
item_mapped f (Whole x j) = refl
item_mapped f (Malformed x) = refl

module _ (t : List ℕ) (i : ℕ) where
  pub item_text : (s : List ℕ) (j : ℕ) → token_at 35 t i ≡ None → string_at t i ≡ QuotedText s j
      → print_item t i ≡ Whole (Say s) j
  unfolding print_item
  item_text s j e k = ap (width_or t i) e ∙ ap (string_or_value t i) k

  -- ---- the item and what follows it

  -- no comma
  pub round_closed : (j : ℕ) → IsWhole (print_item t i) j → token_at 44 t j ≡ None
      → item_round t (print_item t i) ≡ Last (in_front (item_of (print_item t i)) (in_front NewLine (end_check t j)))
  round_closed j h e = ap (item_round t) h ∙ ap (after_item t (item_of (print_item t i)) j) e

  -- a comma, and the end
  pub round_open : (j k : ℕ) → IsWhole (print_item t i) j → token_at 44 t j ≡ Some k → command_ends t k ≡ true
      → item_round t (print_item t i) ≡ Last (Whole (item_of (print_item t i) ∷ []) k)
  round_open j k h e a = ap (item_round t) h ∙ ap (after_item t (item_of (print_item t i)) j) e
      ∙ ap (next_item t (item_of (print_item t i)) k) a

  -- a comma, and the next item
  pub round_on : (j k : ℕ) → IsWhole (print_item t i) j → token_at 44 t j ≡ Some k → command_ends t k ≡ false
      → item_round t (print_item t i) ≡ Onward (item_of (print_item t i)) k
  round_on j k h e a = ap (item_round t) h ∙ ap (after_item t (item_of (print_item t i)) j) e
      ∙ ap (next_item t (item_of (print_item t i)) k) a

  -- ---- all items

  pub print_nothing : command_ends t i ≡ true → print_parts t i ≡ Whole (NewLine ∷ []) i
  unfolding print_parts
  print_nothing e = ap (print_parts_if t i) e

  pub print_something : command_ends t i ≡ false → print_parts t i ≡ items t (λ j. item_round t (print_item t j)) i
  unfolding print_parts
  print_something e = ap (print_parts_if t i) e

-- ---- a round begins with its item

abbrev pub BeginsWith : Part → Reading (List Part) → Type 0
BeginsWith p r = (rest : List Part) × (item_of r ≡ p ∷ rest)
