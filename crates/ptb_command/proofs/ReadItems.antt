-- This file proves what is read where an item is first, and where something is read to its end.
-- Main lemma: `item_in_front`.
use Rattle.std.proofs.Common.{◌≡◌, ℕ, List, ◌∷◌, refl, sym, ap, ◌∙◌}
use Rattle.ptb_expr.specs.Reading.{Reading, Whole, Malformed, item_of}
use Rattle.ptb_expr.specs.Evaluation.{IsWhole}
use Rattle.ptb_command.specs.Items.{in_front}

-- ---- readings

pub item_in_front : {X : Type 0} (x : X) (r : Reading (List X)) → item_of (in_front x r) ≡ x ∷ item_of r
item_in_front x (Whole xs j) = refl
item_in_front x (Malformed xs) = refl

-- what is whole is what was read
pub is_whole : {A : Type 0} (r : Reading A) (x : A) (j : ℕ) → r ≡ Whole x j → IsWhole r j
is_whole r x j e = e ∙ ap (λ y. Whole y j) (sym (ap item_of e))
