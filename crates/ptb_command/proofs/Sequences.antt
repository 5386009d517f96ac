-- This file proves that items are read one after the other, with no bound on their number.
-- Main lemma: `items_by_round`.
use Rattle.std.proofs.Common.{◌≡◌, ℕ, zero, suc, ◌-◌, ◌<◌, List, length, refl, ap, arith}
use Rattle.ptb_expr.specs.Reading.{Reading}
use Rattle.ptb_command.specs.Items.{Round, Last, Onward, in_front, with_others, items_within, items, Advances}

-- two ways to continue agree after a round if they agree where it continues
with_others_same : {X : Type 0} (f g : ℕ → Reading (List X)) (r : Round X)
    → ((x : X) (j : ℕ) → r ≡ Onward x j → f j ≡ g j) → with_others f r ≡ with_others g r
with_others_same f g (Last r) same = refl
with_others_same f g (Onward x j) same = ap (in_front x) (same x j refl)

-- enough rounds are enough
pub items_within_same : {X : Type 0} (n m : ℕ) (t : List ℕ) (round : ℕ → Round X) → Advances t round → (i : ℕ)
    → length t - i < n → length t - i < m → items_within n round i ≡ items_within m round i
unfolding items_within
items_within_same zero m t round on i h k = absurd (omega arith)
items_within_same (suc n) zero t round on i h k = absurd (omega arith)
items_within_same (suc n) (suc m) t round on i h k =
    with_others_same (items_within n round) (items_within m round) (round i)
    (λ x j e. let a = (on.ahead i j x e).after in let w = (on.ahead i j x e).within in
    items_within_same n m t round on j (omega arith) (omega arith))

pub enough_rounds : {X : Type 0} (t : List ℕ) (round : ℕ → Round X) (n i : ℕ) → Advances t round → length t - i < n
    → items_within n round i ≡ items t round i
unfolding items
enough_rounds t round n i on h = items_within_same n (suc (length t)) t round on i h (omega arith)

-- rounds are read one after the other
pub items_by_round : {X : Type 0} (t : List ℕ) (round : ℕ → Round X) → Advances t round → (i : ℕ)
    → items t round i ≡ with_others (items t round) (round i)
unfolding items items_within
items_by_round t round on i = items_within_same (suc (length t)) (suc (suc (length t))) t round on i (omega arith)
    (omega arith)
