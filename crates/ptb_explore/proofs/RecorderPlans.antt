-- This file proves what a recorder's plan has next, and that ones come after it.
-- Main lemma: `next_planned`.
use Rattle.std.proofs.Common.{◌≡◌, ℕ, zero, suc, ◌+◌, ◌-◌, ◌<◌, ◌≤◌, List, [], ◌∷◌, ◌++◌, length}
use Rattle.std.proofs.Common.{get_or, take, replicate, arith, ap, sym, ◌∙◌, length-append}
use Rattle.std.proofs.Common.{append_assoc}
use Rattle.std.specs.Prelude.{ℤ, pos}
use Rattle.std.proofs.lemmas.List.{take-append-le, replicate-append-replicate}

-- what a list has at n comes next in each of its longer beginnings
pub next_planned : (xs : List ℤ) (n p : ℕ) (g : ℤ) → n < p → p ≤ length xs → g ≡ get_or xs n g
    → (rest : List ℤ) × (take p xs ≡ take n xs ++ g ∷ rest)
next_planned [] n p g l u e = absurd (omega arith)
next_planned (x ∷ xs) n zero g l u e = absurd (omega arith)
next_planned (x ∷ xs) zero (suc p) g l u e = (take p xs, ap (λ y. y ∷ take p xs) (sym e))
next_planned (x ∷ xs) (suc n) (suc p) g l u e = let r = next_planned xs n p g (omega arith) (omega arith) e in
    (r.0, ap (λ y. x ∷ y) r.1)

-- one more 1 after a plan and ones
pub ones_push : (xs : List ℤ) (p : ℕ) → p ≤ length xs → xs ≡ take p xs ++ replicate (length xs - p) (pos 1)
    → xs ++ pos 1 ∷ [] ≡ take p (xs ++ pos 1 ∷ []) ++ replicate (length (xs ++ pos 1 ∷ []) - p) (pos 1)
ones_push xs p l e =
    let n : length (xs ++ pos 1 ∷ []) - p ≡ (length xs - p) + 1 = omega (arith, length-append xs (pos 1 ∷ [])) in
    ap (λ s. s ++ pos 1 ∷ []) e ∙ append_assoc (take p xs) (replicate (length xs - p) (pos 1)) (pos 1 ∷ [])
    ∙ ap (λ s. take p xs ++ s) (replicate-append-replicate (length xs - p) 1 (pos 1))
    ∙ sym (ap (λ k. take p (xs ++ pos 1 ∷ []) ++ replicate k (pos 1)) n
    ∙ ap (λ s. s ++ replicate ((length xs - p) + 1) (pos 1)) (take-append-le p xs (pos 1 ∷ []) l))
