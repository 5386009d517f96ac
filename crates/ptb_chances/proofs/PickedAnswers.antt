-- This file proves how a list of answers is split at one of them.
-- Main lemma: `all_taken`.
use Rattle.std.proofs.Common.{◌≡◌, ℕ, zero, suc, ◌+◌, ◌<◌, List, [], ◌∷◌, ◌++◌, map, length, take}
use Rattle.std.proofs.Common.{drop, Some, refl, ap, sym, ◌∙◌, arith, append-nil, append_assoc}
use Rattle.std.specs.Prelude.{ℤ, pos, slice_get}
use Rattle.std.specs.List.{flat_map, range_with_len}

pub whole : {A : Type 0} (xs : List A) → take (length xs) xs ≡ xs
whole [] = refl
whole (x ∷ xs) = ap (λ ys. x ∷ ys) (whole xs)

pub all_taken : {A : Type 0} (xs : List A) (n : ℕ) → n ≡ length xs → take n xs ++ [] ≡ xs
all_taken xs n is = append-nil (take n xs) ∙ ap (λ m. take m xs) is ∙ whole xs

pub next_taken : {A : Type 0} (xs : List A) (n : ℕ) (x : A) → slice_get xs n ≡ Some x
    → xs ≡ take n xs ++ x ∷ drop (suc n) xs
next_taken [] n x is = absurd cc
next_taken (y ∷ xs) zero x is = let same : y ≡ x = cc in ap (λ z. z ∷ xs) same
next_taken (y ∷ xs) (suc n) x is = ap (λ ys. y ∷ ys) (next_taken xs n x is)

pub range_split : {X : Type 0} (f : ℤ → List X) (s k m : ℕ) → s + k ≡ m
    → flat_map f (map pos (range_with_len s (suc k))) ≡ flat_map f (map pos (range_with_len s k)) ++ f (pos m)
range_split f s zero m is = append-nil (f (pos s)) ∙ ap (λ n. f (pos n)) (let same : s ≡ m = omega (arith, is) in same)
range_split f s (suc k) m is =
    ap (λ ys. f (pos s) ++ ys) (range_split f (s + 1) k m (omega (arith, is)))
    ∙ sym (append_assoc (f (pos s)) (flat_map f (map pos (range_with_len (s + 1) k))) (f (pos m)))

pub above_none : (n : ℕ) → 0 < n → (d : ℕ) × (n ≡ suc d)
above_none zero some = absurd (omega (arith, some))
above_none (suc d) some = (d, refl)
