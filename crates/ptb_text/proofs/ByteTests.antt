-- This file proves what a test of bytes says of the bytes at the front of a text, of those after them, and of all.
-- Main lemma: `list_all-from_none`.
use Rattle.std.proofs.Common.{◌≡◌, ℕ, zero, suc, ◌+◌, Bool, true, false, not, cond, ◌&&◌, ltb, List}
use Rattle.std.proofs.Common.{[], ◌∷◌, ◌++◌, length, drop, Some, None, refl, sym, ap, ◌∙◌, arith}
use Rattle.std.proofs.Common.{one-add}
use Rattle.std.specs.Prelude.{position}
use Rattle.std.specs.List.{list_all, prefix_len}
use Rattle.std.proofs.lemmas.Bool.Decides.{nat_tests}
use Rattle.ptb_text.proofs.SoundPrograms.{both_true}

abbrev Test : Type 0
Test = ℕ → Bool

-- ---- where no byte fails

not_found : (b : Bool) (k : ℕ) → cond b (Some k) None ≡ None → b ≡ false
not_found true k e = cc
not_found false k e = refl

less_more : (n m : ℕ) → ltb (1 + n) (suc m) ≡ ltb n m
less_more n m = grind (arith, nat_tests)

less_none : (m : ℕ) → ltb 0 (suc m) ≡ true
less_none m = grind (arith, nat_tests)

passes_more : (b : Bool) (n m : ℕ) → ltb (cond (not (not b)) (1 + n) 0) (suc m) ≡ false → (b ≡ true) × (ltb n m ≡ false)
passes_more true n m e = (refl, sym (less_more n m) ∙ e)
passes_more false n m e = let never = less_none m in cc

all_from_prefix : (p : Test) (xs : List ℕ) → ltb (prefix_len (λ x. not (not (p x))) xs) (length xs) ≡ false
    → list_all p xs ≡ true
all_from_prefix p [] e = refl
all_from_prefix p (x ∷ xs) e =
    let step = passes_more (p x) (prefix_len (λ y. not (not (p y))) xs) (length xs) e in
    ap (λ b. b && list_all p xs) step.0 ∙ all_from_prefix p xs step.1

pub list_all-from_none : (p : Test) (xs : List ℕ) → position (λ x. not (p x)) xs ≡ None → list_all p xs ≡ true
list_all-from_none p xs e = all_from_prefix p xs (not_found _ _ e)

-- the way back
none_from_prefix : (p : Test) (xs : List ℕ) → list_all p xs ≡ true
    → ltb (prefix_len (λ x. not (not (p x))) xs) (length xs) ≡ false
none_from_prefix p [] e = refl
none_from_prefix p (x ∷ xs) e =
    ap (λ b. ltb (cond (not (not b)) (1 + prefix_len (λ y. not (not (p y))) xs) 0) (suc (length xs)))
    (both_true _ _ e).0
    ∙ less_more (prefix_len (λ y. not (not (p y))) xs) (length xs) ∙ none_from_prefix p xs (both_true _ _ e).1

pub none_from_list_all : (p : Test) (xs : List ℕ) → list_all p xs ≡ true → position (λ x. not (p x)) xs ≡ None
none_from_list_all p xs e =
    ap (λ b. cond b (Some (prefix_len (λ x. not (not (p x))) xs)) None) (none_from_prefix p xs e)

-- ---- a part of the bytes

pub list_all-drop : (p : Test) (n : ℕ) (xs : List ℕ) → list_all p xs ≡ true → list_all p (drop n xs) ≡ true
list_all-drop p zero xs all = all
list_all-drop p (suc n) [] all = all
list_all-drop p (suc n) (x ∷ xs) all = list_all-drop p n xs (both_true _ _ all).1

-- the byte after the bytes at the front that pass doesn't pass
pub prefix_len-following : (p : Test) (xs : List ℕ) → prefix_len p (drop (prefix_len p xs) xs) ≡ 0
prefix_len-following p [] = refl
prefix_len-following p (x ∷ xs) =
    elim (p x) as (λ b. p x ≡ b → prefix_len p (drop (cond b (1 + prefix_len p xs) 0) (x ∷ xs)) ≡ 0) [
      | true ↦ λ e. rw one-add (prefix_len-following p xs)
      | false ↦ λ e. ap (λ b. cond b (1 + prefix_len p xs) 0) e
    ] refl

-- bytes that pass, in front of one that doesn't
pub prefix_len-whole : (p : Test) (xs : List ℕ) (y : ℕ) (ys : List ℕ) → list_all p xs ≡ true → p y ≡ false
    → prefix_len p (xs ++ y ∷ ys) ≡ length xs
prefix_len-whole p [] y ys all fails = ap (λ b. cond b (1 + prefix_len p ys) 0) fails
prefix_len-whole p (x ∷ xs) y ys all fails =
    ap (λ b. cond b (1 + prefix_len p (xs ++ y ∷ ys)) 0) (both_true _ _ all).0 ∙ one-add _
    ∙ ap suc (prefix_len-whole p xs y ys (both_true _ _ all).1 fails)
