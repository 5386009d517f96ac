-- This file proves laws of the order of lists, by the first place at which two of them differ.
-- Main lemma: `before_then`.
use Rattle.std.proofs.Common.{◌≡◌, ◌++◌, [], ◌∷◌, true, ◌&&◌, ◌⊎◌, inl, inr, refl, ap, ◌∙◌, arith}
use Rattle.std.specs.Prelude.{ℤ, ◌<ℤ◌, int_lt}
use Rattle.std.specs.Ordering.{int_eq}
use Rattle.std.proofs.lemmas.Bool.{or_cases, and_parts, and_from, or_left, or_right}
use Rattle.std.proofs.lemmas.Bool.Decides.{Decides-int_eq}
use Rattle.std.proofs.lemmas.Int.{ints}
use Rattle.ptb_answers.specs.Outcome.{Answers}
use Rattle.ptb_machine.specs.RunTree.{is_before, Before, begins_with}

-- ---- tests of numbers

pub less_is : (x y : ℤ) → int_lt x y ≡ true → x <ℤ y
less_is x y h = grind (arith, ints)

pub less_from : (x y : ℤ) → x <ℤ y → int_lt x y ≡ true
less_from x y h = grind (arith, ints)

pub same_is : (x y : ℤ) → int_eq x y ≡ true → x ≡ y
same_is x y h = (Decides-int_eq x y).0 h

pub same_from : (x : ℤ) → int_eq x x ≡ true
same_from x = (Decides-int_eq x x).1 refl

-- ---- one list before another

pub before_step : (x y : ℤ) (a b : Answers) → Before (x ∷ a) (y ∷ b) → (x <ℤ y) ⊎ ((x ≡ y) × Before a b)
before_step x y a b h = elim (or_cases (int_lt x y) (int_eq x y && is_before a b) h) [
  | inl l ↦ inl (less_is x y l)
  | inr r ↦ let p = and_parts (int_eq x y) (is_before a b) r in inr (same_is x y p.0, p.1)
]

pub before_from_less : (x y : ℤ) (a b : Answers) → x <ℤ y → Before (x ∷ a) (y ∷ b)
before_from_less x y a b l = or_left (int_lt x y) _ (less_from x y l)

pub before_from_same : (x : ℤ) (a b : Answers) → Before a b → Before (x ∷ a) (x ∷ b)
before_from_same x a b h = or_right (int_lt x x) _ (and_from (int_eq x x) (is_before a b) (same_from x) h)

pub before_prefixed : (q a b : Answers) → Before a b → Before (q ++ a) (q ++ b)
before_prefixed [] a b h = h
before_prefixed (x ∷ q) a b h = before_from_same x (q ++ a) (q ++ b) (before_prefixed q a b h)

pub before_front : (q a b : Answers) → Before (q ++ a) (q ++ b) → Before a b
before_front [] a b h = h
before_front (x ∷ q) a b h = elim (before_step x x (q ++ a) (q ++ b) h) [
  | inl l ↦ absurd (omega (arith, ints))
  | inr p ↦ before_front q a b p.1
]

pub before_from_differ : (front a b : Answers) (x y : ℤ) → x <ℤ y → Before (front ++ x ∷ a) (front ++ y ∷ b)
before_from_differ front a b x y l = before_prefixed front (x ∷ a) (y ∷ b) (before_from_less x y a b l)

pub before_self : (a : Answers) → Before a a → ⊥
before_self [] h = absurd cc
before_self (x ∷ a) h = elim (before_step x x a a h) [
  | inl l ↦ absurd (omega (arith, ints))
  | inr p ↦ before_self a p.1
]

pub before_then : (a b c : Answers) → Before a b → Before b c → Before a c
before_then [] b c h k = absurd cc
before_then (x ∷ a) [] c h k = absurd cc
before_then (x ∷ a) (y ∷ b) [] h k = absurd cc
before_then (x ∷ a) (y ∷ b) (z ∷ c) h k = elim (before_step x y a b h) [
  | inl l ↦ elim (before_step y z b c k) [
    | inl m ↦ before_from_less x z a c (omega (arith, ints))
    | inr q ↦ before_from_less x z a c (let e = q.0 in omega (arith, ints))
  ]
  | inr p ↦ let e = p.0 in elim (before_step y z b c k) [
    | inl m ↦ before_from_less x z a c (omega (arith, ints))
    | inr q ↦ let f : x ≡ z = p.0 ∙ q.0 in rw (← f) (before_from_same x a c (before_then a b c p.1 q.1))
  ]
]

pub before_not_back : (a b : Answers) → Before a b → Before b a → ⊥
before_not_back a b h k = before_self a (before_then a b a h k)

-- ---- beginnings

pub begins_is : (a u : Answers) → begins_with a u ≡ true → (s : Answers) × (a ≡ u ++ s)
begins_is a [] h = (a, refl)
begins_is [] (y ∷ u) h = absurd cc
begins_is (x ∷ a) (y ∷ u) h =
    let p = and_parts (int_eq x y) (begins_with a u) h in
    let r = begins_is a u p.1 in
    (r.0, ap (λ z. z ∷ a) (same_is x y p.0) ∙ ap (λ s. y ∷ s) r.1)

pub begins_from : (u s : Answers) → begins_with (u ++ s) u ≡ true
begins_from [] s = refl
begins_from (x ∷ u) s = and_from (int_eq x x) (begins_with (u ++ s) u) (same_from x) (begins_from u s)

-- what continues after one list that is before another is before what continues after that
pub before_more : (u v s t : Answers) → Before u v → Before (u ++ s) (v ++ t)
before_more [] v s t h = absurd cc
before_more (x ∷ u) [] s t h = absurd cc
before_more (x ∷ u) (y ∷ v) s t h = elim (before_step x y u v h) [
  | inl l ↦ before_from_less x y (u ++ s) (v ++ t) l
  | inr p ↦ let e = p.0 in rw (← e) (before_from_same x (u ++ s) (v ++ t) (before_more u v s t p.1))
]
