-- This file proves laws of lists of runs: their members, and that they rise where they are joined or some are left out.
-- Main lemma: `rising_answers`.
use Rattle.std.proofs.Common.{◌≡◌, ℕ, zero, suc, ◌+◌, ◌<◌, ◌≤◌, List, [], ◌∷◌, ◌++◌, length, Bool}
use Rattle.std.proofs.Common.{true, map, ◌⊎◌, inl, inr, refl, sym, arith, subst}
use Rattle.std.specs.Prelude.{ℤ, pos, negsuc, ◌<ℤ◌, int_le, Contains, slice_index_or}
use Rattle.std.specs.List.{filter, flat_map, range_with_len, AllByRecursion}
use Rattle.std.proofs.lemmas.Bool.{cases_Bool, cases_lt, and_parts, and_from, leb-true, le-leb}
use Rattle.std.proofs.lemmas.Int.{ints}
use Rattle.ptb_answers.specs.Outcome.{Answers, is_answer}
use Rattle.ptb_machine.proofs.PublicLemmas.{is_answer_from}
use Rattle.ptb_machine.specs.RunTree.{Before, IsRising, answers_to}

-- ---- members

abbrev pub IsIn : Answers → List Answers → Type 0
IsIn a [] = ⊥
IsIn a (b ∷ list) = (a ≡ b) ⊎ IsIn a list

pub in_contained : (a : Answers) (xs : List Answers) → IsIn a xs → Contains xs a
in_contained a [] h = absurd h
in_contained a (x ∷ xs) (inl e) = (0, omega arith, sym e)
in_contained a (x ∷ xs) (inr h) = let c = in_contained a xs h in (suc c.0, omega (arith, c.1), c.2)

pub contained_in : (a : Answers) (xs : List Answers) → Contains xs a → IsIn a xs
contained_in a xs c = at_place xs c.0 c.1 c.2
  where
    at_place : (xs : List Answers) (k : ℕ) → k < length xs → slice_index_or xs k a ≡ a → IsIn a xs
    at_place [] k l e = absurd (omega arith)
    at_place (x ∷ xs) zero l e = inl (sym e)
    at_place (x ∷ xs) (suc k) l e = inr (at_place xs k (omega arith) e)

pub in_append : (a : Answers) (xs ys : List Answers) → IsIn a (xs ++ ys) → IsIn a xs ⊎ IsIn a ys
in_append a [] ys h = inr h
in_append a (x ∷ xs) ys (inl e) = inl (inl e)
in_append a (x ∷ xs) ys (inr h) = elim (in_append a xs ys h) [ inl l ↦ inl (inr l) | inr r ↦ inr r ]

pub in_left : (a : Answers) (xs ys : List Answers) → IsIn a xs → IsIn a (xs ++ ys)
in_left a [] ys h = absurd h
in_left a (x ∷ xs) ys (inl e) = inl e
in_left a (x ∷ xs) ys (inr h) = inr (in_left a xs ys h)

pub in_right : (a : Answers) (xs ys : List Answers) → IsIn a ys → IsIn a (xs ++ ys)
in_right a [] ys h = h
in_right a (x ∷ xs) ys h = inr (in_right a xs ys h)

all_in : (P : Answers → Type 0) (xs : List Answers) → ((a : Answers) → IsIn a xs → P a) → AllByRecursion P xs
all_in P [] h = tt
all_in P (x ∷ xs) h = (h x (inl refl), all_in P xs (λ a i. h a (inr i)))

pub all_at : (P : Answers → Type 0) (xs : List Answers) (a : Answers) → AllByRecursion P xs → IsIn a xs → P a
all_at P [] a h i = absurd i
all_at P (x ∷ xs) a h (inl e) = subst P (sym e) h.0
all_at P (x ∷ xs) a h (inr i) = all_at P xs a h.1 i

all_append : (P : Answers → Type 0) (xs ys : List Answers) → AllByRecursion P xs → AllByRecursion P ys
    → AllByRecursion P (xs ++ ys)
all_append P [] ys h k = k
all_append P (x ∷ xs) ys h k = (h.0, all_append P xs ys h.1 k)

rising_append : (xs ys : List Answers) → IsRising xs → IsRising ys
    → ((a b : Answers) → IsIn a xs → IsIn b ys → Before a b) → IsRising (xs ++ ys)
rising_append [] ys h k apart = k
rising_append (x ∷ xs) ys h k apart = (
  all_append (Before x) xs ys h.0 (all_in (Before x) ys (λ b i. apart x b (inl refl) i)),
  rising_append xs ys h.1 k (λ a b i j. apart a b (inr i) j),
)

-- ---- the members that pass a test

pub filter_in : (p : Answers → Bool) (a : Answers) (xs : List Answers) → IsIn a (filter p xs) → IsIn a xs × (p a ≡ true)
filter_in p a [] h = absurd h
filter_in p a (x ∷ xs) h = elim (cases_Bool (p x)) [
  | inl t ↦ elim (kept t) [ inl e ↦ (inl e, rw e t) | inr i ↦ let r = filter_in p a xs i in (inr r.0, r.1) ]
  | inr f ↦ let r = filter_in p a xs (rw f at h) in (inr r.0, r.1)
]
  where
    kept : p x ≡ true → IsIn a (x ∷ filter p xs)
    kept t = rw t at h

pub in_filter : (p : Answers → Bool) (a : Answers) (xs : List Answers) → IsIn a xs → p a ≡ true → IsIn a (filter p xs)
in_filter p a [] i t = absurd i
in_filter p a (x ∷ xs) (inl e) t =
    let here : p x ≡ true = rw e at t in
    rw here (inl e)
in_filter p a (x ∷ xs) (inr i) t = elim (cases_Bool (p x)) [
  | inl k ↦ rw k (inr (in_filter p a xs i t))
  | inr d ↦ rw d (in_filter p a xs i t)
]

all_filter : (P : Answers → Type 0) (p : Answers → Bool) (xs : List Answers) → AllByRecursion P xs
    → AllByRecursion P (filter p xs)
all_filter P p [] h = tt
all_filter P p (x ∷ xs) h = elim (cases_Bool (p x)) [
  | inl k ↦ rw k (h.0, all_filter P p xs h.1)
  | inr d ↦ rw d (all_filter P p xs h.1)
]

pub rising_filter : (p : Answers → Bool) (xs : List Answers) → IsRising xs → IsRising (filter p xs)
rising_filter p [] h = tt
rising_filter p (x ∷ xs) h = elim (cases_Bool (p x)) [
  | inl k ↦ rw k (all_filter (Before x) p xs h.0, rising_filter p xs h.1)
  | inr d ↦ rw d (rising_filter p xs h.1)
]

-- ---- a list for each number from m on

in_branches : (f : ℤ → List Answers) (a : Answers) (m n : ℕ) → IsIn a (flat_map f (map pos (range_with_len m n)))
    → (k : ℕ) × (m ≤ k) × (k < m + n) × IsIn a (f (pos k))
in_branches f a m zero h = absurd h
in_branches f a m (suc n) h = elim (in_append a (f (pos m)) (flat_map f (map pos (range_with_len (m + 1) n))) h) [
  | inl l ↦ (m, omega arith, omega arith, l)
  | inr r ↦ let p = in_branches f a (m + 1) n r in (p.0, omega (arith, p.1), omega (arith, p.2), p.3)
]

branches_in : (f : ℤ → List Answers) (a : Answers) (m n k : ℕ) → m ≤ k → k < m + n → IsIn a (f (pos k))
    → IsIn a (flat_map f (map pos (range_with_len m n)))
branches_in f a m zero k l u h = absurd (omega arith)
branches_in f a m (suc n) k l u h = elim (cases_lt m k) [
  | inl lt ↦ in_right a (f (pos m)) _ (branches_in f a (m + 1) n k (omega arith) (omega arith) h)
  | inr ge ↦ let e : k ≡ m = omega arith in in_left a (f (pos m)) _ (rw e at h)
]

rising_branches : (f : ℤ → List Answers) (m n : ℕ) → ((k : ℕ) → m ≤ k → k < m + n → IsRising (f (pos k)))
    → ((j k : ℕ) (a b : Answers) → m ≤ j → j < k → k < m + n → IsIn a (f (pos j)) → IsIn b (f (pos k)) → Before a b)
    → IsRising (flat_map f (map pos (range_with_len m n)))
rising_branches f m zero each apart = tt
rising_branches f m (suc n) each apart =
    rising_append (f (pos m)) _ (each m (omega arith) (omega arith))
    (rising_branches f (m + 1) n (λ k l u. each k (omega arith) (omega arith))
    (λ j k a b l h u. apart j k a b (omega arith) h (omega arith)))
    (λ a b i j. let p = in_branches f b (m + 1) n j in
    apart m p.0 a b (omega arith) (omega (arith, p.1)) (omega (arith, p.2)) i p.3)

-- ---- a list for each answer to a question

pub in_answers : (f : ℤ → List Answers) (a : Answers) (n : ℤ) → IsIn a (flat_map f (answers_to n))
    → (k : ℤ) × (is_answer n k ≡ true) × IsIn a (f k)
in_answers f a (pos n) h = let p = in_branches f a 1 n h in
    (pos p.0, is_answer_from n p.0 p.1 (omega (arith, p.2)), p.3)
in_answers f a (negsuc n) h = absurd h

pub answers_in : (f : ℤ → List Answers) (a : Answers) (n k : ℤ) → is_answer n k ≡ true → IsIn a (f k)
    → IsIn a (flat_map f (answers_to n))
answers_in f a (pos n) (pos k) i h =
    let p = and_parts (int_le (pos 1) (pos k)) (int_le (pos k) (pos n)) i in
    let u : k ≤ n = leb-true k n p.1 in
    branches_in f a 1 n k (leb-true 1 k p.0) (omega arith) h
answers_in f a (pos n) (negsuc k) i h = absurd cc
answers_in f a (negsuc n) (pos k) i h = let p = and_parts (int_le (pos 1) (pos k)) (int_le (pos k) (negsuc n)) i in
    let c = p.1 in absurd cc
answers_in f a (negsuc n) (negsuc k) i h = absurd cc

pub rising_answers : (f : ℤ → List Answers) (n : ℤ) → ((k : ℤ) → is_answer n k ≡ true → IsRising (f k))
    → ((j k : ℤ) (a b : Answers) → is_answer n j ≡ true → is_answer n k ≡ true → j <ℤ k → IsIn a (f j) → IsIn b (f k)
    → Before a b)
    → IsRising (flat_map f (answers_to n))
rising_answers f (pos n) each apart =
    rising_branches f 1 n (λ k l u. each (pos k) (is_answer_from n k l (omega arith)))
    (λ j k a b l h u. apart (pos j) (pos k) a b (is_answer_from n j l (omega arith))
    (is_answer_from n k (omega arith) (omega arith)) (omega (arith, ints)))
rising_answers f (negsuc n) each apart = tt
