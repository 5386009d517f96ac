-- This file proves what is left of a listing after its next run, and that no run is between the front and a raised
-- plan.
-- Main lemma: `left_next`.
use Rattle.std.proofs.Common.{◌≡◌, ℕ, List, [], ◌∷◌, ◌++◌, Bool, true, false, ◌&&◌, inl, inr, refl}
use Rattle.std.proofs.Common.{ap, sym, subst, ◌∙◌, arith, append_assoc, append-nil}
use Rattle.std.specs.Prelude.{ℤ, pos, ◌+ℤ◌, ◌≤ℤ◌, int_le}
use Rattle.std.proofs.lemmas.Bool.{false_from_ne_true, and_parts, and_from}
use Rattle.std.proofs.lemmas.Int.{ints}
use Rattle.std.specs.List.{filter}
use Rattle.ptb_answers.specs.Outcome.{Answers, Outcome, IsReader, bound_of, is_answer, is_open}
use Rattle.ptb_machine.specs.RunTree.{IsRun, IsRising, tree, is_before, Before, Front, Start, At}
use Rattle.ptb_machine.specs.RunTree.{End, is_after, is_left, begins_with, runs_after, IsNextRun}
use Rattle.ptb_machine.specs.RunTree.{IsLast}
use Rattle.ptb_explore.specs.Plans.{AllOnes}
use Rattle.ptb_explore.proofs.Lists.{IsIn, all_at, in_filter}
use Rattle.ptb_explore.proofs.Order.{before_step, before_self, before_then, before_not_back}
use Rattle.ptb_explore.proofs.Tree.{run_asks, tree_rises, tree_runs}

-- ---- what is left

-- tests that agree on the members keep the same ones
filter_same : (p q : Answers → Bool) (xs : List Answers) → ((b : Answers) → IsIn b xs → p b ≡ q b)
    → filter p xs ≡ filter q xs
filter_same p q [] h = refl
filter_same p q (x ∷ xs) h = rw (h x (inl refl), filter_same p q xs (λ b i. h b (inr i))) refl

filter_drops : (p : Answers → Bool) (xs : List Answers) → ((b : Answers) → IsIn b xs → p b ≡ false) → filter p xs ≡ []
filter_drops p [] h = refl
filter_drops p (x ∷ xs) h = rw (h x (inl refl)) (filter_drops p xs (λ b i. h b (inr i)))

-- what is left is after the front, and begins with the answers under which the listing is
pub left_after : (under : Answers) (front : Front) (a : Answers) → is_left under front a ≡ true
    → is_after front a ≡ true
left_after under front a h = let p = and_parts (begins_with a under) (is_after front a) h in p.1

pub left_begins : (under : Answers) (front : Front) (a : Answers) → is_left under front a ≡ true
    → begins_with a under ≡ true
left_begins under front a h = let p = and_parts (begins_with a under) (is_after front a) h in p.0

pub left_from : (under : Answers) (front : Front) (a : Answers) → begins_with a under ≡ true → is_after front a ≡ true
    → is_left under front a ≡ true
left_from under front a b h = and_from (begins_with a under) (is_after front a) b h

-- what comes after what is after the front is after the front
after_then : (front : Front) (a b : Answers) → is_after front a ≡ true → Before a b → is_after front b ≡ true
after_then Start a b h k = refl
after_then (At f) a b h k = before_then f a b h k
after_then End a b h k = h

-- in a rising list, what is left begins with the first that is, and continues with what is left after that
filter_next : (under : Answers) (front : Front) (r : Answers) (xs : List Answers) → IsRising xs → IsIn r xs
    → is_left under front r ≡ true → ((b : Answers) → IsIn b xs → is_left under front b ≡ true → Before b r → ⊥)
    → filter (is_left under front) xs ≡ r ∷ filter (is_left under (At r)) xs
filter_next under front r [] up i h none = absurd i
filter_next under front r (x ∷ xs) up (inl e) h none =
    let hx : is_left under front x ≡ true = rw (← e) h in
    let self : is_left under (At r) x ≡ false =
    false_from_ne_true _ (λ t. before_self x (rw e at (left_after under (At r) x t))) in
    let rest : filter (is_left under front) xs ≡ filter (is_left under (At r)) xs = filter_same _ _ xs (λ b i.
    let later : Before x b = all_at (Before x) xs b up.0 i in
    let since : is_after front b ≡ true = after_then front x b (left_after under front x hx) later in
    let following : is_before r b ≡ true = rw e later in
    ap (λ t. begins_with b under && t) (since ∙ sym following)) in
    rw (hx, self) (ap (λ s. x ∷ s) rest ∙ ap (λ z. z ∷ filter (is_left under (At r)) xs) (sym e))
filter_next under front r (x ∷ xs) up (inr i) h none =
    let below : Before x r = all_at (Before x) xs r up.0 i in
    let no : is_left under front x ≡ false = false_from_ne_true _ (λ t. none x (inl refl) t below) in
    let back : is_left under (At r) x ≡ false =
    false_from_ne_true _ (λ t. before_not_back x r below (left_after under (At r) x t)) in
    rw (no, back) (filter_next under front r xs up.1 i h (λ b j. none b (inr j)))

same_head : (a b : Answers) (xs ys : List Answers) → a ∷ xs ≡ b ∷ ys → a ≡ b
same_head a b xs ys e = cc

module _ {A W : Type 0} (play : Answers → Outcome A W) (most : ℕ) (reads : IsReader play most) where
  -- what is left after the front is the next run, and what is left after that
  pub left_next : (under : Answers) (front : Front) (r : Answers) → IsNextRun play under front r
      → runs_after play most under front ≡ r ∷ runs_after play most under (At r)
  left_next under front r n =
      filter_next under front r (tree play most) (tree_rises play most reads)
      ((tree_runs play most reads r).1 n.run) n.left
      (λ b i h k. n.first b ((tree_runs play most reads b).0 i) h k)

  -- there is one next run
  pub next_same : (under : Answers) (front : Front) (a b : Answers) → IsNextRun play under front a
      → IsNextRun play under front b → a ≡ b
  next_same under front a b h k = same_head a b (runs_after play most under (At a)) (runs_after play most under (At b))
      (sym (left_next under front a h) ∙ left_next under front b k)

  pub none_left : (under : Answers) (front : Front) → runs_after play most under front ≡ [] → IsLast play under front
  none_left under front none b r l =
      subst (IsIn b) none (in_filter (is_left under front) b (tree play most) ((tree_runs play most reads b).1 r) l)

  pub left_none : (under : Answers) (front : Front) → IsLast play under front → runs_after play most under front ≡ []
  left_none under front none =
      filter_drops _ (tree play most) (λ b i. false_from_ne_true _ (λ t. none b ((tree_runs play most reads b).0 i) t))

-- ---- no run between

-- what continues from the plan with ones and is a run is the next run that is left
pub record IsPlan {A W : Type 0} (play : Answers → Outcome A W) (under : Answers) (front : Front)
    (plan : Answers) : Type 0 where
  pub opens : is_open (play plan) ≡ true
  pub next : (ones : Answers) → AllOnes ones → IsRun play (plan ++ ones) → IsNextRun play under front (plan ++ ones)

-- each answer is at its bound
abbrev pub AtTop : {A W : Type 0} → (Answers → Outcome A W) → Answers → Answers → Type 0
AtTop play p [] = Unit {0}
AtTop play p (k ∷ ks) = (bound_of (play p) ≤ℤ k) × AtTop play (p ++ k ∷ []) ks

pub is_answer_is : (n k : ℤ) → is_answer n k ≡ true → (pos 1 ≤ℤ k) × (k ≤ℤ n)
is_answer_is n k h = let p = and_parts (int_le (pos 1) k) (int_le k n) h in
    (let l = p.0 in grind (arith, ints), let u = p.1 in grind (arith, ints))

module _ {A W : Type 0} (play : Answers → Outcome A W) (most : ℕ) (reads : IsReader play most) where
  bound_at : (p s : Answers) (k : ℤ) → IsRun play (p ++ k ∷ s) → (pos 1 ≤ℤ k) × (k ≤ℤ bound_of (play p))
  bound_at p s k r = let a = run_asks play most reads p s k r in let i = is_answer_is a.0 k a.3 in (i.0, rw a.2 i.1)

  -- no run goes below answers of 1
  pub ones_first : (p s ones : Answers) → AllOnes ones → IsRun play (p ++ s) → Before s ones → ⊥
  ones_first p [] ones o r h = absurd cc
  ones_first p (x ∷ s) [] o r h = absurd cc
  ones_first p (x ∷ s) (y ∷ ones) o r h = let b = bound_at p s x r in elim (before_step x y s ones h) [
    | inl l ↦ let e = o.0 in let u = b.0 in absurd (omega (arith, ints))
    | inr q ↦ ones_first (p ++ x ∷ []) s ones o.1 (rw append_assoc r) q.1
  ]

  -- no run goes above answers at their bounds
  pub top_last : (p s t : Answers) → AtTop play p t → IsRun play (p ++ s) → Before t s → ⊥
  top_last p s [] o r h = absurd cc
  top_last p [] (y ∷ t) o r h = absurd cc
  top_last p (x ∷ s) (y ∷ t) o r h = let b = bound_at p s x r in elim (before_step y x t s h) [
    | inl l ↦ let e = o.0 in let u = b.1 in absurd (omega (arith, ints))
    | inr q ↦ top_last (p ++ x ∷ []) s t (rw (← q.0) o.1) (rw append_assoc r) q.1
  ]

  -- no run is between a list whose last answers are at their bounds, and the list with the answer before these raised
  -- by one and ones after it
  pub between_none : (p q c t ones : Answers) (k : ℤ) → AtTop play ((p ++ q) ++ k ∷ []) t → AllOnes ones
      → IsRun play (p ++ c) → Before (q ++ k ∷ t) c → Before c (q ++ (k +ℤ pos 1) ∷ ones) → ⊥
  between_none p [] [] t ones k top o r low high = absurd cc
  between_none p (x ∷ q) [] t ones k top o r low high = absurd cc
  between_none p [] (y ∷ c) t ones k top o r low high = elim (before_step k y t c low) [
    | inl l ↦ elim (before_step y (k +ℤ pos 1) c ones high) [
      | inl m ↦ absurd (omega (arith, ints))
      | inr m ↦ ones_first (p ++ y ∷ []) c ones o (rw append_assoc r) m.1
    ]
    | inr m ↦ top_last (p ++ y ∷ []) c t (let u : AtTop play (p ++ k ∷ []) t = rw append-nil at top in
        rw (← m.0) u) (rw append_assoc r) m.1
  ]
  between_none p (x ∷ q) (y ∷ c) t ones k top o r low high = elim (before_step x y (q ++ k ∷ t) c low) [
    | inl l ↦ elim (before_step y x c (q ++ (k +ℤ pos 1) ∷ ones) high) [
      | inl m ↦ absurd (omega (arith, ints))
      | inr m ↦ let e = m.0 in absurd (omega (arith, ints))
    ]
    | inr l ↦ elim (before_step y x c (q ++ (k +ℤ pos 1) ∷ ones) high) [
      | inl m ↦ let e = l.0 in absurd (omega (arith, ints))
      | inr m ↦ between_none (p ++ y ∷ []) q c t ones k (rw (append_assoc p (y ∷ []) q, m.0) top) o
          (rw append_assoc r) l.1 m.1
    ]
  ]
