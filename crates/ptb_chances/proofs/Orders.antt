-- This file proves that the order of results distinguishes them, and what the list of different results has.
-- Main lemmas: `has_results` and `results_rise`.
use Rattle.std.proofs.Common.{◌≡◌, ℕ, Bool, true, false, ◌||◌, List, [], ◌∷◌, get_or, refl, ap, sym, ◌∙◌}
use Rattle.std.specs.Cmp.Lexicographic.{slice_cmp}
use Rattle.std.specs.List.{AllByRecursion, list_any}
use Rattle.std.specs.List.Sorted.{IsStrictlySortedBy}
use Rattle.std.specs.Ordering.{nat_cmp, ordering_then, ordering_reverse, is_eq}
use Rattle.std.specs.declared.cmp.Ordering.{Ordering}
use Rattle.std.specs.declared.cmp.Ordering.TheVariants.{Less, Equal, Greater}
use Rattle.std.proofs.lemmas.Map.Keys.{sorted_head, sorted_tail}
use Rattle.std.proofs.lemmas.Map.Lookups.{exact_unsigned, exact_bytes}
use Rattle.ptb_command.specs.declared.ending.Ending.{Ending}
use Rattle.ptb_command.specs.declared.ending.Ending.TheVariants as endings
use Rattle.ptb_chances.specs.Chances.{RunResult, rank, result_order, placed, with_result, results}
use Rattle.ptb_machine.proofs.PublicLemmas.{every_ending}
use Rattle.ptb_chances.specs.Order.{result_order_total}

-- ---- what is equal in the order is the same

ending_at : ℕ → Ending
ending_at n = get_or (endings.End ∷ endings.Stop ∷ endings.What ∷ endings.How ∷ endings.Sorry ∷ endings.Limit
    ∷ endings.NoInput ∷ endings.NoAnswer ∷ []) n endings.BadAnswer

ending_back : (e : Ending) → ending_at (rank e) ≡ e
unfolding ending_at
ending_back = every_ending (λ e. ending_at (rank e) ≡ e) refl refl refl refl refl refl refl refl refl

rank_exact : (e f : Ending) → rank e ≡ rank f → e ≡ f
rank_exact e f h = sym (ending_back e) ∙ ap ending_at h ∙ ending_back f

both_equal : (o p : Ordering) → ordering_then o p ≡ Equal → (o ≡ Equal) × (p ≡ Equal)
both_equal Less p h = absurd cc
both_equal Equal p h = (refl, h)
both_equal Greater p h = absurd cc

parts_same : (e f : Ending) (l m : List ℕ) → e ≡ f → l ≡ m
    → ◌≡◌ {A = RunResult} (record { ending = e; line = l }) (record { ending = f; line = m })
parts_same e f l m first second = rw (first, second) refl

pub result_exact : (r s : RunResult) → result_order r s ≡ Equal → r ≡ s
result_exact r s h =
    let parts = both_equal (nat_cmp (rank r.ending) (rank s.ending)) (slice_cmp nat_cmp r.line s.line) h in
    parts_same r.ending s.ending r.line s.line (rank_exact r.ending s.ending
    (exact_unsigned (rank r.ending) (rank s.ending) parts.0)) (exact_bytes r.line s.line parts.1)

-- ---- the order from both sides

equal_turned : (o : Ordering) → is_eq (ordering_reverse o) ≡ is_eq o
equal_turned Less = refl
equal_turned Equal = refl
equal_turned Greater = refl

pub equal_back : (r s : RunResult) → is_eq (result_order r s) ≡ is_eq (result_order s r)
equal_back r s = ap is_eq (result_order_total.antisymm r s) ∙ equal_turned (result_order s r)

pub less_back : (r s : RunResult) → result_order r s ≡ Greater → result_order s r ≡ Less
less_back r s h = result_order_total.antisymm s r ∙ ap ordering_reverse h

pub less_apart : (r s : RunResult) → result_order r s ≡ Less → is_eq (result_order r s) ≡ false
less_apart r s h = ap is_eq h

-- ---- what lists of results have

abbrev pub has : RunResult → List RunResult → Bool
has q ks = list_any (λ k. is_eq (result_order q k)) ks

or_twice : (a x : Bool) → a || x ≡ a || (a || x)
or_twice true x = refl
or_twice false x = refl

or_turned : (a b x : Bool) → a || (b || x) ≡ b || (a || x)
or_turned true true x = refl
or_turned true false x = refl
or_turned false true x = refl
or_turned false false x = refl

pub has_with : (q r : RunResult) (ks : List RunResult) → has q (with_result r ks) ≡ is_eq (result_order q r) || has q ks
has_with q r [] = refl
has_with q r (s ∷ rest) = by_order (has_with q r rest) (result_order r s) refl
  where
    by_order : has q (with_result r rest) ≡ is_eq (result_order q r) || has q rest → (o : Ordering)
        → result_order r s ≡ o
        → has q (placed o r s rest (with_result r rest))
        ≡ is_eq (result_order q r) || (is_eq (result_order q s) || has q rest)
    by_order later Less h = refl
    by_order later Equal h =
        let same : is_eq (result_order q s) ≡ is_eq (result_order q r) =
        ap (λ x. is_eq (result_order q x)) (sym (result_exact r s h)) in
        or_twice (is_eq (result_order q s)) (has q rest) ∙ ap (λ b. b || (is_eq (result_order q s) || has q rest)) same
    by_order later Greater h = ap (λ b. is_eq (result_order q s) || b) later
        ∙ or_turned (is_eq (result_order q s)) (is_eq (result_order q r)) (has q rest)

pub has_results : (q : RunResult) (rs : List RunResult) → has q (results rs) ≡ has q rs
has_results q [] = refl
has_results q (r ∷ rs) = has_with q r (results rs) ∙ ap (λ b. is_eq (result_order q r) || b) (has_results q rs)

-- ---- they rise

all_then : (P Q : RunResult → Type 0) → ((k : RunResult) → P k → Q k) → (ks : List RunResult) → AllByRecursion P ks
    → AllByRecursion Q ks
all_then P Q f [] h = tt
all_then P Q f (k ∷ ks) h = (f k h.0, all_then P Q f ks h.1)

less_with : (s r : RunResult) (ks : List RunResult) → result_order s r ≡ Less
    → AllByRecursion (λ y. result_order s y ≡ Less) ks
    → AllByRecursion (λ y. result_order s y ≡ Less) (with_result r ks)
less_with s r [] h all = (h, tt)
less_with s r (k ∷ ks) h all = by_order (less_with s r ks h all.1) (result_order r k)
  where
    by_order : AllByRecursion (λ y. result_order s y ≡ Less) (with_result r ks) → (o : Ordering)
        → AllByRecursion (λ y. result_order s y ≡ Less) (placed o r k ks (with_result r ks))
    by_order later Less = (h, all)
    by_order later Equal = all
    by_order later Greater = (all.0, later)

sorted_cons : (k : RunResult) (ks : List RunResult) → AllByRecursion (λ y. result_order k y ≡ Less) ks
    → IsStrictlySortedBy result_order ks → IsStrictlySortedBy result_order (k ∷ ks)
unfolding IsStrictlySortedBy
sorted_cons k ks h rest = (h, rest)

sorted_nil : IsStrictlySortedBy result_order []
unfolding IsStrictlySortedBy
sorted_nil = tt

with_rises : (r : RunResult) (ks : List RunResult) → IsStrictlySortedBy result_order ks
    → IsStrictlySortedBy result_order (with_result r ks)
with_rises r [] up = sorted_cons r [] tt sorted_nil
with_rises r (s ∷ rest) up = by_order (with_rises r rest (sorted_tail result_order s rest up)) (result_order r s) refl
  where
    below : AllByRecursion (λ y. result_order s y ≡ Less) rest
    below = sorted_head result_order s rest up

    by_order : IsStrictlySortedBy result_order (with_result r rest) → (o : Ordering) → result_order r s ≡ o
        → IsStrictlySortedBy result_order (placed o r s rest (with_result r rest))
    by_order later Less h = sorted_cons r (s ∷ rest) (
      h,
      all_then (λ y. result_order s y ≡ Less)
          (λ y. result_order r y ≡ Less) (λ y l. result_order_total.trans r s y h l) rest below,
    ) up
    by_order later Equal h = up
    by_order later Greater h = sorted_cons s (with_result r rest) (less_with s r rest (less_back r s h) below) later

pub results_rise : (rs : List RunResult) → IsStrictlySortedBy result_order (results rs)
results_rise [] = sorted_nil
results_rise (r ∷ rs) = with_rises r (results rs) (results_rise rs)
