-- This file proves that the chances of all runs add up to 1.
-- Main lemma: `whole_chance`.
use Rattle.std.proofs.Common.{◌≡◌, ℕ, zero, suc, ◌+◌, ◌*◌, ◌<◌, ◌≤◌, [], ◌∷◌, ◌++◌, length, map}
use Rattle.std.proofs.Common.{List, true, inl, inr, refl, ap, sym, ◌∙◌, subst, arith, length-append}
use Rattle.std.specs.Prelude.{ℤ, pos, negsuc, ◌≤ℤ◌}
use Rattle.std.specs.List.{flat_map, range_with_len}
use Rattle.std.proofs.lemmas.Nat.{mul-le}
use Rattle.std.proofs.lemmas.Int.{ints}
use Rattle.ptb_numbers.specs.Fractions.{Ratio, plus, Equals}
use Rattle.ptb_answers.specs.Outcome.{Answers, Outcome, Done, Asks, IsReader, is_open, is_answer, bound_of, bounds}
use Rattle.ptb_answers.proofs.PublicLemmas.{open_is}
use Rattle.ptb_machine.specs.RunTree.{answers_to, leaves, leaves_of, tree}
use Rattle.ptb_chances.specs.Chances.{answer_count, bound_product, chance, chance_of_all}
use Rattle.ptb_machine.proofs.PublicLemmas.{bounds-append}
use Rattle.ptb_machine.proofs.PublicLemmas.{is_answer_from}
use Rattle.ptb_chances.proofs.Sums.{parts_same, plus_assoc, equals_plus, equals_then}

-- ---- sums of fractions

plus_none : (f : Ratio) → plus (record { numerator = 0; denominator = 1 }) f ≡ f
plus_none f = parts_same (0 * f.denominator + f.numerator * 1) (1 * f.denominator) f.numerator f.denominator
    (omega arith) (omega arith)

-- ---- chances

product_push : (ns : List ℤ) (n : ℤ) → bound_product (ns ++ n ∷ []) ≡ bound_product ns * answer_count n
product_push [] n = omega arith
product_push (m ∷ ns) n = rw (product_push ns n) (omega arith)

no_bound : (n : ℕ) → pos 1 ≤ℤ negsuc n → ⊥
no_bound n some = omega (arith, ints, some)

count_some : (n : ℤ) → pos 1 ≤ℤ n → 1 ≤ answer_count n
count_some (pos n) some = omega (arith, ints, some)
count_some (negsuc n) some = absurd (no_bound n some)

module _ {A W : Type 0} (play : Answers → Outcome A W) where
  all_append : (s t : List Answers) → chance_of_all play (s ++ t) ≡ plus (chance_of_all play s) (chance_of_all play t)
  all_append [] t = sym (plus_none (chance_of_all play t))
  all_append (a ∷ s) t = ap (plus (chance (bounds play a))) (all_append s t)
      ∙ sym (plus_assoc (chance (bounds play a)) (chance_of_all play s) (chance_of_all play t))

  -- m groups of runs that each have the chance 1/d
  groups : (g : ℤ → List Answers) (d s m : ℕ) → 0 < d
      → ((i : ℕ) → s ≤ i → i < s + m
      → Equals (chance_of_all play (g (pos i))) (record { numerator = 1; denominator = d }))
      → Equals (chance_of_all play (flat_map g (map pos (range_with_len s m))))
      (record { numerator = m; denominator = d })
  groups g d s zero some each = omega arith
  groups g d s (suc m) some each =
      let rest = flat_map g (map pos (range_with_len (s + 1) m)) in
      let first = each s (omega arith) (omega arith) in
      let others = groups g d (s + 1) m some (λ i low high. each i (omega arith) (omega arith)) in
      let sum = equals_plus (chance_of_all play (g (pos s))) (record { numerator = 1; denominator = d })
      (chance_of_all play rest) (record { numerator = m; denominator = d }) first others in
      let last : Equals (plus (record { numerator = 1; denominator = d }) (record { numerator = m; denominator = d }))
      (record { numerator = suc m; denominator = d }) = omega arith in
      subst (λ (f : Ratio). Equals f (record { numerator = suc m; denominator = d }))
      (sym (all_append (g (pos s)) rest))
      (equals_then (plus (chance_of_all play (g (pos s))) (chance_of_all play rest))
      (plus (record { numerator = 1; denominator = d }) (record { numerator = m; denominator = d }))
      (record { numerator = suc m; denominator = d }) (mul-le 1 1 d d some some) sum last)

  -- a sum has a denominator where both parts have one
  append_positive : (s t : List Answers) → 0 < (chance_of_all play s).denominator
      → 0 < (chance_of_all play t).denominator → 0 < (chance_of_all play (s ++ t)).denominator
  append_positive s t first second =
      subst (λ (f : Ratio). 0 < f.denominator) (sym (all_append s t))
      (mul-le 1 1 (chance_of_all play s).denominator (chance_of_all play t).denominator first second)

  groups_positive : (g : ℤ → List Answers) (s m : ℕ)
      → ((i : ℕ) → s ≤ i → i < s + m → 0 < (chance_of_all play (g (pos i))).denominator)
      → 0 < (chance_of_all play (flat_map g (map pos (range_with_len s m)))).denominator
  groups_positive g s zero each = omega arith
  groups_positive g s (suc m) each =
      append_positive (g (pos s)) (flat_map g (map pos (range_with_len (s + 1) m))) (each s (omega arith) (omega arith))
      (groups_positive g (s + 1) m (λ i low high. each i (omega arith) (omega arith)))

module _ {A W : Type 0} (play : Answers → Outcome A W) (most : ℕ) (reads : IsReader play most) where
  asked_bounds : (q : Answers) (k n : ℤ) (w : W) → play q ≡ Asks n w
      → bounds play (q ++ k ∷ []) ≡ bounds play q ++ n ∷ []
  asked_bounds q k n w asks = bounds-append play [] q (k ∷ []) ∙ ap (λ o. bounds play q ++ bound_of o ∷ []) asks

  more_bounds : (q : Answers) (k n : ℤ) (w : W) → play q ≡ Asks n w
      → bound_product (bounds play (q ++ k ∷ [])) ≡ bound_product (bounds play q) * answer_count n
  more_bounds q k n w asks = ap bound_product (asked_bounds q k n w asks) ∙ product_push (bounds play q) n

  more_positive : (q : Answers) (k n : ℤ) (w : W) → play q ≡ Asks n w → 0 < bound_product (bounds play q)
      → 0 < bound_product (bounds play (q ++ k ∷ []))
  more_positive q k n w asks some =
      rw (more_bounds q k n w asks) (mul-le 1 1 (bound_product (bounds play q)) (answer_count n) some
      (count_some n (reads.positive q n w asks)))

  done_leaves : (d : ℕ) (q : Answers) (x : A) → play q ≡ Done x [] → leaves play q d ≡ q ∷ []
  done_leaves zero q x done = ap (leaves_of q _) done
  done_leaves (suc d) q x done = ap (leaves_of q _) done

  asked_leaves : (d : ℕ) (q : Answers) (n : ℤ) (w : W) → play q ≡ Asks n w
      → leaves play q (suc d) ≡ flat_map (λ k. leaves play (q ++ k ∷ []) d) (answers_to n)
  asked_leaves d q n w asks = ap (leaves_of q _) asks

  whole : (d : ℕ) (q : Answers) (x : A) → play q ≡ Done x []
      → Equals (chance_of_all play (leaves play q d)) (chance (bounds play q))
  whole d q x done =
      let one : Equals (chance_of_all play (q ∷ [])) (chance (bounds play q)) = omega arith in
      subst (λ (runs : List Answers). Equals (chance_of_all play runs) (chance (bounds play q)))
      (sym (done_leaves d q x done)) one

  split : (d : ℕ) (q : Answers) (n : ℤ) (w : W) → play q ≡ Asks n w → 0 < bound_product (bounds play q)
      → ((k : ℤ) → is_answer n k ≡ true
      → Equals (chance_of_all play (leaves play (q ++ k ∷ []) d)) (chance (bounds play (q ++ k ∷ []))))
      → Equals (chance_of_all play (leaves play q (suc d))) (chance (bounds play q))
  split d q (negsuc n) w asks some each = absurd (no_bound n (reads.positive q (negsuc n) w asks))
  split d q (pos n) w asks some each =
      let more : 1 ≤ n = count_some (pos n) (reads.positive q (pos n) w asks) in
      let product = bound_product (bounds play q) * n in
      let positive : 0 < bound_product (bounds play q) * n = mul-le 1 1 (bound_product (bounds play q)) n some more in
      let below : (i : ℕ) → 1 ≤ i → i < 1 + n → Equals (chance_of_all play (leaves play (q ++ pos i ∷ []) d))
      (record { numerator = 1; denominator = bound_product (bounds play q) * n }) =
      λ i low high. rw (more_bounds q (pos i) (pos n) w asks) at
      (each (pos i) (is_answer_from n i low (omega arith))) in
      let all = groups play (λ k. leaves play (q ++ k ∷ []) d) (bound_product (bounds play q) * n) 1 n positive below in
      let last : Equals (record { numerator = n; denominator = bound_product (bounds play q) * n })
      (chance (bounds play q)) = omega arith in
      subst (λ (runs : List Answers). Equals (chance_of_all play runs) (chance (bounds play q)))
      (sym (asked_leaves d q (pos n) w asks))
      (equals_then (chance_of_all play (flat_map (λ k. leaves play (q ++ k ∷ []) d) (answers_to (pos n))))
      (record { numerator = n; denominator = bound_product (bounds play q) * n })
      (chance (bounds play q)) positive all last)

  -- the runs that begin with q have its chance together
  leaves_chance : (d : ℕ) (q : Answers) → is_open (play q) ≡ true → most ≤ length q + d
      → 0 < bound_product (bounds play q)
      → Equals (chance_of_all play (leaves play q d)) (chance (bounds play q))
  leaves_chance zero q whole_or_asks room some = elim (open_is (play q) whole_or_asks) [
    | inl e ↦ whole zero q e.0 e.1
    | inr e ↦ absurd (omega (arith, reads.few q e.0 e.1 e.2))
  ]
  leaves_chance (suc d) q whole_or_asks room some = elim (open_is (play q) whole_or_asks) [
    | inl e ↦ whole (suc d) q e.0 e.1
    | inr e ↦ split d q e.0 e.1 e.2 some (λ k inside. leaves_chance d (q ++ k ∷ []) (reads.inside q e.0 k e.1 e.2
        inside) (omega (arith, length-append q (k ∷ []))) (more_positive q k e.0 e.1 e.2 some))
  ]

  pub whole_chance : Equals (chance_of_all play (tree play most)) (record { numerator = 1; denominator = 1 })
  whole_chance = leaves_chance most [] reads.begins (omega arith) (omega arith)

  -- ---- their denominator

  whole_positive : (d : ℕ) (q : Answers) (x : A) → play q ≡ Done x [] → 0 < bound_product (bounds play q)
      → 0 < (chance_of_all play (leaves play q d)).denominator
  whole_positive d q x done some =
      let one : 0 < (chance_of_all play (q ∷ [])).denominator = omega (arith, some) in
      subst (λ (runs : List Answers). 0 < (chance_of_all play runs).denominator) (sym (done_leaves d q x done)) one

  split_positive : (d : ℕ) (q : Answers) (n : ℤ) (w : W) → play q ≡ Asks n w
      → ((k : ℤ) → is_answer n k ≡ true → 0 < (chance_of_all play (leaves play (q ++ k ∷ []) d)).denominator)
      → 0 < (chance_of_all play (leaves play q (suc d))).denominator
  split_positive d q (negsuc n) w asks each = absurd (no_bound n (reads.positive q (negsuc n) w asks))
  split_positive d q (pos n) w asks each =
      let below : (i : ℕ) → 1 ≤ i → i < 1 + n → 0 < (chance_of_all play (leaves play (q ++ pos i ∷ []) d)).denominator =
      λ i low high. each (pos i) (is_answer_from n i low (omega arith)) in
      subst (λ (runs : List Answers). 0 < (chance_of_all play runs).denominator) (sym (asked_leaves d q (pos n) w asks))
      (groups_positive play (λ k. leaves play (q ++ k ∷ []) d) 1 n below)

  leaves_positive : (d : ℕ) (q : Answers) → is_open (play q) ≡ true → most ≤ length q + d
      → 0 < bound_product (bounds play q)
      → 0 < (chance_of_all play (leaves play q d)).denominator
  leaves_positive zero q whole_or_asks room some = elim (open_is (play q) whole_or_asks) [
    | inl e ↦ whole_positive zero q e.0 e.1 some
    | inr e ↦ absurd (omega (arith, reads.few q e.0 e.1 e.2))
  ]
  leaves_positive (suc d) q whole_or_asks room some = elim (open_is (play q) whole_or_asks) [
    | inl e ↦ whole_positive (suc d) q e.0 e.1 some
    | inr e ↦ split_positive d q e.0 e.1 e.2 (λ k inside. leaves_positive d (q ++ k ∷ []) (reads.inside q e.0 k e.1 e.2
        inside) (omega (arith, length-append q (k ∷ []))) (more_positive q k e.0 e.1 e.2 some))
  ]

  pub sum_positive : 0 < (chance_of_all play (tree play most)).denominator
  sum_positive = leaves_positive most [] reads.begins (omega arith) (omega arith)
