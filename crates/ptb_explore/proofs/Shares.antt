-- This file proves that the runs that begin with some answers are those of its shares, one after the other.
-- Main lemma: `share_laws`.
use Rattle.std.proofs.Common.{◌≡◌, ℕ, zero, suc, ◌+◌, ◌≤◌, List, [], ◌∷◌, ◌++◌, length, true, ◌↔◌}
use Rattle.std.proofs.Common.{inl, inr, refl, ap, sym, ◌∙◌, subst, arith, append_assoc, append-nil}
use Rattle.std.proofs.Common.{length-append}
use Rattle.std.specs.Prelude.{ℤ, pos, Contains, ◌<ℤ◌, int_le}
use Rattle.std.proofs.lemmas.Bool.{and_from}
use Rattle.std.proofs.lemmas.Int.{ints}
use Rattle.std.specs.List.{flat_map, AllByRecursion}
use Rattle.std.proofs.lemmas.Grind.{flat_map-append}
use Rattle.ptb_answers.specs.Outcome.{Answers, Outcome, Asks, IsReader, is_answer, is_open}
use Rattle.ptb_answers.proofs.PublicLemmas.{open_is, whole_is}
use Rattle.ptb_explore.specs.Laws.{ShareLaws}
use Rattle.ptb_explore.specs.Listing.{text}
use Rattle.ptb_explore.specs.Plans.{AllOnes}
use Rattle.ptb_machine.specs.RunTree.{Front, Start, IsLast, IsRun, IsRising, Before, answers_to}
use Rattle.ptb_machine.specs.RunTree.{begins_with, is_after, is_left, runs_after, tree}
use Rattle.ptb_explore.proofs.Lists.{IsIn, all_at, answers_in, contained_in, filter_in, in_answers}
use Rattle.ptb_explore.proofs.Lists.{in_filter, rising_answers, rising_filter}
use Rattle.ptb_explore.proofs.NextRuns.{IsPlan, left_after, left_begins, left_from}
use Rattle.ptb_explore.proofs.Order.{before_from_differ, before_more, before_not_back, before_self}
use Rattle.ptb_explore.proofs.Order.{begins_from, begins_is}
use Rattle.ptb_explore.proofs.Tree.{run_apart, run_asks, run_open, tree_rises, tree_runs}

-- ---- rising lists with the same members

-- after the same first member
after_first : (x y : Answers) (xs ys : List Answers) → x ≡ y → AllByRecursion (Before x) xs
    → ((a : Answers) → IsIn a (x ∷ xs) → IsIn a (y ∷ ys)) → (a : Answers) → IsIn a xs → IsIn a ys
after_first x y xs ys e up f a i = elim (f a (inr i)) [
  | inl d ↦ absurd (before_self x (subst (Before x) (d ∙ sym e) (all_at (Before x) xs a up i)))
  | inr j ↦ j
]

same_first : (x y : Answers) (xs ys : List Answers) → AllByRecursion (Before x) xs → AllByRecursion (Before y) ys
    → IsIn x (y ∷ ys) → IsIn y (x ∷ xs) → x ≡ y
same_first x y xs ys up down (inl e) q = e
same_first x y xs ys up down (inr i) (inl e) = sym e
same_first x y xs ys up down (inr i) (inr j) =
    absurd (before_not_back x y (all_at (Before x) xs y up j) (all_at (Before y) ys x down i))

same_rising : (xs ys : List Answers) → IsRising xs → IsRising ys → ((a : Answers) → IsIn a xs → IsIn a ys)
    → ((a : Answers) → IsIn a ys → IsIn a xs) → xs ≡ ys
same_rising [] [] up down f g = refl
same_rising [] (y ∷ ys) up down f g = absurd (g y (inl refl))
same_rising (x ∷ xs) [] up down f g = absurd (f x (inl refl))
same_rising (x ∷ xs) (y ∷ ys) up down f g =
    let e : x ≡ y = same_first x y xs ys up.0 down.0 (f x (inl refl)) (g y (inl refl)) in
    let rest : xs ≡ ys = same_rising xs ys up.1 down.1 (after_first x y xs ys e up.0 f)
    (after_first y x ys xs (sym e) down.0 g) in
    ap (λ z. z ∷ xs) e ∙ ap (λ s. y ∷ s) rest

pub text_each : (report : Answers → List ℕ) (f : ℤ → List Answers) (ks : List ℤ)
    → text report (flat_map f ks) ≡ flat_map (λ k. text report (f k)) ks
text_each report f [] = refl
text_each report f (k ∷ ks) = flat_map-append report (f k) (flat_map f ks)
    ∙ ap (λ s. text report (f k) ++ s) (text_each report f ks)

bound_is : {A W : Type 0} (m n : ℤ) (v w : W) → ◌≡◌ {A = Outcome A W} (Asks m v) (Asks n w) → m ≡ n
bound_is m n v w e = cc

module _ {A W : Type 0} (play : Answers → Outcome A W) (most : ℕ) (reads : IsReader play most) where
  pub run_in : (under : Answers) (f : Front) (a : Answers) → IsIn a (runs_after play most under f)
      → IsRun play a × (is_left under f a ≡ true)
  run_in under f a i = let p = filter_in (is_left under f) a (tree play most) i in
      ((tree_runs play most reads a).0 p.0, p.1)

  in_run : (under : Answers) (f : Front) (a : Answers) → IsRun play a → is_left under f a ≡ true
      → IsIn a (runs_after play most under f)
  in_run under f a r l = in_filter (is_left under f) a (tree play most) ((tree_runs play most reads a).1 r) l

  after_rises : (under : Answers) (f : Front) → IsRising (runs_after play most under f)
  after_rises under f = rising_filter (is_left under f) (tree play most) (tree_rises play most reads)

  module _ (under : Answers) (n : ℤ) (w : W) (f : Front) (asks : play under ≡ Asks n w) where
    abbrev share : ℤ → List Answers
    share k = runs_after play most (under ++ k ∷ []) f

    -- a run that begins with the answers has one to the question after them
    share_of : (a s : Answers) → a ≡ under ++ s → IsRun play a → is_after f a ≡ true
        → IsIn a (flat_map share (answers_to n))
    share_of a [] e r h = let v = whole_is (play a) r in
        let g : play a ≡ Asks n w = ap play (e ∙ append-nil under) ∙ asks in
        absurd cc
    share_of a (k ∷ s) e r h =
        let q = run_asks play most reads under s k (rw e at r) in
        let same : q.0 ≡ n = bound_is q.0 n q.1 w (sym q.2 ∙ asks) in
        let is : a ≡ (under ++ k ∷ []) ++ s = e ∙ sym (append_assoc under (k ∷ []) s) in
        let begins : begins_with a (under ++ k ∷ []) ≡ true = ap (λ b. begins_with b (under ++ k ∷ [])) is
        ∙ begins_from (under ++ k ∷ []) s in
        answers_in share a n k (subst (λ m. is_answer m k ≡ true) same q.3)
        (in_run (under ++ k ∷ []) f a r (left_from (under ++ k ∷ []) f a begins h))

    in_share : (a : Answers) → IsIn a (runs_after play most under f) → IsIn a (flat_map share (answers_to n))
    in_share a i =
        let p = run_in under f a i in
        let b = begins_is a under (left_begins under f a p.1) in
        share_of a b.0 b.1 p.0 (left_after under f a p.1)

    of_share : (a : Answers) → IsIn a (flat_map share (answers_to n)) → IsIn a (runs_after play most under f)
    of_share a i =
        let k = in_answers share a n i in
        let p = run_in (under ++ k.0 ∷ []) f a k.2 in
        let b = begins_is a (under ++ k.0 ∷ []) (left_begins (under ++ k.0 ∷ []) f a p.1) in
        let is : a ≡ under ++ k.0 ∷ b.0 = b.1 ∙ append_assoc under (k.0 ∷ []) b.0 in
        let begins : begins_with a under ≡ true = ap (λ c. begins_with c under) is ∙ begins_from under (k.0 ∷ b.0) in
        in_run under f a p.0 (left_from under f a begins (left_after (under ++ k.0 ∷ []) f a p.1))

    shares_apart : (j k : ℤ) (a b : Answers) → j <ℤ k → IsIn a (share j) → IsIn b (share k) → Before a b
    shares_apart j k a b l h t =
        let x = begins_is a (under ++ j ∷ []) (left_begins (under ++ j ∷ []) f a (run_in (under ++ j ∷ []) f a h).1) in
        let y = begins_is b (under ++ k ∷ []) (left_begins (under ++ k ∷ []) f b (run_in (under ++ k ∷ []) f b t).1) in
        rw (x.1, y.1) (before_more (under ++ j ∷ []) (under ++ k ∷ []) x.0 y.0 (before_from_differ under [] [] j k l))

    joined : runs_after play most under f ≡ flat_map share (answers_to n)
    joined =
        same_rising (runs_after play most under f) (flat_map share (answers_to n)) (after_rises under f)
        (rising_answers share n (λ k i. after_rises (under ++ k ∷ []) f)
        (λ j k a b i m l h t. shares_apart j k a b l h t)) in_share of_share

    pub question : (report : Answers → List ℕ)
        → text report (runs_after play most under f)
        ≡ flat_map (λ k. text report (runs_after play most (under ++ k ∷ []) f)) (answers_to n)
    question report = ap (text report) joined ∙ text_each report share (answers_to n)

  -- with ones after a question, a run is reached
  some_run : (d : ℕ) (u : Answers) → most ≤ length u + d → is_open (play u) ≡ true
      → (s : Answers) × AllOnes s × IsRun play (u ++ s)
  some_run zero u l o = elim (open_is (play u) o) [
    | inl e ↦ ([], tt, rw (append-nil u, e.1) refl)
    | inr q ↦ let f = reads.few u q.0 q.1 q.2 in absurd (omega arith)
  ]
  some_run (suc d) u l o = elim (open_is (play u) o) [
    | inl e ↦ ([], tt, rw (append-nil u, e.1) refl)
    | inr q ↦
        let least = reads.positive u q.0 q.1 q.2 in
        let one : is_answer q.0 (pos 1) ≡ true =
        and_from (int_le (pos 1) (pos 1)) (int_le (pos 1) q.0) refl (grind (arith, ints)) in
        let p = some_run d (u ++ pos 1 ∷ []) (omega (arith, length-append u (pos 1 ∷ [])))
        (reads.inside u q.0 (pos 1) q.1 q.2 one) in
        (pos 1 ∷ p.0, (refl, p.1), rw (append_assoc u (pos 1 ∷ []) p.0) at p.2)
  ]

  -- where a run continues from a plan, some run is left
  pub plan_left : {P : Type 0} (under : Answers) (front : Front) (plan : Answers) → IsPlan play under front plan
      → IsLast play under front → P
  plan_left under front plan p last =
      let s = some_run most plan (omega arith) p.opens in
      let n = p.next s.0 s.1 s.2 in
      absurd (last (plan ++ s.0) n.run n.left)

  begins_some : (u : Answers) → (is_open (play u) ≡ true) ↔ ((a : Answers) × IsRun play a × (begins_with a u ≡ true))
  begins_some u = (
    λ o. let p = some_run most u (omega arith) o in (u ++ p.0, p.2, begins_from u p.0),
    λ r. let b = begins_is r.0 u r.2 in run_open play most reads u b.0 (rw b.1 at r.1),
  )

  -- a run that begins with a run is that one
  only_run : (a b : Answers) → IsRun play a → IsIn b (runs_after play most a Start) → IsIn b (a ∷ [])
  only_run a b r i = let p = run_in a Start b i in let s = begins_is b a (left_begins a Start b p.1) in
      by_rest s.0 s.1 p.0
    where
      by_rest : (s : Answers) → b ≡ a ++ s → IsRun play b → IsIn b (a ∷ [])
      by_rest [] e t = inl (e ∙ append-nil a)
      by_rest (k ∷ s) e t = absurd (run_apart play most reads a s k r (rw e at t))

  run_alone : (a : Answers) → IsRun play a → runs_after play most a Start ≡ a ∷ []
  run_alone a r =
      let begins : begins_with a a ≡ true = ap (λ b. begins_with b a) (sym (append-nil a)) ∙ begins_from a [] in
      same_rising (runs_after play most a Start) (a ∷ []) (after_rises a Start) (tt, tt) (λ b i. only_run a b r i)
      (λ b i. elim i [ inl e ↦ rw e (in_run a Start a r (left_from a Start a begins refl)) | inr d ↦ absurd d ])

  shares_differ : (u v a : Answers) (f g : Front) → Before u v → Contains (runs_after play most u f) a
      → Contains (runs_after play most v g) a → ⊥
  shares_differ u v a f g h c d =
      let x = begins_is a u (left_begins u f a (run_in u f a (contained_in a (runs_after play most u f) c)).1) in
      let y = begins_is a v (left_begins v g a (run_in v g a (contained_in a (runs_after play most v g) d)).1) in
      let less : Before (u ++ x.0) (v ++ y.0) = before_more u v x.0 y.0 h in
      before_self a (subst (λ b. Before a b) (sym y.1) (subst (λ b. Before b (v ++ y.0)) (sym x.1) less))

  pub share_laws : ShareLaws play most
  share_laws = record {
    whole = λ f. refl;
    question = λ report under n w f asks. question under n w f asks report;
    beginning = begins_some;
    run = run_alone;
    apart = shares_differ;
  }
