-- This file proves that the tree has the runs and nothing else, in rising order, and that none of its runs continues
-- from another.
-- Main lemma: `tree_laws`.
use Rattle.std.proofs.Common.{◌≡◌, ℕ, zero, suc, ◌+◌, ◌≤◌, [], ◌∷◌, ◌++◌, length, true, false, ◌↔◌}
use Rattle.std.proofs.Common.{inl, inr, refl, ap, sym, ◌∙◌, arith, append_assoc, append-nil}
use Rattle.std.proofs.Common.{length-append}
use Rattle.std.specs.Prelude.{ℤ}
use Rattle.std.proofs.lemmas.Bool.{cases_Bool}
use Rattle.std.specs.List.{flat_map}
use Rattle.ptb_answers.specs.Outcome.{Answers, Outcome, Done, Asks, Out, IsReader, is_open, is_answer}
use Rattle.ptb_answers.proofs.PublicLemmas.{whole_is, open_is, closed_is}
use Rattle.ptb_machine.specs.RunTree.{IsRun, IsRising, answers_to, leaves, leaves_of, tree}
use Rattle.ptb_explore.specs.Laws.{TreeLaws}
use Rattle.ptb_explore.proofs.Lists.{IsIn, in_contained, contained_in, in_answers, answers_in, rising_answers}
use Rattle.ptb_explore.proofs.Order.{before_from_differ}

module _ {A W : Type 0} (play : Answers → Outcome A W) where
  leaves-done : (d : ℕ) (q rest : Answers) (x : A) → play q ≡ Done x rest → leaves play q d ≡ q ∷ []
  leaves-done zero q rest x e = ap (leaves_of q _) e
  leaves-done (suc d) q rest x e = ap (leaves_of q _) e

  leaves-asks : (d : ℕ) (q : Answers) (n : ℤ) (w : W) → play q ≡ Asks n w
      → leaves play q (suc d) ≡ flat_map (λ k. leaves play (q ++ k ∷ []) d) (answers_to n)
  leaves-asks d q n w e = ap (leaves_of q _) e

  leaves-spent : (q : Answers) (n : ℤ) (w : W) → play q ≡ Asks n w → leaves play q 0 ≡ []
  leaves-spent q n w e = ap (leaves_of q _) e

module _ {A W : Type 0} (play : Answers → Outcome A W) (most : ℕ) (reads : IsReader play most) where
  -- a run's beginnings are open
  pub run_open : (q b : Answers) → IsRun play (q ++ b) → is_open (play q) ≡ true
  run_open q b r = elim (cases_Bool (is_open (play q))) [
    | inl o ↦ o
    | inr c ↦ let w = whole_is (play (q ++ b)) r in elim (closed_is (play q) c) [
      | inl d ↦ let e = reads.done q b (d.1 ∷ d.2) d.0 d.3 in absurd cc
      | inr d ↦ let e = reads.out q b d.0 d.1 d.2 in absurd cc
    ]
  ]

  -- an answer is asked for, inside its bound, where the play of it and of what follows neither leaves an answer nor
  -- is out
  pub next_asks : (q b : Answers) (k : ℤ) → is_open (play q) ≡ true
      → ((x : A) → play (q ++ k ∷ b) ≡ Done x (k ∷ b) → ⊥)
      → ((n : ℤ) (w : W) → play (q ++ k ∷ b) ≡ Out n w → ⊥)
      → (n : ℤ) × (w : W) × (play q ≡ Asks n w) × (is_answer n k ≡ true)
  next_asks q b k o left out = elim (open_is (play q) o) [
    | inl d ↦ absurd (left d.0 (reads.done q (k ∷ b) [] d.0 d.1))
    | inr d ↦
        (d.0, d.1, d.2, elim (cases_Bool (is_answer d.0 k)) [ inl i ↦ i | inr x ↦ absurd (not_outside d.0 d.1 d.2 x) ])
  ]
    where
      not_outside : (n : ℤ) (w : W) → play q ≡ Asks n w → is_answer n k ≡ false → ⊥
      not_outside n w e x = out n w (ap play (sym (append_assoc q (k ∷ []) b))
          ∙ reads.out (q ++ k ∷ []) b n w (reads.outside q n k w e x))

  -- each answer of a run is asked for, inside its bound
  pub run_asks : (q b : Answers) (k : ℤ) → IsRun play (q ++ k ∷ b)
      → (n : ℤ) × (w : W) × (play q ≡ Asks n w) × (is_answer n k ≡ true)
  run_asks q b k r =
      let w = whole_is (play (q ++ k ∷ b)) r in
      next_asks q b k (run_open q (k ∷ b) r) (λ x e. absurd cc) (λ n v e. absurd cc)

  pub run_apart : (q b : Answers) (k : ℤ) → IsRun play q → IsRun play (q ++ k ∷ b) → ⊥
  run_apart q b k r t = let p = run_asks q b k t in let w = whole_is (play q) r in absurd cc

  -- what is below q begins with q, and is a run
  pub leaf_begins : (d : ℕ) (q a : Answers) → is_open (play q) ≡ true → IsIn a (leaves play q d)
      → (b : Answers) × (a ≡ q ++ b)
  leaf_begins zero q a o h = elim (open_is (play q) o) [
    | inl d ↦ elim (rw (leaves-done play 0 q [] d.0 d.1) at h) [
      | inl e ↦ ([], e ∙ sym (append-nil q))
      | inr f ↦ absurd f
    ]
    | inr d ↦ absurd (rw (leaves-spent play q d.0 d.1 d.2) at h)
  ]
  leaf_begins (suc m) q a o h = elim (open_is (play q) o) [
    | inl d ↦ elim (rw (leaves-done play (suc m) q [] d.0 d.1) at h) [
      | inl e ↦ ([], e ∙ sym (append-nil q))
      | inr f ↦ absurd f
    ]
    | inr d ↦
        let i = in_answers _ a d.0 (rw (leaves-asks play m q d.0 d.1 d.2) at h) in
        let p = leaf_begins m (q ++ i.0 ∷ []) a (reads.inside q d.0 i.0 d.1 d.2 i.1) i.2 in
        (i.0 ∷ p.0, p.1 ∙ append_assoc q (i.0 ∷ []) p.0)
  ]

  pub leaf_is_run : (d : ℕ) (q a : Answers) → is_open (play q) ≡ true → IsIn a (leaves play q d) → IsRun play a
  leaf_is_run zero q a o h = elim (open_is (play q) o) [
    | inl d ↦ elim (rw (leaves-done play 0 q [] d.0 d.1) at h) [ inl e ↦ rw (e, d.1) refl | inr f ↦ absurd f ]
    | inr d ↦ absurd (rw (leaves-spent play q d.0 d.1 d.2) at h)
  ]
  leaf_is_run (suc m) q a o h = elim (open_is (play q) o) [
    | inl d ↦ elim (rw (leaves-done play (suc m) q [] d.0 d.1) at h) [ inl e ↦ rw (e, d.1) refl | inr f ↦ absurd f ]
    | inr d ↦
        let i = in_answers _ a d.0 (rw (leaves-asks play m q d.0 d.1 d.2) at h) in
        leaf_is_run m (q ++ i.0 ∷ []) a (reads.inside q d.0 i.0 d.1 d.2 i.1) i.2
  ]

  -- each run that begins with q is below q
  pub run_is_leaf : (d : ℕ) (q b : Answers) → most ≤ length q + d → IsRun play (q ++ b)
      → IsIn (q ++ b) (leaves play q d)
  run_is_leaf d q [] l r =
      let w = whole_is (play (q ++ [])) r in
      let e : play q ≡ Done w.0 [] = ap play (sym (append-nil q)) ∙ w.1 in
      rw (leaves-done play d q [] w.0 e) (inl (append-nil q))
  run_is_leaf zero q (k ∷ b) l r = let p = run_asks q b k r in let f = reads.few q p.0 p.1 p.2 in absurd (omega arith)
  run_is_leaf (suc d) q (k ∷ b) l r =
      let p = run_asks q b k r in
      let s = append_assoc q (k ∷ []) b in
      let t : IsRun play ((q ++ k ∷ []) ++ b) = rw s r in
      let i = run_is_leaf d (q ++ k ∷ []) b (omega (arith, length-append q (k ∷ []))) t in
      rw (leaves-asks play d q p.0 p.1 p.2) (answers_in _ (q ++ k ∷ b) p.0 k p.3 (rw s at i))

  pub leaves_rise : (d : ℕ) (q : Answers) → is_open (play q) ≡ true → IsRising (leaves play q d)
  leaves_rise zero q o = elim (open_is (play q) o) [
    | inl d ↦ rw (leaves-done play 0 q [] d.0 d.1) (tt, tt)
    | inr d ↦ rw (leaves-spent play q d.0 d.1 d.2) tt
  ]
  leaves_rise (suc m) q o = elim (open_is (play q) o) [
    | inl d ↦ rw (leaves-done play (suc m) q [] d.0 d.1) (tt, tt)
    | inr d ↦ rw (leaves-asks play m q d.0 d.1 d.2) (rising_answers _ d.0
        (λ k i. leaves_rise m (q ++ k ∷ []) (reads.inside q d.0 k d.1 d.2 i))
        (λ j k a b i l h u t.
        let x = leaf_begins m (q ++ j ∷ []) a (reads.inside q d.0 j d.1 d.2 i) u in
        let y = leaf_begins m (q ++ k ∷ []) b (reads.inside q d.0 k d.1 d.2 l) t in
        rw (x.1, y.1, append_assoc q (j ∷ []) x.0, append_assoc q (k ∷ []) y.0) (before_from_differ q x.0 y.0 j k h)))
  ]

  pub tree_rises : IsRising (tree play most)
  tree_rises = leaves_rise most [] reads.begins

  pub tree_runs : (a : Answers) → IsIn a (tree play most) ↔ IsRun play a
  tree_runs a = (leaf_is_run most [] a reads.begins, run_is_leaf most [] a (omega arith))

  pub tree_laws : TreeLaws play most
  tree_laws = record {
    runs = λ a. (
      λ c. (tree_runs a).0 (contained_in a (tree play most) c),
      λ r. in_contained a (tree play most) ((tree_runs a).1 r),
    );
    order = tree_rises;
    few = reads.few;
    apart = λ a later k. run_apart a later k;
  }
