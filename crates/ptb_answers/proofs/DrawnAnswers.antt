-- This file proves that a generator draws the answers of one run, each for the bound of its question, and of no other.
-- Main lemmas: `answers_by-drawn` and `drawn_alone`.
use Rattle.std.proofs.Common.{◌≡◌, ◌∙◌, ℕ, zero, suc, ◌<◌, ◌%◌, ◌⊎◌, true, [], ◌∷◌, ◌++◌, length}
use Rattle.std.proofs.Common.{refl, sym, ap, subst, arith, inl, inr, append_assoc}
use Rattle.std.proofs.lemmas.Bool.{cases_Bool}
use Rattle.std.proofs.lemmas.Int.{ints}
use Rattle.std.proofs.lemmas.Nat.{mod_below}
use Rattle.std.specs.Prelude.{ℤ, pos, negsuc, ◌≤ℤ◌}
use Rattle.rand_pcg.specs.Lcg.{Lcg}
use Rattle.rand_pcg.specs.Pcg.{pcg32}
use Rattle.ptb_answers.specs.Outcome.{Answers, Outcome, Done, Asks, IsReader, bounds, bounds_after}
use Rattle.ptb_answers.specs.Outcome.{bound_of, is_answer, is_whole}
use Rattle.ptb_answers.specs.Seeds.{drawn_answer, drawn_from}
use Rattle.ptb_answers.specs.DrawnAnswers.{IsDrawnFrom, answers_by, to_question}
use Rattle.ptb_answers.proofs.Readers.{open_is, whole_is}

-- where something is asked, fewer answers were given
abbrev pub Few : {A W : Type 0} → (Answers → Outcome A W) → ℕ → Type 0
Few {W = W} f most = (q : Answers) (n : ℤ) (w : W) → f q ≡ Asks n w → length q < most

pub few_after : {A W : Type 0} (f : Answers → Outcome A W) (most : ℕ) (k : ℤ) → Few f (suc most)
    → Few (λ a. f (k ∷ a)) most
few_after f most k few = λ q n w e. let l = few (k ∷ q) n w e in omega (arith, l)

-- ---- the answers of a run

-- the bounds of answers that come after t
bounds_from : {A W : Type 0} (f : Answers → Outcome A W) (t q a : Answers)
    → bounds_after f (t ++ q) a ≡ bounds_after (λ later. f (t ++ later)) q a
bounds_from f t q [] = refl
bounds_from f t q (k ∷ a) =
    ap (λ l. bound_of (f (t ++ q)) ∷ l)
    (ap (λ p. bounds_after f p a) (append_assoc t q (k ∷ [])) ∙ bounds_from f t (q ++ k ∷ []) a)

-- the first answer is asked for, inside its bound
module _ {A W : Type 0} (f : Answers → Outcome A W) (most : ℕ) (reads : IsReader f most) (k : ℤ) (b : Answers)
    (run : is_whole (f (k ∷ b)) ≡ true) where
  first_inside : (n : ℤ) (w : W) → f [] ≡ Asks n w → is_answer n k ≡ true
  first_inside n w e = elim (cases_Bool (is_answer n k)) [
    | inl i ↦ i
    | inr o ↦ let gone = reads.out (k ∷ []) b n w (reads.outside [] n k w e o) in let v = whole_is (f (k ∷ b)) run in
        absurd cc
  ]

  run_asks : (n : ℤ) × (w : W) × (f [] ≡ Asks n w) × (is_answer n k ≡ true)
  run_asks = elim (open_is (f []) reads.begins) [
    | inl d ↦ let e = reads.done [] (k ∷ b) [] d.0 d.1 in let v = whole_is (f (k ∷ b)) run in absurd cc
    | inr d ↦ (d.0, d.1, d.2, first_inside d.0 d.1 d.2)
  ]

-- what an answer leaves takes answers as before, one fewer
reader_after : {A W : Type 0} (f : Answers → Outcome A W) (most : ℕ) (n k : ℤ) (w : W) → IsReader f (suc most)
    → f [] ≡ Asks n w → is_answer n k ≡ true → IsReader (λ a. f (k ∷ a)) most
reader_after f most n k w reads e i = record {
  begins = reads.inside [] n k w e i;
  done = λ q b. reads.done (k ∷ q) b;
  out = λ q b. reads.out (k ∷ q) b;
  inside = λ q. reads.inside (k ∷ q);
  outside = λ q. reads.outside (k ∷ q);
  positive = λ q. reads.positive (k ∷ q);
  few = few_after f most k reads.few;
  spends = λ q rest x h. let l = reads.spends (k ∷ q) rest x h in omega (arith, l);
}

bounds_later : {A W : Type 0} (f : Answers → Outcome A W) (n k : ℤ) (w : W) (a : Answers) → f [] ≡ Asks n w
    → bounds f (k ∷ a) ≡ n ∷ bounds (λ later. f (k ∷ later)) a
bounds_later f n k w a e =
    ap (λ o. bound_of o ∷ bounds_after f (k ∷ []) a) e ∙ ap (λ l. n ∷ l) (bounds_from f (k ∷ []) [] a)

drawn_inside : (word : ℕ) (n : ℤ) → pos 1 ≤ℤ n → is_answer n (drawn_answer word n) ≡ true
drawn_inside word (pos zero) h = absurd (omega (arith, h))
drawn_inside word (pos (suc n)) h = let l : word % suc n < suc n = mod_below word (suc n) (omega arith) in
    grind (arith, ints, l)
drawn_inside word (negsuc n) h = absurd (omega (arith, h))

answers_by-done : {A W : Type 0} (most : ℕ) (g : Lcg) (f : Answers → Outcome A W) (x : A) (rest : Answers)
    → f [] ≡ Done x rest → answers_by most g f ≡ []
answers_by-done zero g f x rest e = refl
answers_by-done (suc most) g f x rest e = ap (to_question _) e

answers_by-asks : {A W : Type 0} (most : ℕ) (g : Lcg) (f : Answers → Outcome A W) (n : ℤ) (w : W) → f [] ≡ Asks n w
    → answers_by (suc most) g f ≡ drawn_answer (pcg32 g).0 n ∷ answers_by most (pcg32 g).1
    (λ a. f (drawn_answer (pcg32 g).0 n ∷ a))
answers_by-asks most g f n w e = ap (to_question
    (λ n. drawn_answer (pcg32 g).0 n ∷ answers_by most (pcg32 g).1 (λ a. f (drawn_answer (pcg32 g).0 n ∷ a)))) e

pub answers_by-drawn : {A W : Type 0} (most : ℕ) (g : Lcg) (f : Answers → Outcome A W) → IsReader f most
    → IsDrawnFrom g f (answers_by most g f)
answers_by-drawn most g f reads = by_first most g f reads (open_is (f []) reads.begins) where
  by_first : {A W : Type 0} (most : ℕ) (g : Lcg) (f : Answers → Outcome A W) → IsReader f most
      → ((x : A) × (f [] ≡ Done x [])) ⊎ ((n : ℤ) × (w : W) × (f [] ≡ Asks n w)) → IsDrawnFrom g f (answers_by most g f)
  by_first most g f reads (inl d) =
      subst (IsDrawnFrom g f) (sym (answers_by-done most g f d.0 [] d.1))
      (record { run = ap is_whole d.1; drawn = refl })
  by_first zero g f reads (inr q) = let l = reads.few [] q.0 q.1 q.2 in absurd (omega (arith, l))
  by_first (suc most) g f reads (inr q) =
      let k = drawn_answer (pcg32 g).0 q.0 in
      let others = reader_after f most q.0 k q.1 reads q.2
      (drawn_inside (pcg32 g).0 q.0 (reads.positive [] q.0 q.1 q.2)) in
      let following = by_first most (pcg32 g).1 (λ a. f (k ∷ a)) others (open_is (f (k ∷ [])) others.begins) in
      let a = answers_by most (pcg32 g).1 (λ a. f (k ∷ a)) in
      subst (IsDrawnFrom g f) (sym (answers_by-asks most g f q.0 q.1 q.2))
      (record {
        run = following.run;
        drawn = ap (λ l. k ∷ l) following.drawn
            ∙ ap (drawn_from g) (sym (bounds_later f q.0 k q.1 a q.2));
      })

-- no other list is
pub drawn_alone : {A W : Type 0} (most : ℕ) (g : Lcg) (f : Answers → Outcome A W) (b : Answers) → IsReader f most
    → IsDrawnFrom g f b → b ≡ answers_by most g f
drawn_alone most g f [] reads h = let w = whole_is (f []) h.run in sym (answers_by-done most g f w.0 [] w.1)
drawn_alone zero g f (k ∷ b) reads h =
    let q = run_asks f zero reads k b h.run in
    let l = reads.few [] q.0 q.1 q.2 in absurd (omega (arith, l))
drawn_alone (suc most) g f (k ∷ b) reads h =
    let q = run_asks f (suc most) reads k b h.run in
    let drawn : k ∷ b ≡ drawn_answer (pcg32 g).0 q.0 ∷ drawn_from (pcg32 g).1 (bounds (λ a. f (k ∷ a)) b) =
    h.drawn ∙ ap (drawn_from g) (bounds_later f q.0 k q.1 b q.2) in
    let first : k ≡ drawn_answer (pcg32 g).0 q.0 = cc in
    let rest : b ≡ drawn_from (pcg32 g).1 (bounds (λ a. f (k ∷ a)) b) = cc in
    let following = drawn_alone most (pcg32 g).1 (λ a. f (k ∷ a)) b (reader_after f most q.0 k q.1 reads q.2 q.3)
    (record { run = h.run; drawn = rest }) in
    ap (λ l. k ∷ l) following ∙ ap (λ x. x ∷ answers_by most (pcg32 g).1 (λ a. f (x ∷ a))) first
    ∙ sym (answers_by-asks most g f q.0 q.1 q.2)
