-- This file proves how answers are drawn one after another.
-- Main lemma: `drawn_one_more`.
use Rattle.std.proofs.Common.{◌≡◌, ◌∙◌, ℕ, zero, suc, ◌+◌, List, [], ◌∷◌, ◌++◌, refl, sym, ap, arith, length, ℤ}
use Rattle.std.specs.Prelude.{pos}
use Rattle.rand_pcg.specs.Lcg.{Lcg}
use Rattle.rand_pcg.specs.Pcg.{pcg32}
use Rattle.ptb_answers.specs.Outcome.{Answers}
use Rattle.ptb_answers.specs.Seeds.{HasDrawn, SeededAnswers, at_state, drawn_answer, drawn_from}
use Rattle.ptb_answers.specs.Seeds.{generator_after, seeded_choices}

-- a word for one question more
drawn_push : (g : Lcg) (bounds : List ℤ) (n : ℤ)
    → drawn_from g (bounds ++ n ∷ []) ≡ drawn_from g bounds ++ drawn_answer
    (pcg32 (generator_after g (length bounds))).0 n ∷ []
drawn_push g [] n = refl
drawn_push g (m ∷ bounds) n = ap (λ l. drawn_answer (pcg32 g).0 m ∷ l) (drawn_push (pcg32 g).1 bounds n)

after_push : (g : Lcg) (bounds : List ℤ) (n : ℤ)
    → generator_after g (length (bounds ++ n ∷ [])) ≡ (pcg32 (generator_after g (length bounds))).1
after_push g [] n = refl
after_push g (m ∷ bounds) n = after_push (pcg32 g).1 bounds n

pub drawn_one_more : (first : Lcg) (bounds : List ℤ) (answers : Answers) (g : Lcg) (n : ℤ)
    → HasDrawn first bounds answers g
    → HasDrawn first (bounds ++ n ∷ []) (answers ++ drawn_answer (pcg32 g).0 n ∷ []) (pcg32 g).1
drawn_one_more first bounds answers g n h = record {
  drawn =
      ap (λ l. l ++ drawn_answer (pcg32 g).0 n ∷ []) h.drawn
      ∙ ap (λ (x : Lcg). drawn_from first bounds ++ drawn_answer (pcg32 x).0 n ∷ []) h.after
      ∙ sym (drawn_push first bounds n);
  after = ap (λ (x : Lcg). (pcg32 x).1) h.after ∙ sym (after_push first bounds n);
}

-- a step keeps the increment, so the generator at an earlier state is the same
pub same_first : (g h : Lcg) (state : ℕ) → h ≡ (pcg32 g).1 → at_state h state ≡ at_state g state
same_first g h state e = ap (λ (x : Lcg). at_state x state) e

-- ---- as many words as questions

pub length-drawn : (g : Lcg) (bounds : List ℤ) → length (drawn_from g bounds) ≡ length bounds
length-drawn g [] = refl
length-drawn g (n ∷ bounds) = ap suc (length-drawn (pcg32 g).1 bounds)

pub after_sum : (g : Lcg) (m n : ℕ) → generator_after g (m + n) ≡ generator_after (generator_after g m) n
after_sum g zero n =
    let none : zero + n ≡ n = omega arith in
    ap (generator_after g) none
after_sum g (suc m) n =
    let one : suc m + n ≡ suc (m + n) = omega arith in
    ap (generator_after g) one ∙ after_sum (pcg32 g).1 m n

pub drawn_append : (g : Lcg) (a b : List ℤ)
    → drawn_from g (a ++ b) ≡ drawn_from g a ++ drawn_from (generator_after g (length a)) b
drawn_append g [] b = refl
drawn_append g (n ∷ a) b = ap (λ l. drawn_answer (pcg32 g).0 n ∷ l) (drawn_append (pcg32 g).1 a b)

-- ---- the plan

-- a chooser's plan says which generator its answers began with
pub same_generator : (s t : SeededAnswers) → (seeded_choices t).plan ≡ (seeded_choices s).plan → t.first ≡ s.first
same_generator s t e =
    let plan : pos t.first.state ∷ pos t.first.increment ∷ [] ≡ pos s.first.state ∷ pos s.first.increment ∷ [] = e in
    let state : t.first.state ≡ s.first.state = cc in
    let increment : t.first.increment ≡ s.first.increment = cc in
    ap (λ (n : ℕ). record t.first { state = n }) state ∙ ap (λ (n : ℕ). record s.first { increment = n }) increment
