-- This file proves what drawing one more answer leaves, from what the chooser knows of each step.
-- Main lemma: `drawn_next`.
use Rattle.std.proofs.Common.{◌≡◌, ◌∙◌, ap, sym, ℕ, ◌-◌, List, [], ◌∷◌, ◌++◌, length, length-append}
use Rattle.std.proofs.Common.{ℤ, FitsSigned, of_z, to_z, to_z-of_z, w16, Result, arith, true, set}
use Rattle.std.specs.Prelude.{if◌then◌else◌, pos, negsuc, ◌≤ℤ◌}
use Rattle.std.specs.Result.{is_ok}
use Rattle.std.proofs.lemmas.List.{map-append}
use Rattle.std.proofs.Math.Seq.{set-append_seam}
use Rattle.std.proofs.lemmas.Grind.{common_steps}
use Rattle.std.proofs.lemmas.Int.{ints}
use Rattle.rand_pcg.specs.Lcg.{Lcg}
use Rattle.rand_pcg.specs.Pcg.{pcg32}
use Rattle.ptb_answers.specs.Outcome.{is_answer}
use Rattle.ptb_answers.specs.AskedQuestions.{answers_in, bounds_in}
use Rattle.ptb_answers.specs.declared.asked.Asked.{Asked}
use Rattle.ptb_answers.specs.Choices.{with_answers}
use Rattle.ptb_answers.specs.Seeds.{HasDrawn, SeededAnswers, at_state, drawn_answer, drawn_from, seeded_choices}
use Rattle.ptb_answers.proofs.Seeds.{drawn_one_more, same_first}

-- what is drawn for a bound is an answer to it
drawn_within : (word : ℕ) (n : ℤ) → pos 1 ≤ℤ n → is_answer n (drawn_answer word n) ≡ true
drawn_within word (pos m) least = grind (arith, common_steps)
drawn_within word (negsuc m) least = absurd (omega (arith, ints))

pub drawn_is_answer : (n : ℤ) → pos 1 ≤ℤ n → FitsSigned w16 n → (word : ℕ) (k : ℤ) → FitsSigned w16 k
    → k ≡ drawn_answer word (to_z w16 (of_z w16 n)) → is_answer n (to_z w16 (of_z w16 k)) ≡ true
drawn_is_answer n least fits word k within is =
    ap (is_answer n) (to_z-of_z within ∙ is ∙ ap (drawn_answer word) (to_z-of_z fits)) ∙ drawn_within word n least

-- a question with its answer, in the numbers of the machine
abbrev pub question : ℤ → ℤ → Asked
question k n = record { answer = to_z w16 (of_z w16 k); bound = to_z w16 (of_z w16 n) }

-- a list to which a question was pushed
pushed : {T E : Type 0} (list new : List Asked) (k n : ℤ) (r : Result T E)
    → new ≡ (if is_ok r then list ++ question k n ∷ [] else list) → is_ok r ≡ true → new ≡ list ++ question k n ∷ []
pushed list new k n r is ok = is ∙ ap (λ q. if q then list ++ question k n ∷ [] else list) ok

-- n is the bound; the list has room for one more, and the answer k was drawn for it by the generator g, which is h then
module _ (state : ℕ) (asked : List Asked) (g : Lcg) (drawn : HasDrawn (at_state g state) (bounds_in asked)
    (answers_in asked) g) (n : ℤ) (fits : FitsSigned w16 n) {T E : Type 0} (r : Result T E) (new : List Asked)
    (longer : new ≡ (if is_ok r then asked ++ question n n ∷ [] else asked)) (ok : is_ok r ≡ true)
    (word : ℕ) (h : Lcg) (stepped : ◌≡◌ {A = ℕ × Lcg} (word, h) (pcg32 g)) (k : ℤ) (within : FitsSigned w16 k)
    (is : k ≡ drawn_answer word (to_z w16 (of_z w16 n))) (size : ℕ) (counted : size ≡ length new) where
  answered : to_z w16 (of_z w16 k) ≡ drawn_answer (pcg32 g).0 n
  answered =
      to_z-of_z within ∙ is ∙ ap (drawn_answer word) (to_z-of_z fits) ∙ ap (λ (p : ℕ × Lcg). drawn_answer p.0 n) stepped

  -- the generator before the first answer is the same
  begun : at_state h state ≡ at_state g state
  begun = same_first g h state (ap (λ (p : ℕ × Lcg). p.1) stepped)

  -- the question is the last of the list
  last_is : set new (size - 1) (question k n) ≡ asked ++ question k n ∷ []
  last_is =
      let one : new ≡ asked ++ question n n ∷ [] = pushed asked new n n r longer ok in
      let place : size - 1 ≡ length asked =
      omega (arith, counted, ap length one, length-append asked (question n n ∷ [])) in
      rw (one, place) (set-append_seam asked (question n n) [] (question k n))

  more_bounds : bounds_in (set new (size - 1) (question k n)) ≡ bounds_in asked ++ n ∷ []
  more_bounds =
      ap bounds_in last_is ∙ map-append (λ (q : Asked). q.bound) asked (question k n ∷ [])
      ∙ ap (λ (m : ℤ). bounds_in asked ++ m ∷ []) (to_z-of_z fits)

  more_answers : answers_in (set new (size - 1) (question k n)) ≡ answers_in asked ++ drawn_answer (pcg32 g).0 n ∷ []
  more_answers =
      ap answers_in last_is ∙ map-append (λ (q : Asked). q.answer) asked (question k n ∷ [])
      ∙ ap (λ (m : ℤ). answers_in asked ++ m ∷ []) answered

  more : HasDrawn (at_state g state) (bounds_in asked ++ n ∷ []) (answers_in asked ++ drawn_answer (pcg32 g).0 n ∷ [])
      (pcg32 g).1
  more = drawn_one_more (at_state g state) (bounds_in asked) (answers_in asked) g n drawn

  pub drawn_next : HasDrawn (at_state h state) (bounds_in (set new (size - 1) (question k n)))
      (answers_in (set new (size - 1) (question k n))) h
  drawn_next = rw (begun, more_bounds, more_answers, ap (λ (p : ℕ × Lcg). p.1) stepped) more

  pub grown_by_next : (old : SeededAnswers) → record { first = at_state g state; bounds = bounds_in asked } ≡ old
      → seeded_choices (record { first = at_state h state; bounds = bounds_in (set new (size - 1) (question k n)) })
      ≡ with_answers (to_z w16 (of_z w16 k) ∷ []) (n ∷ []) (seeded_choices old)
  grown_by_next old view =
      let first : Lcg = at_state g state in
      let x : ℤ = to_z w16 (of_z w16 k) in
      let grown : drawn_from first (bounds_in asked ++ n ∷ []) ≡ drawn_from first (bounds_in asked) ++ x ∷ [] =
      sym more.drawn ∙ ap (λ l. l ++ drawn_answer (pcg32 g).0 n ∷ []) drawn.drawn
      ∙ ap (λ (y : ℤ). drawn_from first (bounds_in asked) ++ y ∷ []) (sym answered) in
      ap (λ (b : Lcg). seeded_choices (record { first = b; bounds = bounds_in (set new (size - 1) (question k n)) }))
      begun
      ∙ ap (λ (b : List ℤ). seeded_choices (record { first = first; bounds = b })) more_bounds
      ∙ ap (λ (t : List ℤ). record (seeded_choices (record { first = first; bounds = bounds_in asked ++ n ∷ [] }))
      { taken = t }) grown
      ∙ ap (λ (o : SeededAnswers). with_answers (x ∷ []) (n ∷ []) (seeded_choices o)) view
