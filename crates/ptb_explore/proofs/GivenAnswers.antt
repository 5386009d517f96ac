-- This file proves what is given once a list of questions has one answer more.
-- Main lemmas: `grown_in_plan` and `grown_after_plan`.
use Rattle.std.proofs.Common.{◌≡◌, ◌∙◌, ap, sym, arith, refl, List, ℕ, [], ◌∷◌, ◌+◌, ◌++◌, ◌<◌, ◌≤◌, Some}
use Rattle.std.proofs.Common.{get_or, length, length-append, set, take, take_all}
use Rattle.std.specs.Prelude.{ℤ, pos}
use Rattle.std.proofs.lemmas.List.{length-set, length-take-le, map-append, take-append-le, take_more, take_more_set}
use Rattle.std.proofs.Math.Seq.{map-set_same}
use Rattle.ptb_answers.specs.Choices.{Choices, with_answers}
use Rattle.ptb_answers.specs.Outcome.{Answers}
use Rattle.ptb_answers.specs.declared.asked.Asked.{Asked}
use Rattle.ptb_answers.specs.AskedQuestions.{answers_in, bounds_in}
use Rattle.ptb_explore.proofs.AskedLists.{answer_at, length-answers_in, length-bounds_in}

-- the bounds of the first n, and their answers
abbrev first_bounds : ℕ → List Asked → List ℤ
first_bounds n items = bounds_in (take n items)

abbrev first_answers : ℕ → List Asked → Answers
first_answers n items = take (length (first_bounds n items)) (answers_in items)

-- what is held after the first n were given, of which some are planned
abbrev pub held : ℕ → ℕ → List Asked → Choices
held planned n items = record {
  plan = take planned (answers_in items);
  taken = first_answers n items;
  kept = Some (first_bounds n items);
}

first_count : (items : List Asked) (n : ℕ) → n ≤ length items → length (first_bounds n items) ≡ n
first_count items n l = length-bounds_in (take n items) ∙ length-take-le n items l

grown : (p q t u b d : List ℤ) (k n : ℤ) → q ≡ p → u ≡ t ++ k ∷ [] → d ≡ b ++ n ∷ []
    → ◌≡◌ {A = Choices} (record { plan = q; taken = u; kept = Some d })
    (with_answers (k ∷ []) (n ∷ []) (record { plan = p; taken = t; kept = Some b }))
grown p q t u b d k n plan taken kept = rw (plan, taken, kept) refl

-- ---- the answer at n is given, with its bound: x has both

module _ (items : List Asked) (n : ℕ) (x q : Asked) (within : n < length items)
    (is : x.answer ≡ (get_or items n q).answer) where
  pub answers_stay : answers_in (set items n x) ≡ answers_in items
  answers_stay = map-set_same (λ (y : Asked). y.answer) items n x q is

  bounds_more : first_bounds (n + 1) (set items n x) ≡ first_bounds n items ++ x.bound ∷ []
  bounds_more =
      ap bounds_in (take_more_set items n x within) ∙ map-append (λ (y : Asked). y.bound) (take n items) (x ∷ [])

  answers_more : first_answers (n + 1) (set items n x) ≡ first_answers n items ++ x.answer ∷ []
  answers_more =
      ap (λ m. take m (answers_in (set items n x)))
      (first_count (set items n x) (n + 1) (omega (arith, within, length-set items n x)))
      ∙ ap (take (n + 1)) answers_stay
      ∙ take_more (answers_in items) n (pos 0) (omega (arith, within, length-answers_in items))
      ∙ ap (λ (k : ℤ). take n (answers_in items) ++ k ∷ []) (answer_at items n q (pos 0) within ∙ sym is)
      ∙ ap (λ m. take m (answers_in items) ++ x.answer ∷ []) (sym (first_count items n (omega (arith, within))))

  pub grown_in_plan : (planned : ℕ) → held planned (n + 1) (set items n x)
      ≡ with_answers (x.answer ∷ []) (x.bound ∷ []) (held planned n items)
  grown_in_plan planned =
      grown _ _ _ _ _ _ x.answer x.bound (ap (take planned) answers_stay) answers_more bounds_more

-- ---- all n were given, and x comes after them

module _ (items : List Asked) (n : ℕ) (x : Asked) (all : n ≡ length items) where
  bounds_pushed : first_bounds (n + 1) (items ++ x ∷ []) ≡ first_bounds n items ++ x.bound ∷ []
  bounds_pushed =
      ap bounds_in (take_all (n + 1) (items ++ x ∷ []) (omega (arith, all, length-append items (x ∷ []))))
      ∙ map-append (λ (y : Asked). y.bound) items (x ∷ [])
      ∙ ap (λ (l : List Asked). bounds_in l ++ x.bound ∷ []) (sym (take_all n items (omega (arith, all))))

  answers_pushed : first_answers (n + 1) (items ++ x ∷ []) ≡ first_answers n items ++ x.answer ∷ []
  answers_pushed =
      let more : length (items ++ x ∷ []) ≡ n + 1 = omega (arith, all, length-append items (x ∷ [])) in
      take_all (length (first_bounds (n + 1) (items ++ x ∷ []))) (answers_in (items ++ x ∷ []))
      (omega (
        arith,
        more,
        length-answers_in (items ++ x ∷ []),
        first_count (items ++ x ∷ []) (n + 1)
            (omega (arith, more)),
      ))
      ∙ map-append (λ (y : Asked). y.answer) items (x ∷ [])
      ∙ ap (λ (l : Answers). l ++ x.answer ∷ []) (sym (take_all (length (first_bounds n items)) (answers_in items)
      (omega (arith, all, length-answers_in items, first_count items n (omega (arith, all))))))

  pub grown_after_plan : (planned : ℕ) → planned ≤ n → held planned (n + 1) (items ++ x ∷ [])
      ≡ with_answers (x.answer ∷ []) (x.bound ∷ []) (held planned n items)
  grown_after_plan planned few =
      grown _ _ _ _ _ _ x.answer x.bound
      (ap (take planned) (map-append (λ (y : Asked). y.answer) items (x ∷ []))
      ∙ take-append-le planned (answers_in items) (x.answer ∷ [])
      (omega (arith, few, all, length-answers_in items)))
      answers_pushed bounds_pushed
