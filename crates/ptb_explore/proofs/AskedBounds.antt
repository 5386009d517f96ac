-- This file proves laws of the bounds of answers.
-- Main lemma: `asked_bounds`.
use Rattle.std.proofs.Common.{◌≡◌, List, [], ◌∷◌, ◌++◌, length, refl, ap, sym, ◌∙◌, arith, append_assoc, append-nil}
use Rattle.std.specs.Prelude.{ℤ, Some}
use Rattle.ptb_answers.specs.Outcome.{Answers, Outcome, bound_of, bounds, bounds_after}
use Rattle.ptb_answers.specs.Choices.{Choices, with_bounds, AsksFor, Reaches}
use Rattle.ptb_machine.proofs.PublicLemmas.{bounds-append}
use Rattle.ptb_explore.specs.PlannedPlays.{Holds}

module _ {A W : Type 0} (play : Answers → Outcome A W) where
  -- the bounds of answers that continue from t
  pub bounds_from : (t q a : Answers) → bounds_after play (t ++ q) a ≡ bounds_after (λ later. play (t ++ later)) q a
  bounds_from t q [] = refl
  bounds_from t q (k ∷ a) = ap (λ l. bound_of (play (t ++ q)) ∷ l)
      (ap (λ p. bounds_after play p a) (append_assoc t q (k ∷ [])) ∙ bounds_from t (q ++ k ∷ []) a)

-- the bounds with which answers were asked for are their bounds
pub asked_bounds : {A W : Type 0} (f : Answers → Outcome A W) (ts : Answers) (bs : List ℤ) → AsksFor f ts bs
    → bs ≡ bounds f ts
asked_bounds f [] [] h = refl
asked_bounds f [] (n ∷ bs) h = absurd h
asked_bounds f (k ∷ ts) [] h = absurd h
asked_bounds f (k ∷ ts) (n ∷ bs) h =
    ap (λ m. m ∷ bs) (sym (ap bound_of h.0.1)) ∙ ap (λ l. bound_of (f []) ∷ l)
    (asked_bounds (λ a. f (k ∷ a)) ts bs h.1 ∙ sym (bounds_from f (k ∷ []) [] ts))

-- functions that agree ask with the same bounds
bounds_same : {A W : Type 0} (f g : Answers → Outcome A W) → ((a : Answers) → f a ≡ g a) → (q a : Answers)
    → bounds_after f q a ≡ bounds_after g q a
bounds_same f g same q [] = refl
bounds_same f g same q (k ∷ a) = ap (λ v. bound_of v ∷ bounds_after f (q ++ k ∷ []) a) (same q)
    ∙ ap (λ l. bound_of (g q) ∷ l) (bounds_same f g same (q ++ k ∷ []) a)

-- a call that asks continues from what the chooser held before
pub holds_on : {A W : Type 0} (play : Answers → Outcome A W) (c d : Choices) (f g : Answers → Outcome A W)
    → Holds play c f → Reaches f c d g → (d.plan ≡ c.plan) × Holds play d g
holds_on play c d f g h r =
    let ts = r.answers in
    let now : d.taken ≡ c.taken ++ ts = ap (λ x. x.taken) r.grown in
    let more : r.bounds ≡ bounds_after play c.taken ts =
    asked_bounds f ts r.bounds r.asked ∙ bounds_same f (λ later. play (c.taken ++ later)) (λ a. sym (h.rest a)) [] ts
    ∙ sym (bounds_from play c.taken [] ts) ∙ ap (λ q. bounds_after play q ts) (append-nil c.taken) in (
      ap (λ x. x.plan) r.grown,
      record {
        bounds_are = ap (λ x. x.kept) r.grown ∙ ap (with_bounds r.bounds) h.bounds_are
            ∙ ap (λ bs. Some (bounds play c.taken ++ bs)) more
            ∙ sym (ap Some (ap (bounds play) now ∙ bounds-append play [] c.taken ts));
        rest = λ later. ap (λ a. play (a ++ later)) now ∙ ap play (append_assoc c.taken ts later) ∙ h.rest (ts ++ later)
            ∙ ap (λ k. k later) r.rest;
      },
    )

-- at first nothing was taken
pub holds_at_first : {A W : Type 0} (play : Answers → Outcome A W) (c : Choices) → c.taken ≡ [] → c.kept ≡ Some []
    → Holds play c play
holds_at_first play c t k = record {
  bounds_are = k ∙ sym (ap (λ a. Some (bounds play a)) t);
  rest = λ later. ap (λ a. play (a ++ later)) t;
}
