-- This file proves that a run goes by the answers of a list.
-- Main lemma: `goes_by_list`.
use Rattle.std.proofs.Common.{◌≡◌, ◌∙◌, ◌⊎◌, inl, inr, ℕ, suc, ◌<◌, List, ◌∷◌, ◌++◌, length, take}
use Rattle.std.proofs.Common.{drop, Some, ℤ, sym, ap, arith, drop-cons}
use Rattle.std.specs.Prelude.{slice_get}
use Rattle.std.proofs.lemmas.List.{take-append-drop, drop_all}
use Rattle.std.proofs.lemmas.Option.{slice_get_within, get_or_from_slice_get}
use Rattle.ptb_text.specs.Statements.{StoredProgram}
use Rattle.ptb_answers.specs.declared.pause.Pause.TheVariants as pauses
use Rattle.ptb_answers.specs.Outcome.{Answers}
use Rattle.ptb_answers.specs.Choices.{AnswerList, RefusedByList, choices_of, with_answers}
use Rattle.ptb_answers.specs.declared.rules.Rules.{Rules}
use Rattle.ptb_machine.specs.PlainRuns.{GoesBy}

front_at : {A : Type 0} (xs : List A) (i : ℕ) (x : A) → slice_get xs i ≡ Some x → drop i xs ≡ x ∷ drop (suc i) xs
front_at xs i x e =
    let within : i < length xs = slice_get_within xs i x e in
    drop-cons xs i x within ∙ ap (λ y. y ∷ drop (suc i) xs) (get_or_from_slice_get xs i x x e)

-- the answers that were given are the first of the list
given_first : (a : List ℤ) (l : AnswerList) (answers : Answers) (bounds : List ℤ)
    → choices_of l ≡ with_answers answers bounds (choices_of (record { answers = a; given = 0 }))
    → a ≡ answers ++ drop l.given l.answers
given_first a l answers bounds e =
    let same : l.answers ≡ a = ap (λ c. c.plan) e in
    let first : take l.given l.answers ≡ answers = ap (λ c. c.taken) e in
    sym same ∙ sym (take-append-drop l.given l.answers) ∙ ap (λ t. t ++ drop l.given l.answers) first

-- whatever its lines are
pub goes_by_list : (a : List ℤ) (s l : AnswerList) (p : StoredProgram) (rules : Rules)
    → s ≡ record { answers = a; given = 0 }
    → GoesBy (RefusedByList l.answers l.given) (choices_of s) (choices_of l) (λ _. a) p rules
goes_by_list a s l p rules begins lines taken bounds asked e = record {
  rest = drop l.given l.answers;
  whole = given_first a l taken bounds (e ∙ ap (λ x. with_answers taken bounds (choices_of x)) begins);
  ended = λ n h. drop_all l.given l.answers (omega (arith, h));
  outside = λ k n h. (drop (suc l.given) l.answers, front_at l.answers l.given k h.0);
}

-- a list is never short of memory
pub none_refused : {P : Type 0} (l : AnswerList) → P ⊎ ((n : ℤ) × RefusedByList l.answers l.given pauses.Memory n) → P
none_refused l (inl p) = p
none_refused l (inr r) = absurd r.1
