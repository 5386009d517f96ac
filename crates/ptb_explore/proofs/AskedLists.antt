-- This file proves how long the items of a list of questions are, and which one is at a place.
-- Main lemma: `asked_at`.
use Rattle.std.proofs.Common.{◌≡◌, ◌∙◌, ap, sym, arith, List, ℕ, ◌<◌, length, get_or}
use Rattle.std.specs.Prelude.{ℤ, pos}
use Rattle.std.proofs.lemmas.List.{get_or-map, length-map}
use Rattle.ptb_answers.specs.declared.asked.Asked.{Asked}
use Rattle.ptb_answers.specs.declared.form.Form.{Form}
use Rattle.ptb_answers.specs.declared.form.Marked.{Marked}
use Rattle.ptb_answers.specs.AskedQuestions.{answers_in, bounds_in}
use Rattle.ptb_answers.specs.AnswerText.{in_form}
use Rattle.ptb_explore.specs.ReportText.{asked_items}
use Rattle.ptb_explore.proofs.ReportText.{item_at, length-items_in}

pub length-answers_in : (asked : List Asked) → length (answers_in asked) ≡ length asked
length-answers_in asked = length-map asked (λ (q : Asked). q.answer)

pub length-bounds_in : (asked : List Asked) → length (bounds_in asked) ≡ length asked
length-bounds_in asked = length-map asked (λ (q : Asked). q.bound)

pub same_lengths : (asked : List Asked) → length (answers_in asked) ≡ length (bounds_in asked)
same_lengths asked = length-answers_in asked ∙ sym (length-bounds_in asked)

pub length-asked_items : (form : Form) (asked : List Asked) → length (asked_items form asked) ≡ length asked
length-asked_items form asked =
    length-items_in form (answers_in asked) (bounds_in asked) (same_lengths asked) ∙ length-answers_in asked

-- the answer and the bound at a place
pub answer_at : (asked : List Asked) (k : ℕ) (q : Asked) (d : ℤ) → k < length asked
    → get_or (answers_in asked) k d ≡ (get_or asked k q).answer
answer_at asked k q d within = get_or-map (λ (q : Asked). q.answer) asked k q d within

pub bound_at : (asked : List Asked) (k : ℕ) (q : Asked) (d : ℤ) → k < length asked
    → get_or (bounds_in asked) k d ≡ (get_or asked k q).bound
bound_at asked k q d within = get_or-map (λ (q : Asked). q.bound) asked k q d within

-- the question at a place, and its item
abbrev pub question_at : List Asked → ℕ → Asked
question_at asked k = get_or asked k (get_or asked k (record { answer = pos 0; bound = pos 0 }))

abbrev pub item_for : Form → List Asked → ℕ → Marked
item_for form asked k = in_form form (question_at asked k).answer (question_at asked k).bound

pub asked_at : (form : Form) (asked : List Asked) (k : ℕ) (q : Asked) (m : Marked) → k < length asked
    → get_or (asked_items form asked) k m ≡ in_form form (get_or asked k q).answer (get_or asked k q).bound
asked_at form asked k q m within =
    item_at form (answers_in asked) (bounds_in asked) k (pos 0) (pos 0) m (same_lengths asked)
    (omega (arith, within, length-answers_in asked))
    ∙ ap (λ (x : ℤ). in_form form x (get_or (bounds_in asked) k (pos 0))) (answer_at asked k q (pos 0) within)
    ∙ ap (λ (x : ℤ). in_form form (get_or asked k q).answer x) (bound_at asked k q (pos 0) within)
