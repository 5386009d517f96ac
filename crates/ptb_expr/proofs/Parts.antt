-- This file proves how facts of a text and a place are carried to the same text and place.
-- Main lemma: `at_place`.
use Rattle.std.proofs.Common.{◌≡◌, ◌∙◌, ℕ, List, Some, sym, ap}
use Rattle.ptb_text.specs.declared.word.Table.TheVariants.{Functions}
use Rattle.ptb_text.specs.declared.word.Word.{Word}
use Rattle.ptb_text.specs.Words.{word_at}

-- a fact of a text is one of the same text
pub at_text : {A : Type 0} (f : List ℕ → A) {t u : List ℕ} {x : A} → t ≡ u → f t ≡ x → f u ≡ x
at_text f e h = ap f (sym e) ∙ h

-- a fact of a text and a place is one of the same text and the same place
pub at_place : {A : Type 0} (f : List ℕ → ℕ → A) {t u : List ℕ} {i j : ℕ} {x : A} → t ≡ u → i ≡ j → f t i ≡ x
    → f u j ≡ x
at_place f {u = u} {i = i} d e h = ap (f u) (sym e) ∙ ap (λ v. f v i) (sym d) ∙ h

-- where a cursor is that took nothing, and then took nothing more
pub at_first : {t u v : List ℕ} {j k : ℕ} → v ≡ u → k ≡ j → u ≡ t → (v ≡ t) × (k ≡ j)
at_first d e same = (d ∙ same, e)

-- and the function word that was found there is one of them, too
pub at_function : {t u : List ℕ} {i j k : ℕ} {w v : Word} → t ≡ u → i ≡ j → word_at Functions t i ≡ Some (w, k)
    → w ≡ v → word_at Functions u j ≡ Some (v, k)
at_function {k = k} d e h is = at_place (λ t i. word_at Functions t i) d e (h ∙ ap (λ w. Some (w, k)) is)
