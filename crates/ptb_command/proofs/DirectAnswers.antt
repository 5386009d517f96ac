-- This file proves the result of asking for a line where nothing can go wrong.
-- Main lemma: `letter_asked`.
use Rattle.std.proofs.Common.{◌≡◌, ◌∙◌, ◌⊎◌, ℕ, List, [], ◌∷◌, ◌++◌, ap, append-nil}
use Rattle.std.proofs.Common.{inl, inr, sym}
use Rattle.ptb_expr.specs.declared.store.Target.TheVariants as targets
use Rattle.ptb_expr.specs.Tree.{Tree, Var}
use Rattle.ptb_command.specs.Act.{ask_for}
use Rattle.ptb_command.specs.Actions.{goes_on}
use Rattle.ptb_command.specs.Traces.{Trace, with_pending, RefinesPart}
use Rattle.ptb_command.proofs.Evaluations.{target_letter}
use Rattle.ptb_command.proofs.GatheredBytes.{gathered}
use Rattle.ptb_command.proofs.InputItems.{ask_known_refines_part}

-- what is named has its prompt
pub prompt_known : (prompt name : List ℕ) (Named : Type 0) → (prompt ≡ name ++ 58 ∷ []) ⊎ (Named → ⊥) → Named
    → prompt ≡ name ++ 58 ∷ []
prompt_known prompt name Named (inl e) named = e
prompt_known prompt name Named (inr f) named = absurd (f named)

module _ (said : List ℕ) (x : Tree) (prompt : List ℕ) where
  -- a letter is named, nothing is said before, and the prompt is gathered
  pub letter_asked : (name : List ℕ) (o : Trace) (old new : List ℕ) (letter : ℕ) → prompt ≡ name ++ 58 ∷ [] → said ≡ []
      → x ≡ Var letter → new ≡ old ++ (name ++ 58 ∷ [])
      → RefinesPart (with_pending old o) (with_pending new o) (ask_for said x prompt) (goes_on (targets.Var letter))
  letter_asked name o old new letter is silent e shown =
      ask_known_refines_part said x prompt name is (targets.Var letter)
      (gathered o old old said (sym (ap (λ (s : List ℕ). old ++ s) silent ∙ append-nil old)))
      (target_letter (with_pending old o) x letter e)
      (gathered o old new (name ++ 58 ∷ []) shown)
