-- This file proves what the number of a statement says about its place.
-- Main lemma: `statement_laws`.
use Rattle.std.proofs.Common.{◌≡◌, ℕ, zero, suc, ◌<◌, List, [], ◌∷◌, length, get_or, Some}
use Rattle.std.proofs.Common.{slice_get, add-one, ap, subst, ◌∙◌, arith}
use Rattle.ptb_text.specs.Statements.{Statements, text_at}
use Rattle.ptb_text.specs.NumberOrder.{IsAt, StatementLaws, statement_number}
use Rattle.ptb_text.proofs.Entries.{number_after-place}
use Rattle.ptb_text.proofs.SoundPrograms.{both_true, IsAt-from_rising, text_at-number}

there : (p : Statements) (i : ℕ) (s : ℕ × List ℕ) → slice_get p i ≡ Some s → (i < length p) × (get_or p i (0, []) ≡ s)
there [] i s e = absurd cc
there (x ∷ p) zero s e = (omega arith, cc)
there (x ∷ p) (suc i) s e = let r = there p i s e in (omega (arith, r.0), r.1)

pub statement_laws : StatementLaws
statement_laws = record {
  text = λ p i n t is e.
      let s = there p i (n, t) e in
      let number : statement_number p i ≡ n = ap (λ x. x.0) s.1 in
      subst (λ (k : ℕ). text_at p k ≡ Some t) number (text_at-number p is i s.0 ∙ ap (λ x. Some x.1) s.1);
  following = λ p i n t is e.
      let s = there p i (n, t) e in
      let number : statement_number p i ≡ n = ap (λ x. x.0) s.1 in
      rw add-one
      (number_after-place p n i (subst (λ (k : ℕ). IsAt p k i) number (IsAt-from_rising p (both_true _ _ is).0 i s.0)));
}
