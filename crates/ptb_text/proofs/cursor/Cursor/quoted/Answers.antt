-- This file proves what is between two quotes.
use Rattle.std.proofs.Common.{◌≡◌, ℕ, true, sym, refl, arith, inl, inr}
use Rattle.std.proofs.Math.Nat.{le_of_lt}
use Rattle.ptb_text.specs.Words.{is_quote}
use Rattle.ptb_text.proofs.FoundParts.{quotation_ahead}
use Rattle.ptb_text.proofs.TakenTokens.{text_is, next_is, ahead_left, quotation_closed, quotation_open, quoted_piece}
use Rattle.ptb_text.proofs.cursor.Cursor.quoted.Goals as goal

pub returns-in_default-bytes_before-clause-value : goal.returns-in_default-bytes_before-clause-value
returns-in_default-bytes_before-clause-value c =
    let quote : is_quote c.in-Some.byte ≡ true =
    elim c.if-byte-eq39.either [ inl e ↦ rw e refl | inr e ↦ rw e.1 refl ] in
    quotation_open _ _ _ _ _ (text_is c.self.view_is)
    (next_is c.self.view_is c.self.invariant.0) c.in-Some.ensures.byte quote
    (sym c.in_default-bytes_before.ensures.value)

pub returns-clause-value : goal.returns-clause-value
returns-clause-value c =
    let same = text_is c.self.view_is in
    let at = next_is c.self.view_is c.self.invariant.0 in
    let again = next_is c.pass_to.view_is c.pass_to.invariant.0 in
    let quote : is_quote c.in-Some.byte ≡ true =
    elim c.if-byte-eq39.either [ inl e ↦ rw e refl | inr e ↦ rw e.1 refl ] in
    let closed = λ (k p : ℕ). quotation_closed _ _ _ _ _ c.in-Some.byte k p same at again c.in-Some.ensures.byte
    quote in
    grind (arith, closed)

pub returns-clause-piece : goal.returns-clause-piece
returns-clause-piece c =
    quoted_piece _ _ _ _ _ (text_is c.self.view_is)
    (next_is c.self.view_is c.self.invariant.0) c.in-Some-bytes_before.ensures.within

pub returns-clause-taken : goal.returns-clause-taken
returns-clause-taken c = λ _. ahead_left _ _ c.pass_to-2.ensures.text (quotation_ahead _ _ _ _ (returns-clause-value c))

pub returns-clause-left : goal.returns-clause-left
returns-clause-left c =
    le_of_lt (ahead_left _ _ c.pass_to-2.ensures.text (quotation_ahead _ _ _ _ (returns-clause-value c)))
