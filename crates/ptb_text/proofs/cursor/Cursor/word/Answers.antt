-- This file proves which word is next.
use Rattle.std.proofs.Common.{arith, refl, sym, ◌∙◌}
use Rattle.std.proofs.Math.Nat.{le_of_lt}
use Rattle.std.proofs.lemmas.Bool.{true≢false}
use Rattle.ptb_text.proofs.FoundParts.{word_ahead}
use Rattle.ptb_text.proofs.Words.{word_at_last, word_at_other}
use Rattle.ptb_text.proofs.TakenTokens.{text_is, next_is, ahead_left, word_none, word_taken}
use Rattle.ptb_text.proofs.cursor.Cursor.word.Goals as goal
use Rattle.ptb_text.proofs.cursor.Cursor.word.Goals.{then-self-via-then-self}
use Rattle.ptb_text.proofs.cursor.Cursor.word.Goals.{then-self-via-else-self+then-not-continues_word}

pub returns-then-self-clause-value : goal.returns-then-self-clause-value
returns-then-self-clause-value c =
    let text = text_is c.self.view_is in
    let next = next_is c.self.view_is c.self.invariant.0 in
    elim c.then-self.branch [
      | then-self-via-then-self w ↦ word_at_last _ _ _ (rw (text, next) at w.if-self.true)
      | then-self-via-else-self+then-not-continues_word w ↦
          word_at_other _ _ _ _ (omega (arith, rw (text, next) at w.if-self.false)) refl
          (sym (rw (text, next) at w.continues_word.ensures) ∙ w.if-not-continues_word.true)
    ]

pub returns-in_err-found-clause-value : goal.returns-in_err-found-clause-value
returns-in_err-found-clause-value c =
    rw c.from_residual.ensures (word_none _ _ _ _ _ (text_is c.self.view_is)
    (next_is c.self.view_is c.self.invariant.0) c.in_err-found.ensures.value.first)

pub returns : goal.returns
returns c =
    let found = word_taken _ _ _ _ _ _ _ _ (text_is c.self.view_is) (next_is c.self.view_is c.self.invariant.0)
    c.in_ok-found.ensures.value.first (rw c.from.ensures at c.pass_to.ensures.place) in
    let finds = word_ahead _ _ _ _ _ found in
    let less = ahead_left _ _ c.pass_to.ensures.text finds.0 in
    record {
      value = found;
      word = finds.1;
      text = c.pass_to.ensures.text;
      taken = λ _. less;
      left = le_of_lt less;
      absent = λ h. absurd (true≢false h);
    }
