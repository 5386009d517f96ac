-- This file proves what the next digits write.
use Rattle.std.proofs.Common.{◌∙◌, refl, sym}
use Rattle.std.proofs.Math.Nat.{le_of_lt}
use Rattle.ptb_text.proofs.TakenTokens.{text_is, next_is, number_left, digits_within}
use Rattle.ptb_text.proofs.TakenTokens.{number_missing, number_value_at, number_too_big_at}
use Rattle.ptb_text.proofs.cursor.Cursor.number.Goals as goal

pub pass_from-requires-clause-within : goal.pass_from-requires-clause-within
pass_from-requires-clause-within c =
    digits_within _ _ _ _ (text_is c.self.view_is) c.self.invariant.2 c.digits_at-value.ensures.end

pub returns-in-Ok-clause-value : goal.returns-in-Ok-clause-value
returns-in-Ok-clause-value c =
    let digits = c.digits_at-value.ensures in
    number_value_at _ _ _ _ _ _ _ _ (text_is c.self.view_is) (next_is c.self.view_is c.self.invariant.0)
    digits.some digits.end digits.value c.in-Ok.ensures c.pass_from.ensures.place

pub returns-in-Ok-clause-taken : goal.returns-in-Ok-clause-taken
returns-in-Ok-clause-taken c = λ _. number_left _ _ _ c.pass_from.ensures.text (returns-in-Ok-clause-value c) refl

pub returns-in-Ok-clause-left : goal.returns-in-Ok-clause-left
returns-in-Ok-clause-left c = le_of_lt (number_left _ _ _ c.pass_from.ensures.text (returns-in-Ok-clause-value c) refl)

pub returns-in-Err-clause-value : goal.returns-in-Err-clause-value
returns-in-Err-clause-value c =
    let digits = c.digits_at-value.ensures in
    number_too_big_at _ _ _ _ _ _ _ (text_is c.self.view_is) (next_is c.self.view_is c.self.invariant.0)
    digits.some digits.end digits.value c.in-Err.ensures c.pass_from.ensures.place

pub returns-in-Err-clause-taken : goal.returns-in-Err-clause-taken
returns-in-Err-clause-taken c = λ _. number_left _ _ _ c.pass_from.ensures.text (returns-in-Err-clause-value c) refl

pub returns-in-Err-clause-left : goal.returns-in-Err-clause-left
returns-in-Err-clause-left c =
    le_of_lt (number_left _ _ _ c.pass_from.ensures.text (returns-in-Err-clause-value c) refl)

pub returns-then-not-is_ascii_digit-clause-value : goal.returns-then-not-is_ascii_digit-clause-value
returns-then-not-is_ascii_digit-clause-value c =
    number_missing _ _ _ _ _ (text_is c.self.view_is) (next_is c.self.view_is c.self.invariant.0) c.self.invariant.4
    (sym c.is_ascii_digit.ensures.value ∙ c.if-not-is_ascii_digit.true)
