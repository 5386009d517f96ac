-- This file answers what is left to prove of the number in front of a text.
use Rattle.std.proofs.Common.{refl}
use Rattle.ptb_text.proofs.TakenTokens.{number_absent, number_value, number_too_big}
use Rattle.ptb_text.proofs.numerals.number_in_front.Goals as goal

pub returns-then-count-eq0-clause-value : goal.returns-then-count-eq0-clause-value
returns-then-count-eq0-clause-value c = number_absent _ _ _ _ _ refl c.after_blanks-start.ensures.value
    c.leading_digits-value.ensures.count c.if-count-eq0.true

pub returns-in-Ok-clause-value : goal.returns-in-Ok-clause-value
returns-in-Ok-clause-value c = number_value _ _ _ _ _ _ _ _ _ refl c.after_blanks-start.ensures.value
    c.after_blanks-start.ensures.value c.leading_digits-value.ensures.count c.if-count-eq0.false
    c.leading_digits-value.ensures.value c.in-Ok.ensures c.after_blanks-place.ensures.value

pub returns-in-Err-clause-value : goal.returns-in-Err-clause-value
returns-in-Err-clause-value c = number_too_big _ _ _ _ _ _ _ _ refl c.after_blanks-start.ensures.value
    c.after_blanks-start.ensures.value c.leading_digits-value.ensures.count c.if-count-eq0.false
    c.leading_digits-value.ensures.value c.in-Err.ensures c.after_blanks-place.ensures.value
