-- This file proves that a list refuses its next answer where that is below 1 or above the bound.
-- Main lemmas: `too_low` and `too_high`.
use Rattle.std.proofs.Common.{◌≡◌, ◌<◌, ℕ, ℤ, List, Some, length, get_or, pos, FitsSigned, of_z}
use Rattle.std.proofs.Common.{to_z, to_z-of_z, w16, true, false, arith}
use Rattle.std.specs.Int.Signed.{lt_z}
use Rattle.std.specs.List.{slice_get}
use Rattle.std.proofs.lemmas.Grind.{common_steps}
use Rattle.std.proofs.lemmas.Option.{slice_get-get_or}
use Rattle.ptb_answers.specs.Choices.{AnswerList}
use Rattle.ptb_answers.specs.Outcome.{is_answer}

pub too_low : (n k : ℤ) → lt_z k (pos 1) ≡ true → is_answer n k ≡ false
too_low n k h = grind (arith, common_steps)

above : (n k : ℤ) → lt_z n k ≡ true → is_answer n k ≡ false
above n k h = grind (arith, common_steps)

-- the bound n as the code has it
pub too_high : (n k : ℤ) → FitsSigned w16 n → lt_z (to_z w16 (of_z w16 n)) k ≡ true → is_answer n k ≡ false
too_high n k fits h = above n k (rw (to_z-of_z fits) at h)

-- the answer at place i is the next of the list, which the code has as xs and i
pub next_is : (l : AnswerList) (xs : List ℤ) (i : ℕ) → record { answers = xs; given = i } ≡ l → i < length xs
    → FitsSigned w16 (get_or xs i (pos 0))
    → slice_get l.answers l.given ≡ Some (to_z w16 (of_z w16 (get_or xs i (pos 0))))
next_is l xs i view within fits = rw (← view, to_z-of_z fits) (slice_get-get_or xs i (pos 0) within)
