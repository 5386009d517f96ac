-- This file proves what is found at a place of a program's lines, and what an edit there leaves.
-- Main lemmas: `number_after-place` and `without_number-place`.
use Rattle.std.proofs.Common.{◌≡◌, ℕ, zero, suc, List, [], ◌∷◌, get_or, set, Some, None, option_map}
use Rattle.std.proofs.Common.{slice_get, refl, arith}
use Rattle.std.specs.List.{insert, remove}
use Rattle.std.proofs.lemmas.Bool.Decides.{nat_tests}
use Rattle.ptb_text.specs.Statements.{Statements, text_at, with_text, without_number, number_after}
use Rattle.ptb_text.specs.NumberOrder.{IsAt, IsGapFor}

-- in the tail, a place is one lower
IsAt-tail : (s : ℕ × List ℕ) (p : Statements) (n i : ℕ) → IsAt (s ∷ p) n (suc i) → IsAt p n i
IsAt-tail s p n i at = record {
  in_range = omega (arith, at.in_range);
  has_number = at.has_number;
  smaller_before = λ j before. at.smaller_before (suc j) (omega arith);
  greater_after = λ j after in_range. at.greater_after (suc j) (omega arith) (omega arith);
}

IsGapFor-tail : (s : ℕ × List ℕ) (p : Statements) (n i : ℕ) → IsGapFor (s ∷ p) n (suc i) → IsGapFor p n i
IsGapFor-tail s p n i gap = record {
  in_range = omega (arith, gap.in_range);
  smaller_before = λ j before. gap.smaller_before (suc j) (omega arith);
  greater_after = λ j after in_range. gap.greater_after (suc j) (omega arith) (omega arith);
}

-- after the number, all are greater
IsGapFor-following : (s : ℕ × List ℕ) (p : Statements) (n : ℕ) → IsAt (s ∷ p) n 0 → IsGapFor p n 0
IsGapFor-following s p n at = record {
  in_range = omega arith;
  smaller_before = λ j before. absurd (omega arith);
  greater_after = λ j after in_range. at.greater_after (suc j) (omega arith) (omega arith);
}

-- after a greater number, too
IsGapFor-later : (s : ℕ × List ℕ) (p : Statements) (n : ℕ) → IsGapFor (s ∷ p) n 0 → IsGapFor p n 0
IsGapFor-later s p n gap = record {
  in_range = omega arith;
  smaller_before = λ j before. absurd (omega arith);
  greater_after = λ j after in_range. gap.greater_after (suc j) (omega arith) (omega arith);
}

-- ---- look-ups

pub text_at-gap : (p : Statements) (n i : ℕ) → IsGapFor p n i → text_at p n ≡ None
text_at-gap [] n i gap = refl
text_at-gap (s ∷ p) n zero gap =
    grind
    (arith, nat_tests, gap.greater_after 0 (omega arith) (omega arith), text_at-gap p n 0 (IsGapFor-later s p n gap))
text_at-gap (s ∷ p) n (suc i) gap =
    grind (arith, nat_tests, gap.smaller_before 0 (omega arith), text_at-gap p n i (IsGapFor-tail s p n i gap))

pub text_at-place : (p : Statements) (n i : ℕ) → IsAt p n i → text_at p n ≡ Some (get_or p i (0, [])).1
text_at-place [] n i at = absurd (omega (arith, at.in_range))
text_at-place (s ∷ p) n zero at = grind (arith, nat_tests, at.has_number)
text_at-place (s ∷ p) n (suc i) at =
    grind (arith, nat_tests, at.smaller_before 0 (omega arith), text_at-place p n i (IsAt-tail s p n i at))

pub number_after-gap : (p : Statements) (n i : ℕ) → IsGapFor p n i
    → number_after p n ≡ option_map (λ s. s.0) (slice_get p i)
number_after-gap [] n i gap = refl
number_after-gap (s ∷ p) n zero gap = grind (arith, nat_tests, gap.greater_after 0 (omega arith) (omega arith))
number_after-gap (s ∷ p) n (suc i) gap =
    grind (arith, nat_tests, gap.smaller_before 0 (omega arith), number_after-gap p n i (IsGapFor-tail s p n i gap))

pub number_after-place : (p : Statements) (n i : ℕ) → IsAt p n i
    → number_after p n ≡ option_map (λ s. s.0) (slice_get p (suc i))
number_after-place [] n i at = absurd (omega (arith, at.in_range))
number_after-place (s ∷ p) n zero at =
    grind (arith, nat_tests, at.has_number, number_after-gap p n 0 (IsGapFor-following s p n at))
number_after-place (s ∷ p) n (suc i) at =
    grind (arith, nat_tests, at.smaller_before 0 (omega arith), number_after-place p n i (IsAt-tail s p n i at))

-- ---- edits

pub with_text-gap : (p : Statements) (n i : ℕ) (text : List ℕ) → IsGapFor p n i
    → with_text p n text ≡ insert p i (n, text)
with_text-gap [] n zero text gap = refl
with_text-gap [] n (suc i) text gap = absurd (omega (arith, gap.in_range))
with_text-gap (s ∷ p) n zero text gap = grind (arith, nat_tests, gap.greater_after 0 (omega arith) (omega arith))
with_text-gap (s ∷ p) n (suc i) text gap =
    grind (arith, nat_tests, gap.smaller_before 0 (omega arith), with_text-gap p n i text (IsGapFor-tail s p n i gap))

pub with_text-place : (p : Statements) (n i : ℕ) (text : List ℕ) → IsAt p n i → with_text p n text ≡ set p i (n, text)
with_text-place [] n i text at = absurd (omega (arith, at.in_range))
with_text-place (s ∷ p) n zero text at = grind (arith, nat_tests, at.has_number)
with_text-place (s ∷ p) n (suc i) text at =
    grind (arith, nat_tests, at.smaller_before 0 (omega arith), with_text-place p n i text (IsAt-tail s p n i at))

pub without_number-gap : (p : Statements) (n i : ℕ) → IsGapFor p n i → without_number p n ≡ p
without_number-gap [] n i gap = refl
without_number-gap (s ∷ p) n zero gap = grind (
  arith,
  nat_tests,
  gap.greater_after 0 (omega arith) (omega arith),
  without_number-gap p n 0 (IsGapFor-later s p n gap),
)
without_number-gap (s ∷ p) n (suc i) gap =
    grind (arith, nat_tests, gap.smaller_before 0 (omega arith), without_number-gap p n i (IsGapFor-tail s p n i gap))

pub without_number-place : (p : Statements) (n i : ℕ) → IsAt p n i → without_number p n ≡ remove p i
without_number-place [] n i at = absurd (omega (arith, at.in_range))
without_number-place (s ∷ p) n zero at =
    grind (arith, nat_tests, at.has_number, without_number-gap p n 0 (IsGapFor-following s p n at))
without_number-place (s ∷ p) n (suc i) at =
    grind (arith, nat_tests, at.smaller_before 0 (omega arith), without_number-place p n i (IsAt-tail s p n i at))
