-- This file defines where a number is, or would be, among statements that rise by their numbers.
-- Main definition: `statement_at`.
--     statement_at p i               the number and the text of the statement at index i
--     StatementLaws                  what the number of a statement says about its index
use Rattle.std.specs.Prelude.{◌≡◌, ℕ, ◌+◌, ◌<◌, ◌≤◌, IsTrue, List, [], length, Option, Some, ℤ, pos}
use Rattle.std.specs.Prelude.{option_map, slice_get, slice_index_or}
use Rattle.ptb_text.specs.Statements.{Statements, is_program, number_after, text_at}

-- the number of the statement at index i, or 0 past the end
abbrev pub statement_number : Statements → ℕ → ℕ
statement_number p i = let s = slice_index_or p i (0, []) in s.0

-- the statement at index i has the number
pub record IsAt (p : Statements) (n i : ℕ) : Type 0 where
  pub in_range : i < length p
  pub has_number : statement_number p i ≡ n
  pub smaller_before : (j : ℕ) → j < i → statement_number p j < n
  pub greater_after : (j : ℕ) → i < j → j < length p → n < statement_number p j

-- the number would go at index i: smaller numbers before it, and greater ones from it on
pub record IsGapFor (p : Statements) (n i : ℕ) : Type 0 where
  pub in_range : i ≤ length p
  pub smaller_before : (j : ℕ) → j < i → statement_number p j < n
  pub greater_after : (j : ℕ) → i ≤ j → j < length p → n < statement_number p j

-- its number as a number with a sign
abbrev pub statement_at : Statements → ℕ → Option (ℤ × List ℕ)
statement_at p i = option_map (λ s. (pos s.0, s.1)) (slice_get p i)

-- of the statement at index i of a program, with number n and text t
pub record StatementLaws : Type 0 where
  -- it is the one that its number names
  pub text : (p : Statements) (i n : ℕ) (t : List ℕ) → IsTrue (is_program p) → slice_get p i ≡ Some (n, t)
      → text_at p n ≡ Some t
  -- the next number is that of the statement after it
  pub following : (p : Statements) (i n : ℕ) (t : List ℕ) → IsTrue (is_program p) → slice_get p i ≡ Some (n, t)
      → number_after p n ≡ option_map (λ s. s.0) (slice_get p (i + 1))
