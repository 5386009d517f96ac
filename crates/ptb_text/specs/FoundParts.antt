-- This file states what holds of all that is found at a place: where it ends, and what the next byte says about it.
-- Main definition: `FindingLaws`.
--     LiesAhead t i j          j is a place that something found at i may end at
--     IsNextToken t i next      what the next byte says about each thing that may be found at i
--     FindingLaws              both hold of all that is found
use Rattle.std.specs.Prelude.{◌≡◌, ℕ, ◌+◌, ◌<◌, ◌≤◌, Bool, false, ◌==◌, if◌then◌else◌, List}
use Rattle.std.specs.Prelude.{length, Option, Some, None, is_none, IsTrue, IsFalse, ℤ}
use Rattle.std.specs.Prelude.{pos, ◌≤ℤ◌}
use Rattle.ptb_text.specs.declared.word.Table.{Table}
use Rattle.ptb_text.specs.declared.word.Word.{Word}
use Rattle.ptb_text.specs.declared.word.Number.{Number}
use Rattle.ptb_text.specs.declared.word.Number.TheVariants.{Absent, Value}
use Rattle.ptb_text.specs.Digits.{is_digit, number_limit}
use Rattle.ptb_text.specs.Words.{past_blanks, next_byte_at, is_over, word_at, begins_word}
use Rattle.ptb_text.specs.Words.{IsWordOf, token_at, pair_at, letter_at, letter_there}
use Rattle.ptb_text.specs.Words.{number_at, is_number, is_quote, is_quotation, quotation_at}
use Rattle.ptb_text.specs.Words.{NoQuote, QuotedText}

-- ---- where it ends

-- j lies after i and no further than the text's end, and the blanks there are passed
pub record LiesAhead (t : List ℕ) (i j : ℕ) : Type 0 where
  pub after : i < j
  pub within : j ≤ length t
  pub settled : past_blanks t j ≡ j

-- ---- the next byte

-- whether there is a byte, and it passes the test
abbrev pub is_next : (ℕ → Bool) → Option ℕ → Bool
is_next test (Some b) = test b
is_next test None = false

-- the place after one byte, and the blanks after it
abbrev pub past_byte : List ℕ → ℕ → ℕ
past_byte t i = past_blanks t (past_blanks t i + 1)

-- next is the next byte, if there is one, and this is what it says
pub record IsNextToken (t : List ℕ) (i : ℕ) (next : Option ℕ) : Type 0 where
  pub byte : next_byte_at t i ≡ next
  pub over : is_over t i ≡ is_none next
  pub token : (c : ℕ) → token_at c t i ≡ (if is_next (λ b. c == b) next then Some (past_byte t i) else None)
  pub pair : (c d : ℕ) → IsFalse (is_next (λ b. c == b) next) → pair_at c d t i ≡ None
  pub letter : letter_at t i ≡ letter_there t (past_blanks t i) next
  pub word : (table : Table) → IsFalse (is_next (begins_word table) next) → word_at table t i ≡ None
  pub no_number : IsFalse (is_next is_digit next) → number_at t i ≡ (Absent, i)
  pub number : is_number (number_at t i).0 ≡ is_next is_digit next
  pub no_quotation : IsFalse (is_next is_quote next) → quotation_at t i ≡ NoQuote
  pub quotation : is_quotation (quotation_at t i) ≡ is_next is_quote next

-- ---- the laws

pub record FindingLaws : Type 0 where
  pub forward : (t : List ℕ) (i : ℕ) → i ≤ past_blanks t i
  pub within : (t : List ℕ) (i : ℕ) → i ≤ length t → past_blanks t i ≤ length t
  pub twice : (t : List ℕ) (i : ℕ) → past_blanks t (past_blanks t i) ≡ past_blanks t i
  pub word : (table : Table) (t : List ℕ) (i : ℕ) (w : Word) (j : ℕ) → word_at table t i ≡ Some (w, j) → LiesAhead t i j
  pub word_of : (table : Table) (t : List ℕ) (i : ℕ) (w : Word) (j : ℕ) → word_at table t i ≡ Some (w, j)
      → IsWordOf table w
  pub token : (c : ℕ) (t : List ℕ) (i j : ℕ) → token_at c t i ≡ Some j → LiesAhead t i j
  pub pair : (c d : ℕ) (t : List ℕ) (i j : ℕ) → pair_at c d t i ≡ Some j → LiesAhead t i j
  pub letter : (t : List ℕ) (i c j : ℕ) → letter_at t i ≡ Some (c, j) → LiesAhead t i j
  pub letter_range : (t : List ℕ) (i c j : ℕ) → letter_at t i ≡ Some (c, j) → (65 ≤ c) × (c ≤ 90)
  pub number : (t : List ℕ) (i : ℕ) (n : Number) (j : ℕ) → number_at t i ≡ (n, j) → IsTrue (is_number n)
      → LiesAhead t i j
  pub no_number : (t : List ℕ) (i j : ℕ) → number_at t i ≡ (Absent, j) → j ≡ i
  pub number_range : (t : List ℕ) (i : ℕ) (v : ℤ) (j : ℕ) → number_at t i ≡ (Value v, j)
      → (pos 0 ≤ℤ v) × (v ≤ℤ pos number_limit)
  pub quotation : (t : List ℕ) (i : ℕ) (s : List ℕ) (j : ℕ) → quotation_at t i ≡ QuotedText s j → LiesAhead t i j
  pub next : (t : List ℕ) (i : ℕ) → IsNextToken t i (next_byte_at t i)
