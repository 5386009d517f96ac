-- This file defines what the readers of a statement give.
-- Main definition: `IsRead`.
--     IsRead t i r j       what was read at place i is whole, and j, which lies ahead, is the place after it
--     IsClosed t i r j     the same of the parts of a command that ends at j
--     NextBegins t i j        after a command that ends at i the next one begins at j
--     IsNext t i letter j           a letter is at i, and the command ends after it, with the next one at j
--     IsFirstWord t i word j     the word with which a command begins, and the place after it
use Rattle.std.specs.Prelude.{◌≡◌, ◌≤◌, ◌⊎◌, ℕ, true, List, length, Some, None, unwrap_or}
use Rattle.ptb_text.specs.declared.word.Table.TheVariants.{Commands}
use Rattle.ptb_text.specs.declared.word.Word.{Word}
use Rattle.ptb_text.specs.declared.word.Word.TheVariants.{LetKw}
use Rattle.ptb_text.specs.Words.{word_at, token_at, letter_at}
use Rattle.ptb_text.specs.FoundParts.{LiesAhead}
use Rattle.ptb_expr.specs.Reading.{Reading}
use Rattle.ptb_expr.specs.Evaluation.{IsWhole}
use Rattle.ptb_command.specs.Commands.{Part, command_ends, parts_of, command_of, command_at}

pub record IsRead {A : Type 0} (t : List ℕ) (i : ℕ) (r : Reading A) (j : ℕ) : Type 0 where
  pub whole : IsWhole r j
  pub ahead : LiesAhead t i j

pub record IsClosed (t : List ℕ) (i : ℕ) (r : Reading (List Part)) (j : ℕ) : Type 0 where
  pub whole : IsWhole r j
  pub from : i ≤ j
  pub within : j ≤ length t
  pub ends : command_ends t j ≡ true

-- j is the place of the command after one that ends at i: after `;`, or there
abbrev pub NextBegins : List ℕ → ℕ → ℕ → Type 0
NextBegins t i j = (token_at 59 t i ≡ Some j) ⊎ ((token_at 59 t i ≡ None) × (j ≡ i))

-- without a word it is LET, and nothing is taken
abbrev pub first_word_at : List ℕ → ℕ → Word × ℕ
first_word_at t i = unwrap_or (word_at Commands t i) (LetKw, i)

pub record IsFirstWord (t : List ℕ) (i : ℕ) (word : Word) (j : ℕ) : Type 0 where
  pub there : first_word_at t i ≡ (word, j)
  pub command : command_at t i ≡ command_of word (parts_of word t j)
  pub from : i ≤ j
  pub within : j ≤ length t

-- a letter is there, and the command ends after it
pub record IsNext (t : List ℕ) (i letter next : ℕ) : Type 0 where
  pub end : ℕ
  pub is : letter_at t i ≡ Some (letter, end)
  pub from : i ≤ end
  pub within : end ≤ length t
  pub ends : command_ends t end ≡ true
  pub follows : NextBegins t end next
