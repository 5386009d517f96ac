-- This file says what the private functions that look for a word promise. No public contract cites it.
-- Main definition: `FindsWord`.
--     FindsWord ws t place found     found is the first of the words ws at this place
use Rattle.std.specs.Prelude.{◌≡◌, ℕ, ◌<◌, ◌≤◌, List, length, Option, option_map, IfSome}
use Rattle.ptb_text.specs.declared.word.Word.{Word}
use Rattle.ptb_text.specs.Words.{past_blanks, Spelling, first_word}

-- the first of these words that is at the place, and the place after it, whose blanks are not passed yet
pub record FindsWord (ws : List Spelling) (t : List ℕ) (place : ℕ) (found : Option (Word × ℕ)) : Type 0 where
  pub first : first_word ws t place ≡ option_map (λ w. (w.0, past_blanks t w.1)) found
  pub ahead : IfSome found (λ w. (place < w.1) × (w.1 ≤ length t))
