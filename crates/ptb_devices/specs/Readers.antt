-- This file defines what a source of lines over a reader holds, and how it continues.
-- Main definition: `line_input`.
--     line_reader s                the reference to the reader that the lines come from
--     line_input s                 what has come of the input and was not given
--     GivesFrom s given t          between two states of it, these lines were given
use Rattle.std.specs.Prelude.{◌≡◌, ℕ, List, Option}
use Rattle.std.specs.Borrow.{MutBor}
use Rattle.ptb_devices.specs.declared.reader_lines.ReaderLines.{ReaderLines}
use Rattle.ptb_devices.specs.Inputs.{InputState, InputNow, input_now, ReadsOn, missed_in}

abbrev pub line_reader : {R : Type 0} → ReaderLines R → MutBor R
line_reader s = s.reader

abbrev pub line_input : {R : Type 0} → ReaderLines R → InputState
line_input s = s.buffer

-- by what the reader's contract says of its bytes, how many it gave, and its failures
abbrev pub input_of : {R : Type 0} → (R → Option (List ℕ)) → (R → ℕ) → (R → ℕ) → ReaderLines R → InputNow
input_of remaining given failures s = input_now remaining given failures (line_input s) (line_reader s).now

pub record GivesFrom {R : Type 0} (remaining : R → Option (List ℕ)) (counted failures : R
    → ℕ) (old : ReaderLines R) (given : List (List ℕ)) (new : ReaderLines R) : Type 0 where
  pub same_borrow : (line_reader new).ghost_name ≡ (line_reader old).ghost_name
  pub reads : ReadsOn (missed_in (line_input new)) (input_of remaining counted failures old) given
      (input_of remaining counted failures new)
