-- This file defines what a program line that was taken apart says of the line, for every program and memory.
-- Main definition: `Enters`.
--     EntersNothing line          no program changes
--     IsRefused line fault        each program refuses it
--     IsNumbered line n text      it stores the text under the number, or deletes the statement where the text is empty
--     IsLineFault fault           a fault that a line can have, and not lack of memory or a reader's
--     Enters wanted old new result    a call gave the map or the refusal that was wanted, or was refused memory
use Rattle.std.specs.Prelude.{◌≡◌, ℕ, ◌<◌, ◌≤◌, IsTrue, List, length, Result, Ok, Err, IsOk, IfErr, OnOk, OnErr}
use Rattle.std.specs.List.{list_all}
use Rattle.ptb_text.specs.declared.fault.LoadFault.{LoadFault}
use Rattle.ptb_text.specs.declared.fault.LoadFault.TheVariants.{NoNumber, NumberTooBig, TextTooLong}
use Rattle.ptb_text.specs.declared.fault.LoadFault.TheVariants.{BadByte, Full, Memory, Read}
use Rattle.ptb_text.specs.declared.fault.LoadFault.TheVariants.{TooLong}
use Rattle.ptb_text.specs.Lines.{is_printable}
use Rattle.ptb_text.specs.Statements.{Statements, StoredProgram, after_line, after_statement}
use Rattle.ptb_text.specs.Statements.{text_after_number, trim_start}
use Rattle.ptb_text.specs.Digits.{number_limit}

abbrev pub EntersNothing : List ℕ → Type 0
EntersNothing line = (p : Statements) (memory : ℕ) → after_line p memory line ≡ Ok p

abbrev pub IsRefused : List ℕ → LoadFault → Type 0
IsRefused line fault = (p : Statements) (memory : ℕ) → after_line p memory line ≡ Err fault

pub record IsNumbered (line : List ℕ) (n : ℕ) (text : List ℕ) : Type 0 where
  pub low : 0 < n
  pub high : n ≤ number_limit
  pub printable : IsTrue (list_all is_printable text)
  pub no_blank_in_front : length (trim_start text) ≡ length text
  pub after_the_number : text ≡ text_after_number line
  pub enters : (p : Statements) (memory : ℕ) → after_line p memory line ≡ after_statement p memory n text

abbrev pub IsLineFault : LoadFault → Type 0
IsLineFault NoNumber = Unit {0}
IsLineFault NumberTooBig = Unit {0}
IsLineFault TextTooLong = Unit {0}
IsLineFault (BadByte place) = Unit {0}
IsLineFault Full = Unit {0}
IsLineFault Memory = ⊥
IsLineFault Read = ⊥
IsLineFault TooLong = ⊥

-- a call that was to give this map, or this refusal
pub record Enters (wanted : Result Statements LoadFault) (old new : StoredProgram)
    (result : Result (Unit {0}) LoadFault) : Type 0 where
  pub ok : OnOk result (wanted ≡ Ok new.lines)
  pub refused : IfErr result (λ f. IsLineFault f → wanted ≡ Err f)
  pub memory_last : IfErr result (λ f. ¬ IsLineFault f → (f ≡ Memory) × IsOk wanted)
  pub err : OnErr result (new ≡ old)
  pub memory : new.memory ≡ old.memory
