-- This file defines what a program text gives when it is loaded, by the bytes of the reader where they are known.
-- Main definition: `Loads`.
--     GivesProgram memory text p    entering the lines of the text gives this map
--     IsLoaded memory text p        the text isn't too long, too
--     IsRefusedAt memory text e     the text isn't too long, and e is its first refusal with the source line
--     AcceptsLines memory text k    the first k lines are accepted
--     HasTextAt lines k             there is a line k, counted from 1, and it has a text to store
--     StoresTextAt text k           the text isn't too long, and its line k has a text to store
--     Loads memory text result      what a text is loaded as, or why it is not
--     FailsToLoad result fault         it is not, for this fault
--     ReadsProgram input result     what is read of the text
use Rattle.std.specs.Prelude.{◌≡◌, ℕ, ◌-◌, ◌<◌, ◌≤◌, List, [], length, take, slice_index_or, Option}
use Rattle.std.specs.Prelude.{Result, Ok, Err, IsOk, IfErr, IfOk, IfSome, IsErrAnd}
use Rattle.ptb_text.specs.declared.fault.LoadFault.{LoadFault}
use Rattle.ptb_text.specs.declared.fault.LoadFault.TheVariants.{Memory, Read, TooLong}
use Rattle.ptb_text.specs.EnteredLines.{IsLineFault}
use Rattle.ptb_text.specs.Lines.{program_lines}
use Rattle.ptb_text.specs.Statements.{HasText, Statements, StoredProgram, after_lines, program, program_limit}
use Rattle.ptb_text.specs.Streams.{Reads, ReadsUpTo}

abbrev pub GivesProgram : ℕ → List ℕ → Statements → Type 0
GivesProgram memory text p = program memory text ≡ Ok p

abbrev pub IsLoaded : ℕ → List ℕ → Statements → Type 0
IsLoaded memory text p = (length text ≤ program_limit) × GivesProgram memory text p

abbrev pub IsRefusedAt : ℕ → List ℕ → ℕ × LoadFault → Type 0
IsRefusedAt memory text e = (length text ≤ program_limit) × (program memory text ≡ Err e)

abbrev pub AcceptsLines : ℕ → List ℕ → ℕ → Type 0
AcceptsLines memory text k = IsOk (after_lines (take k (program_lines text)) 1 [] memory)

abbrev pub HasTextAt : List (List ℕ) → ℕ → Type 0
HasTextAt lines k = (k ≤ length lines) × HasText (slice_index_or lines (k - 1) [])

abbrev pub StoresTextAt : List ℕ → ℕ → Type 0
StoresTextAt text k = (length text ≤ program_limit) × HasTextAt (program_lines text) k

-- ---- what is promised of a load: a program, or a source line, counted from 1, and its fault

pub record Loads (memory : ℕ) (text : Option (List ℕ)) (result : Result StoredProgram (ℕ × LoadFault)) : Type 0 where
  -- The program is that of the text, and is given this memory.
  pub size : IfOk result (λ p. p.memory ≡ memory)
  pub ok : IfOk result (λ p. IfSome text (λ b. IsLoaded memory b p.lines))
  -- A line that is refused is the first one, and the fault is that of its refusal.
  pub refused : IfErr result (λ e. IsLineFault e.1 → IfSome text (λ b. IsRefusedAt memory b e))
  -- A text that is too long, or can't be read, is at fault as a whole: at line 0.
  pub too_long : IfErr result (λ e. e.1 ≡ TooLong → e.0 ≡ 0)
  pub unread : IfErr result (λ e. e.1 ≡ Read → e.0 ≡ 0)
  -- Where memory is refused at a line, the lines up to it are accepted, and it has a text to store. At line 0 it was
  -- refused while the text was read.
  pub memory_last : IfErr result (λ e. e.1 ≡ Memory → IfSome text (λ b. AcceptsLines memory b e.0))
  pub memory_line : IfErr result (λ e. e.1 ≡ Memory → 0 < e.0 → IfSome text (λ b. StoresTextAt b e.0))

abbrev pub FailsToLoad : {T : Type 0} → Result T (ℕ × LoadFault) → LoadFault → Type 0
FailsToLoad result fault = IsErrAnd result (λ e. e.1 ≡ fault)

-- the text is loaded, or one of its lines is at fault
abbrev pub IsReadToEnd : {T : Type 0} → Result T (ℕ × LoadFault) → Type 0
IsReadToEnd (Ok x) = Unit {0}
IsReadToEnd (Err e) = 0 < e.0

abbrev pub ReadsProgram : {R T : Type 0} → Reads R → Result T (ℕ × LoadFault) → Type 0
ReadsProgram input result =
    ReadsUpTo program_limit input (IsReadToEnd result) (FailsToLoad result TooLong) (FailsToLoad result Read)
