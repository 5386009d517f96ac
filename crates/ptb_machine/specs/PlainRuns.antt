-- This file defines what a plain run shows and reads.
-- Main definition: `PlaysWith`.
--     ShowsRun r old new e       of a run with the bytes and the ending r, the bytes were shown and the ending is e
--     lines_come taken           the lines that came complete in these bytes
--     IsUnreadable known old new the input could not be read, or is too long
--     IsLed refuses taken all    what a chooser is to answer begins with what it has answered
--     GoesBy refuses c d answers p rules    a chooser goes by these answers on the lines of each input
--     without_choose rules       the rules by which no answer is asked for instead of a line
--     ShowsQuestion run all old new       with the first of these answers a run asks, and what it shows until then was
--                                         shown
--     lines_taken p lines rules a    how many of the lines of its input a run takes
--     lines_wanted choose all k result    how many of all lines a run wants that takes k
--     ReadsFor taken wanted      these bytes were taken of an input for so many lines
--     PlaysWith p rules answers ..    the program was played with these answers, and what was shown was written
--     WantsMemory p rules answers ..  where a run that was refused memory stopped
--     ReadsLines input result    how much was read of the input, and when it is at fault
--     HasLine p rules answers input end    the line at which the limit stopped the run
use Rattle.std.specs.Prelude.{◌≡◌, ◌⊎◌, ◌+◌, ◌-◌, ◌==◌, if◌then◌else◌, ◌<◌, ◌≤◌, ℕ, List, [], ◌++◌}
use Rattle.std.specs.Prelude.{length, take, ◌∷◌, Option, Some, None, Result, Ok, Err, IfOk, IfSome}
use Rattle.std.specs.Prelude.{IsErrOf, OnErr, OnOk, ℤ}
use Rattle.std.specs.Io.KnownBytes.{Appends, Consumes}
use Rattle.ptb_text.specs.Device.{GivesAtMost, GivesExactly, HasFailed, TakesSome}
use Rattle.ptb_text.specs.Lines.{input_lines}
use Rattle.ptb_text.specs.Statements.{StoredProgram}
use Rattle.ptb_answers.specs.declared.pause.Pause.{Pause}
use Rattle.ptb_answers.specs.declared.pause.Pause.TheVariants as pauses
use Rattle.ptb_answers.specs.Outcome.{Answers}
use Rattle.ptb_answers.specs.Choices.{AsksFor, Choices, with_answers}
use Rattle.ptb_command.specs.declared.ending.Ending.{Ending}
use Rattle.ptb_command.specs.declared.ending.Ending.TheVariants as endings
use Rattle.ptb_devices.specs.CutLines.{whole_lines}
use Rattle.ptb_devices.specs.declared.whole_input.TheConstants.{INPUT_LIMIT}
use Rattle.ptb_devices.specs.Sources.{ConsumesAtMost}
use Rattle.ptb_answers.specs.declared.rules.Rules.{Rules}
use Rattle.ptb_machine.specs.Play.{plain, play, stopping_line, unasked_lines}
use Rattle.ptb_machine.specs.declared.fault.RunFault.{RunFault}
use Rattle.ptb_machine.specs.declared.fault.RunFault.TheVariants as runs
use Rattle.ptb_machine.specs.declared.run_end.RunEnd.{RunEnd}
use Rattle.ptb_machine.specs.Streams.{Reads, Writes}

pub record ShowsRun (r : List ℕ × Ending) (old new : Option (List ℕ)) (e : Ending) : Type 0 where
  pub ending : e ≡ r.1
  pub bytes : Appends old new r.0

-- the bytes that an input may have
abbrev pub input_limit : ℕ
input_limit = INPUT_LIMIT

-- the lines that came complete in these bytes, within what an input may have
abbrev pub lines_come : List ℕ → List (List ℕ)
lines_come taken = whole_lines None (take input_limit taken)

-- by the bytes of a reader, where they are known, and how often it has failed
abbrev pub IsUnreadable : Option (List ℕ) → ℕ → ℕ → Type 0
IsUnreadable known old new = HasFailed old new ⊎ IfSome known (λ c. input_limit < length c)

-- ---- the answers by which a run goes

-- `all` is what a chooser is to answer, and some of it was taken; `refuses` is what holds after a refusal
pub record IsLed (refuses : Pause → ℤ → Type 0) (taken all : Answers) : Type 0 where
  pub rest : Answers
  pub whole : all ≡ taken ++ rest
  -- it ends where nothing is left, and an answer is out of range where it is the next
  pub ended : (n : ℤ) → refuses pauses.Ended n → rest ≡ []
  pub outside : (k n : ℤ) → refuses (pauses.OutOfRange k) n → (later : Answers) × (rest ≡ k ∷ later)

-- whatever a run on these lines has asked, between two states of its chooser; the answers may hang on the lines
abbrev pub GoesBy : (Pause → ℤ → Type 0) → Choices → Choices → (List (List ℕ) → Answers) → StoredProgram → Rules
    → Type 0
GoesBy refuses c d answers p rules =
    (lines : List (List ℕ)) (taken : Answers) (bounds : List ℤ)
    → AsksFor (play p lines rules) taken bounds → d ≡ with_answers taken bounds c → IsLed refuses taken (answers lines)

-- ---- a line that can't be read

-- the same rules, by which a run ends where no line is left
abbrev pub without_choose : Rules → Rules
without_choose rules = record rules { choose = None; in_range = tt }

-- ---- an answer for which there is no memory

-- With the first of these answers a run ends for lack of one more: what was shown is all that it shows up to that
-- question.
pub record ShowsQuestion (run : Answers → List ℕ × Ending) (all : Answers) (old new : Option (List ℕ)) : Type 0 where
  pub drawn : Answers
  pub rest : Answers
  pub all_are : all ≡ drawn ++ rest
  pub shows : ShowsRun (run drawn) old new endings.NoAnswer

-- ---- what a run takes of its input

-- all but those for which it doesn't ask
abbrev pub lines_taken : StoredProgram → List (List ℕ) → Rules → Answers → ℕ
lines_taken p lines rules a = length lines - length (unasked_lines p lines rules a)

-- one more where it ended for lack of a line, or the next could not be read
abbrev pub ending_wanted : ℕ → Result Ending RunFault → ℕ
ending_wanted k (Ok endings.NoInput) = k + 1
ending_wanted k (Ok endings.End) = k
ending_wanted k (Ok endings.Stop) = k
ending_wanted k (Ok endings.What) = k
ending_wanted k (Ok endings.How) = k
ending_wanted k (Ok endings.Sorry) = k
ending_wanted k (Ok endings.Limit) = k
ending_wanted k (Ok endings.NoAnswer) = k
ending_wanted k (Ok endings.BadAnswer) = k
ending_wanted k (Err runs.Read) = k + 1
ending_wanted k (Err runs.Memory) = k
ending_wanted k (Err runs.Write) = k
ending_wanted k (Err runs.Spent) = k

-- with answers instead of lines, a run that takes all lines may want one more
abbrev pub lines_wanted : Option ℤ → ℕ → ℕ → Result Ending RunFault → ℕ
lines_wanted None all k result = ending_wanted k result
lines_wanted (Some n) all k result = if k == all then k + 1 else ending_wanted k result

-- the bytes that one read gives at most
abbrev pub piece_limit : ℕ
piece_limit = 4096

-- the last read gave at most so many bytes, and before it fewer lines were complete than wanted
pub record IsReadFor (taken : List ℕ) (wanted : ℕ) : Type 0 where
  pub before : List ℕ
  pub piece : List ℕ
  pub both : taken ≡ before ++ piece
  pub some : 0 < length piece
  pub fits : length piece ≤ piece_limit
  pub needed : length (whole_lines None before) < wanted

-- where no line is wanted nothing is taken
abbrev pub ReadsFor : List ℕ → ℕ → Type 0
ReadsFor taken wanted = (taken ≡ []) ⊎ IsReadFor taken wanted

-- ---- what is promised of a run

-- The program was played by these rules with these answers, which may depend on the lines of the input.
pub record PlaysWith {R : Type 0} (p : StoredProgram) (rules : Rules) (answers : List (List ℕ)
    → Answers) (input : Reads R) (out : Writes) (result : Result Ending RunFault) : Type 0 where
  -- What was written is what the play on the lines of the input shows, and the ending is that of the play.
  pub ended : IfOk result
      (λ ending. IfSome input.bytes
      (λ c. ShowsRun (plain p (input_lines c) rules (answers (input_lines c))) out.before out.after ending))
  -- After a fault it is a prefix of that.
  pub broken_off : OnErr result
      (IfSome input.bytes
      (λ c. TakesSome out.before out.after (plain p (input_lines c) rules (answers (input_lines c))).0))
  -- Where a line could not be read, it is what the play on the lines that came complete shows, which ends for lack of
  -- the next one: no answer is asked for instead of a line that may come.
  pub unread : IsErrOf result runs.Read
      → (taken : List ℕ) × Consumes input.bytes input.left taken
      × ShowsRun (plain p (lines_come taken) (without_choose rules) (answers (lines_come taken))) out.before out.after
      endings.NoInput
  -- The input was read on only while fewer lines were complete than the play asks for.
  pub asked : (taken : List ℕ) × Consumes input.bytes input.left taken
      × IfSome input.bytes (λ c. ReadsFor taken (lines_wanted rules.choose (length (input_lines c))
      (lines_taken p (input_lines c) rules (answers (input_lines c))) result))
  -- The writer is at fault where it failed, and only there.
  pub failed : IsErrOf result runs.Write → HasFailed out.failed out.fails
  pub unfailed : ¬ IsErrOf result runs.Write → out.fails ≡ out.failed
  -- The machine was new.
  pub unspent : ¬ IsErrOf result runs.Spent

-- Memory was refused before anything was written, or for the next answer: what was written is then what the play of
-- the answers so far shows up to the question.
abbrev pub WantsMemory : {R : Type 0} → StoredProgram → Rules → (List (List ℕ) → Answers) → Reads R → Writes → Type 0
WantsMemory p rules answers input out =
    Appends out.before out.after [] ⊎ IfSome input.bytes
    (λ c. ShowsQuestion (plain p (input_lines c) rules) (answers (input_lines c)) out.before out.after)

pub record ReadsLines {R : Type 0} (input : Reads R) (result : Result Ending RunFault) : Type 0 where
  -- A run that ends has taken at most 16,777,216 bytes, and no run takes more than one more.
  pub within : OnOk result (ConsumesAtMost input.bytes input.left input_limit)
  pub bounded : ConsumesAtMost input.bytes input.left (input_limit + 1)
  pub given : GivesAtMost input.gave input.gives (input_limit + 1)
  -- The input is at fault where its reader failed, and only there or where it has more than 16,777,216 bytes
  pub unreadable : IsErrOf result runs.Read → IsUnreadable input.bytes input.failed input.fails
  pub unfailed : ¬ IsErrOf result runs.Read → input.fails ≡ input.failed
  -- and gave 16,777,217.
  pub failed_or_given : IsErrOf result runs.Read
      → HasFailed input.failed input.fails ⊎ GivesExactly input.gave input.gives (input_limit + 1)

-- Where it ended at its limit, it has the number of the statement in which the next command of the play begins. No
-- other ending has a line.
pub record HasLine {R : Type 0} (p : StoredProgram) (rules : Rules) (answers : List (List ℕ)
    → Answers) (input : Reads R) (end : RunEnd) : Type 0 where
  pub at_limit : end.ending ≡ endings.Limit
      → IfSome input.bytes (λ c. end.line ≡ stopping_line p (input_lines c) rules (answers (input_lines c)))
  pub elsewhere : ¬ (end.ending ≡ endings.Limit) → end.line ≡ None
