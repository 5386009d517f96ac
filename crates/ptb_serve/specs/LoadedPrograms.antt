-- This file defines how a request is served for a program that was loaded.
-- Main definition: `IsServedIn`.
--     IsRunStatus ended result    the status of a run that ended, or the note that says why it did not
--     ServesProgram mode ..       what is written, and the status or the note
--     ReadsInput mode ..          what is read of the input
--     ReportsFailures old new result    that the writer failed is noted, and is noted of no other
--     RefusesListIn result        a list is refused
--     IsServedIn ..               all that is due of a program that was loaded, by its mode
--     IsServed mode ..            all of these of a mode that begins with no list
--     IsServedUnread mode ..      the same of a mode that leaves the input alone
--     IsServedOn mode ..          the same of lines that were read
--     ReportsMismatch mode ..       what is said of a list accompanies its note, and is true; and each such note has it
--     end_line ended               the line at which the limit stopped a run
--     line_in_mode mode p lines rules     the same of the play on these lines
--     ReportsLine mode ..           where the limit stopped a run, the line is that of the play
use Rattle.std.specs.Prelude.{◌≡◌, ◌⊎◌, ◌+◌, ◌≤◌, ℕ, List, length, Option, None, Result, Ok, Err}
use Rattle.std.specs.Prelude.{IfOk, IfSome, IsErrOf, IsSome, OnOk}
use Rattle.ptb_text.specs.Device.{GivesAtMost, GivesExactly, HasFailed}
use Rattle.ptb_text.specs.Lines.{input_lines}
use Rattle.ptb_text.specs.ProgramTexts.{IsLoaded}
use Rattle.ptb_text.specs.Statements.{StoredProgram}
use Rattle.ptb_command.specs.declared.ending.Ending.{Ending}
use Rattle.ptb_command.specs.declared.ending.Ending.TheVariants as endings
use Rattle.ptb_devices.specs.Sources.{ConsumesAtMost}
use Rattle.ptb_machine.specs.Play.{status, stopping_line}
use Rattle.ptb_machine.specs.declared.run_end.RunEnd.{RunEnd}
use Rattle.ptb_machine.specs.declared.fault.RunFault.{RunFault}
use Rattle.ptb_machine.specs.declared.fault.RunFault.TheVariants as faults
use Rattle.ptb_answers.specs.declared.rules.Rules.{Rules}
use Rattle.ptb_options.specs.declared.request.Mode.{Mode}
use Rattle.ptb_options.specs.declared.request.Mode.TheVariants as modes
use Rattle.ptb_options.specs.declared.request.Request.{Request}
use Rattle.ptb_serve.specs.declared.list_mismatch.ListMismatch.{ListMismatch}
use Rattle.ptb_serve.specs.declared.note.Note.{Note}
use Rattle.ptb_serve.specs.declared.note.Note.TheVariants as notes
use Rattle.ptb_machine.specs.PlainRuns.{IsUnreadable, input_limit}
use Rattle.ptb_machine.specs.SeededRuns.{seeded_answers}
use Rattle.ptb_machine.specs.Streams.{Reads, Writes}
use Rattle.ptb_serve.specs.ListMismatches.{IsMismatchOf, mismatch_note}
use Rattle.ptb_serve.specs.Replies.{reply_in_mode}
use Rattle.ptb_serve.specs.ServedRequests.{IsCheck, IsInput, IsPlainRun, IsUnloaded, NeedsInput}
use Rattle.ptb_serve.specs.ServedRequests.{NeedsWholeInput, ReadsForRun, Serves, ServesUnread, SilentBy}
use Rattle.ptb_serve.specs.ServedRequests.{StopsForMemory, outcome_of}

-- a run that is begun isn't spent
abbrev pub IsRunStatus : Result Ending RunFault → Result ℕ Note → Type 0
IsRunStatus (Ok ending) result = result ≡ Ok (status ending)
IsRunStatus (Err faults.Memory) result = result ≡ Err notes.OutOfMemory
IsRunStatus (Err faults.Read) result = result ≡ Err notes.InputUnread
IsRunStatus (Err faults.Write) result = result ≡ Err notes.Unwritten
IsRunStatus (Err faults.Spent) result = ⊥

-- the input is `known` before and `left` after, and what is written goes from `old` to `new`; b is a text of which p
-- is the program
pub record ServesProgram (mode : Mode) (request : Request) (p : StoredProgram) (known left old new : Option (List ℕ))
    (result : Result ℕ Note) : Type 0 where
  pub served : (b c : List ℕ) → IsLoaded request.memory b p.lines → IsInput mode known c
      → Serves (reply_in_mode mode request b c) old new (outcome_of result)
  pub taken : (b : List ℕ) → IsLoaded request.memory b p.lines
      → IfSome known (λ c. ReadsForRun mode request b c left (outcome_of result))
  pub unread : (b : List ℕ) → IsLoaded request.memory b p.lines → IsErrOf result notes.InputUnread
      → ServesUnread mode request known left b old new
  pub silent : SilentBy mode (outcome_of result).note old new
  pub stopped : (b c : List ℕ) → IsLoaded request.memory b p.lines → IsInput mode known c
      → IsErrOf result notes.OutOfMemory → StopsForMemory mode request b c old new
  pub status : IfOk result (λ n. n ≤ 7)
  pub success : (IsPlainRun mode → ⊥) → (IsCheck mode → ⊥) → OnOk result (result ≡ Ok 0)
  pub checked : IsCheck mode → IfOk result (λ n. n ≤ 1)
  -- no note says that the program was not loaded
  pub loaded : IsUnloaded (outcome_of result).note → ⊥

-- the reader had failed so often and given so many bytes before, and after
pub record ReadsInput (mode : Mode) (known left : Option (List ℕ)) (failed fails gave gives : ℕ)
    (result : Result ℕ Note) : Type 0 where
  pub within : NeedsWholeInput mode → OnOk result (IfSome known (λ c. length c ≤ input_limit))
  pub taken_within : IsPlainRun mode → OnOk result (ConsumesAtMost known left input_limit)
  pub no_beginning_within : IsErrOf result notes.NoBeginning → IfSome known (λ c. length c ≤ input_limit)
  pub no_run_within : IsErrOf result notes.NoRun → IfSome known (λ c. length c ≤ input_limit)
  pub bounded : ConsumesAtMost known left (input_limit + 1)
  pub given : GivesAtMost gave gives (input_limit + 1)
  pub unread : IsErrOf result notes.InputUnread → IsUnreadable known failed fails
  pub failed_or_given : IsErrOf result notes.InputUnread
      → HasFailed failed fails ⊎ GivesExactly gave gives (input_limit + 1)
  pub read : (IsErrOf result notes.InputUnread → ⊥) → fails ≡ failed
  pub unneeded : (NeedsInput mode → ⊥) → IsErrOf result notes.InputUnread → ⊥

pub record ReportsFailures (old new : ℕ) (result : Result ℕ Note) : Type 0 where
  pub unwritten : IsErrOf result notes.Unwritten → HasFailed old new
  pub written : (IsErrOf result notes.Unwritten → ⊥) → new ≡ old

abbrev pub RefusesListIn : Result ℕ Note → Type 0
RefusesListIn result = IsErrOf result notes.NoBeginning ⊎ IsErrOf result notes.NoRun

pub record ReportsMismatch (mode : Mode) (request : Request) (p : StoredProgram) (known : Option (List ℕ))
    (result : Result ℕ Note) (mismatch : Option ListMismatch) : Type 0 where
  pub said : RefusesListIn result → IsSome mismatch
  pub noted : IfSome mismatch (λ m. IsErrOf result (mismatch_note m))
  pub fits : (c : List ℕ) → IsInput mode known c → IfSome mismatch (IsMismatchOf mode p (input_lines c) request.rules)

abbrev pub end_line : Result RunEnd RunFault → Option ℕ
end_line (Ok end) = end.line
end_line (Err fault) = None

abbrev pub line_in_mode : Mode → StoredProgram → List (List ℕ) → Rules → Option ℕ
line_in_mode (modes.Plain a) p lines rules = stopping_line p lines rules a
line_in_mode (modes.Seeded seed) p lines rules = stopping_line p lines rules (seeded_answers seed p lines rules)
line_in_mode (modes.All under after first form) p lines rules = None
line_in_mode (modes.Shares answers form) p lines rules = None
line_in_mode (modes.Sample seed runs form) p lines rules = None
line_in_mode modes.List p lines rules = None
line_in_mode modes.Check p lines rules = None
line_in_mode modes.Chances p lines rules = None

pub record ReportsLine (mode : Mode) (request : Request) (p : StoredProgram) (known : Option (List ℕ))
    (result : Result ℕ Note) (line : Option ℕ) : Type 0 where
  pub at_limit : result ≡ Ok (status endings.Limit) → (c : List ℕ) → IsInput mode known c
      → line ≡ line_in_mode mode p (input_lines c) request.rules
  -- nothing else has a line
  pub elsewhere : ¬ (result ≡ Ok (status endings.Limit)) → line ≡ None

-- all that is due of a mode: the status or the note, why a list fits no run, and the line at which a run stopped
pub record IsServedIn {R : Type 0} (request : Request) (p : StoredProgram) (input : Reads R) (out : Writes)
    (result : Result ℕ Note) (found : Option ListMismatch) (reached : Option ℕ) (mode : Mode) : Type 0 where
  pub serves : ServesProgram mode request p input.bytes input.left out.before out.after result
  pub reads : ReadsInput mode input.bytes input.left input.failed input.fails input.gave input.gives result
  pub failures : ReportsFailures out.failed out.fails result
  pub mismatch : ReportsMismatch mode request p input.bytes result found
  pub line : ReportsLine mode request p input.bytes result reached
  pub input_kept : (NeedsInput mode → ⊥) → input.new ≡ input.old

-- all that is due of a mode that begins with no list
pub record IsServed {R : Type 0} (mode : Mode) (request : Request) (p : StoredProgram) (input : Reads R)
    (output : Writes) (result : Result ℕ Note) : Type 0 where
  pub serves : ServesProgram mode request p input.bytes input.left output.before output.after result
  pub reads : ReadsInput mode input.bytes input.left input.failed input.fails input.gave input.gives result
  pub failures : ReportsFailures output.failed output.fails result
  pub no_list : RefusesListIn result → ⊥

-- the same of the lines of an input that was read
pub record IsServedOn (mode : Mode) (request : Request) (p : StoredProgram) (lines : List (List ℕ)) (output : Writes)
    (result : Result ℕ Note) : Type 0 where
  pub serves : (known left : Option (List ℕ)) → IfSome known (λ c. lines ≡ input_lines c)
      → ServesProgram mode request p known left output.before output.after result
  pub read : IsErrOf result notes.InputUnread → ⊥
  pub failures : ReportsFailures output.failed output.fails result
  pub no_list : RefusesListIn result → ⊥

-- the same of a mode that leaves the input alone, whose request is not looked at
pub record IsServedUnread (mode : Mode) (p : StoredProgram) (output : Writes) (result : Result ℕ Note) : Type 0 where
  pub serves : (request : Request) → p.memory ≡ request.memory → (known : Option (List ℕ))
      → ServesProgram mode request p known known output.before output.after result
  pub read : IsErrOf result notes.InputUnread → ⊥
  pub failures : ReportsFailures output.failed output.fails result
  pub no_list : RefusesListIn result → ⊥
