-- This file defines how a request is served: its reply is given, or it is broken off and the outcome notes why.
-- Main definition: `Serves`.
--     outcome_of result                 the outcome of a status or a note
--     load_note e                       the note of a program that is not loaded
--     device_note e                     the note of a device that fails
--     reports_note e                    the note of reports that are not all written
--     Serves reply old new outcome      the reply is given, or it is broken off
--     IsUnloaded note                   the program was not read, or its text is refused
--     ReportsRefusal memory known note    a text is noted as refused as it is refused, where it is known
--     ReportsLength old new note          a text is noted as too long where one byte too many was given
--     SilentBy mode note old new        nothing was written, unless what was due was broken off
--     WritesFewer report due old new    the reports of the first of these runs were written, and fewer than all
--     StopsForMemory mode ..            what was written of a listing, of a sample, or of a run by a seed, where memory
--                                       was refused
--     LacksInputLine reply old new      the reply to a run that ends for lack of a line was written
--     RunUnread request known left b answers old new    what was written of a run that couldn't read a line
--     ServesUnread mode ..              what was written where the input could not be read
--     note_wanted_by choose all k note status    how many of all lines a run wanted that takes k
--     ReadsForRun mode ..               what a run takes of its input
--     IsPlainRun mode                   the program is run once
--     IsCheck mode                      its mistakes are listed
--     mode_of listing                   the mode that asks for a listing
--     NeedsInput mode                   the input may be read
--     NeedsWholeInput mode              the input is read to its end
--     IsInput mode known c              c is the input, where the mode needs it
use Rattle.std.specs.Prelude.{◌≡◌, ◌==◌, ◌⊎◌, ◌<◌, ℕ, ℤ, ◌+◌, if◌then◌else◌, IfOk, IfSome, List, []}
use Rattle.std.specs.Prelude.{length, take, Option, Some, None, Result, Ok, Err}
use Rattle.std.specs.Io.KnownBytes.{Appends, Consumes}
use Rattle.ptb_text.specs.declared.fault.LoadFault.{LoadFault}
use Rattle.ptb_text.specs.declared.fault.LoadFault.TheVariants as loads
use Rattle.ptb_text.specs.Device.{GivesExactly, TakesSome}
use Rattle.ptb_text.specs.Lines.{input_lines}
use Rattle.ptb_text.specs.Statements.{StoredProgram, program_limit}
use Rattle.ptb_text.specs.declared.device_fault.DeviceFault.{DeviceFault}
use Rattle.ptb_text.specs.declared.device_fault.DeviceFault.TheVariants as devices
use Rattle.ptb_command.specs.declared.ending.Ending.TheVariants as endings
use Rattle.ptb_answers.specs.Outcome.{Answers}
use Rattle.ptb_answers.specs.declared.rules.Rules.{Rules}
use Rattle.ptb_answers.specs.declared.form.Form.{Form}
use Rattle.ptb_answers.specs.declared.form.Marked.{Marked}
use Rattle.ptb_machine.specs.Play.{plain, play, status}
use Rattle.ptb_machine.specs.Questions.{most_answers}
use Rattle.ptb_explore.specs.Beginnings.{beginning_line, beginnings}
use Rattle.ptb_explore.specs.Listing.{text}
use Rattle.ptb_explore.specs.Report.{report}
use Rattle.ptb_explore.specs.declared.fault.ExploreFault.{ExploreFault}
use Rattle.ptb_explore.specs.declared.fault.ExploreFault.TheVariants as explores
use Rattle.ptb_serve.specs.declared.all_runs.Listing.{Listing}
use Rattle.ptb_serve.specs.declared.note.Note.{Note}
use Rattle.ptb_serve.specs.declared.note.Note.TheVariants as notes
use Rattle.ptb_options.specs.declared.request.Mode.{Mode}
use Rattle.ptb_options.specs.declared.request.Mode.TheVariants as modes
use Rattle.ptb_serve.specs.declared.service.Outcome.{Outcome}
use Rattle.ptb_serve.specs.Statuses.{note_status}
use Rattle.ptb_options.specs.declared.request.Request.{Request}
use Rattle.ptb_machine.specs.PlainRuns.{ReadsFor, ShowsQuestion, lines_come, lines_taken, without_choose}
use Rattle.ptb_serve.specs.Replies.{Reply, lines_reply, program_of_text}
use Rattle.ptb_serve.specs.Replies.{program_reply, runs_drawn, runs_due}
use Rattle.ptb_machine.specs.SeededRuns.{seeded_answers}

-- ---- modes

-- the mode that asks for a listing
abbrev pub mode_of : Listing → Mode
mode_of listing = modes.All listing.under.now listing.after.now listing.first listing.form

-- ---- outcomes

-- a note has its own status
abbrev pub outcome_of : Result ℕ Note → Outcome
outcome_of (Ok status) = record { status = status; note = None; mismatch = None; line = None }
outcome_of (Err note) = record { status = note_status note; note = Some note; mismatch = None; line = None }

-- a line that is refused is no lack of memory, and no fault of the reader
abbrev pub load_fault_note : ℕ → LoadFault → Note
load_fault_note line loads.Memory = notes.OutOfMemory
load_fault_note line loads.Read = notes.ProgramUnread
load_fault_note line fault = notes.Load line fault

abbrev pub load_note : ℕ × LoadFault → Note
load_note e = load_fault_note e.0 e.1

abbrev pub device_note : DeviceFault → Note
device_note devices.Read = notes.InputUnread
device_note devices.TooLong = notes.InputUnread
device_note devices.Write = notes.Unwritten
device_note devices.Memory = notes.OutOfMemory

abbrev pub reports_note : ExploreFault → Note
reports_note (explores.Memory n) = notes.OutOfMemory
reports_note (explores.Write n) = notes.Unwritten

-- ---- how a request is served

-- the writer got all bytes of the reply, where they are known, and the status and the note are the reply's
pub record IsReply (reply : Reply) (old new : Option (List ℕ)) (written_status : ℕ)
    (written_note : Option Note) : Type 0 where
  pub bytes : Appends old new reply.bytes
  pub status : written_status ≡ reply.status
  pub note : written_note ≡ reply.note

abbrev pub Replies : Reply → Option (List ℕ) → Option (List ℕ) → Outcome → Type 0
Replies reply old new outcome = IsReply reply old new outcome.status outcome.note

-- where a device failed or memory was refused, a prefix of the bytes
abbrev pub ServesBy : Option Note → ℕ → Reply → Option (List ℕ) → Option (List ℕ) → Type 0
ServesBy (Some notes.ProgramUnread) status reply old new = TakesSome old new reply.bytes
ServesBy (Some notes.InputUnread) status reply old new = TakesSome old new reply.bytes
ServesBy (Some notes.OutOfMemory) status reply old new = TakesSome old new reply.bytes
ServesBy (Some notes.Unwritten) status reply old new = TakesSome old new reply.bytes
ServesBy None status reply old new = IsReply reply old new status None
ServesBy (Some note) status reply old new = IsReply reply old new status (Some note)

abbrev pub Serves : Reply → Option (List ℕ) → Option (List ℕ) → Outcome → Type 0
Serves reply old new outcome = ServesBy outcome.note outcome.status reply old new

-- memory is asked for before anything is written, and where runs are listed or sampled between their reports, and for
-- the answers of a seed, too
abbrev pub SilentWithoutMemory : Mode → Option (List ℕ) → Option (List ℕ) → Type 0
SilentWithoutMemory (modes.Plain a) old new = Appends old new []
SilentWithoutMemory (modes.Seeded seed) old new = Unit {0}
SilentWithoutMemory (modes.All under after first form) old new = Unit {0}
SilentWithoutMemory (modes.Shares answers form) old new = Unit {0}
SilentWithoutMemory (modes.Sample seed runs form) old new = Unit {0}
SilentWithoutMemory modes.List old new = Appends old new []
SilentWithoutMemory modes.Check old new = Appends old new []
SilentWithoutMemory modes.Chances old new = Appends old new []

-- nothing was written, unless a note says that a write failed, that no memory was left for the next report,
-- or that a line that a run asked for could not be read
abbrev pub SilentBy : Mode → Option Note → Option (List ℕ) → Option (List ℕ) → Type 0
SilentBy mode None old new = Unit {0}
SilentBy mode (Some notes.Unwritten) old new = Unit {0}
SilentBy mode (Some notes.OutOfMemory) old new = SilentWithoutMemory mode old new
SilentBy (modes.Plain a) (Some notes.InputUnread) old new = Unit {0}
SilentBy (modes.Seeded seed) (Some notes.InputUnread) old new = Unit {0}
SilentBy mode (Some note) old new = Appends old new []

-- the reports of the first few of the runs that are due were written, but not of all
pub record WritesFewer (report : Answers → List ℕ) (due : List Answers) (old new : Option (List ℕ)) : Type 0 where
  pub count : ℕ
  pub fewer : count < length due
  pub bytes : Appends old new (text report (take count due))

abbrev pub ListsFewerOf : StoredProgram → List (List ℕ) → Rules → Option (List Marked) → Option (List Marked) → Option ℕ
    → Form → Option (List ℕ) → Option (List ℕ) → Type 0
ListsFewerOf p input rules under after first form old new =
    WritesFewer (report form (play p input rules))
    (runs_due (play p input rules) (most_answers p input rules.limit) under after first) old new

-- the first few of the lines that split the runs
abbrev pub SplitsFewerOf : StoredProgram → List (List ℕ) → Rules → ℕ → Form → Option (List ℕ) → Option (List ℕ) → Type 0
SplitsFewerOf p input rules n form old new =
    WritesFewer (beginning_line form (play p input rules)) (beginnings n (play p input rules)) old new

abbrev pub SamplesFewerOf : StoredProgram → List (List ℕ) → Rules → ℕ → ℕ → Form → Option (List ℕ) → Option (List ℕ)
    → Type 0
SamplesFewerOf p input rules seed runs form old new =
    WritesFewer (report form (play p input rules))
    (runs_drawn (play p input rules) (most_answers p input rules.limit) seed runs) old new

-- with the first of the answers that a seed gives, the run asks for one more, and what it shows until then was written
abbrev pub AsksForMore : StoredProgram → List (List ℕ) → Rules → ℕ → Option (List ℕ) → Option (List ℕ) → Type 0
AsksForMore p input rules seed old new = ShowsQuestion (plain p input rules) (seeded_answers seed p input rules) old new

-- memory was refused before anything was written, or before a report that was still to be written, or for the answer
-- to a question
abbrev pub StopsForMemory : Mode → Request → List ℕ → List ℕ → Option (List ℕ) → Option (List ℕ) → Type 0
StopsForMemory (modes.Plain a) request b c old new = Unit {0}
StopsForMemory (modes.Seeded seed) request b c old new = IfOk (program_of_text request.memory b) (λ p. Appends old new
    [] ⊎ AsksForMore (record { lines = p; memory = request.memory }) (input_lines c) request.rules seed old new)
StopsForMemory (modes.All under after first form) request b c old new =
    IfOk (program_of_text request.memory b) (λ p. Appends old new [] ⊎ ListsFewerOf
    (record { lines = p; memory = request.memory }) (input_lines c) request.rules under after first form old new)
StopsForMemory (modes.Shares answers form) request b c old new =
    IfOk (program_of_text request.memory b) (λ p. Appends old new [] ⊎ SplitsFewerOf
    (record { lines = p; memory = request.memory }) (input_lines c) request.rules answers form old new)
StopsForMemory (modes.Sample seed runs form) request b c old new =
    IfOk (program_of_text request.memory b) (λ p. Appends old new [] ⊎ SamplesFewerOf
    (record { lines = p; memory = request.memory }) (input_lines c) request.rules seed runs form old new)
StopsForMemory modes.List request b c old new = Unit {0}
StopsForMemory modes.Check request b c old new = Unit {0}
StopsForMemory modes.Chances request b c old new = Unit {0}

-- its bytes were written, and its status is that of a run which ends for lack of a line
pub record LacksInputLine (reply : Reply) (old new : Option (List ℕ)) : Type 0 where
  pub bytes : Appends old new reply.bytes
  pub status : reply.status ≡ status endings.NoInput

-- the reply to a run of the text b with these answers, on the lines that came complete in the bytes that were taken of
-- the input: no answer is asked for instead of a line that may come
abbrev pub RunUnread : Request → Option (List ℕ) → Option (List ℕ) → List ℕ
    → (StoredProgram → List (List ℕ) → Answers) → Option (List ℕ) → Option (List ℕ) → Type 0
RunUnread request known left b answers old new =
    (taken : List ℕ) × Consumes known left taken
    × LacksInputLine (program_reply request.memory b (λ p. lines_reply (without_choose request.rules)
    (answers p (lines_come taken)) (lines_come taken) p)) old new

-- a listing, a sample or a table begins once the input was read
abbrev pub ServesUnread : Mode → Request → Option (List ℕ) → Option (List ℕ) → List ℕ → Option (List ℕ)
    → Option (List ℕ) → Type 0
ServesUnread (modes.Plain a) request known left b old new =
    RunUnread request known left b (λ p lines. a) old new
ServesUnread (modes.Seeded seed) request known left b old new =
    RunUnread request known left b (λ p lines. seeded_answers seed p lines request.rules) old new
ServesUnread (modes.All under after first form) request known left b old new = Appends old new []
ServesUnread (modes.Shares answers form) request known left b old new = Appends old new []
ServesUnread (modes.Sample seed runs form) request known left b old new = Appends old new []
ServesUnread modes.List request known left b old new = Appends old new []
ServesUnread modes.Check request known left b old new = Appends old new []
ServesUnread modes.Chances request known left b old new = Appends old new []

-- the status of such a request alone is that of an ending
abbrev pub IsPlainRun : Mode → Type 0
IsPlainRun (modes.Plain a) = Unit {0}
IsPlainRun (modes.Seeded seed) = Unit {0}
IsPlainRun (modes.All under after first form) = ⊥
IsPlainRun (modes.Shares answers form) = ⊥
IsPlainRun (modes.Sample seed runs form) = ⊥
IsPlainRun modes.List = ⊥
IsPlainRun modes.Check = ⊥
IsPlainRun modes.Chances = ⊥

-- its status shows whether there is a mistake
abbrev pub IsCheck : Mode → Type 0
IsCheck (modes.Plain a) = ⊥
IsCheck (modes.Seeded seed) = ⊥
IsCheck (modes.All under after first form) = ⊥
IsCheck (modes.Shares answers form) = ⊥
IsCheck (modes.Sample seed runs form) = ⊥
IsCheck modes.List = ⊥
IsCheck modes.Check = Unit {0}
IsCheck modes.Chances = ⊥

-- ---- a program that isn't loaded

abbrev pub IsUnloaded : Option Note → Type 0
IsUnloaded (Some (notes.Load line fault)) = Unit {0}
IsUnloaded (Some notes.ProgramUnread) = Unit {0}
IsUnloaded (Some notes.InputUnread) = ⊥
IsUnloaded (Some notes.NoBeginning) = ⊥
IsUnloaded (Some notes.NoRun) = ⊥
IsUnloaded (Some notes.OutOfMemory) = ⊥
IsUnloaded (Some notes.Unwritten) = ⊥
IsUnloaded None = ⊥

-- the line and the fault that are noted are those of the first refusal
abbrev pub ReportsRefusal : ℕ → Option (List ℕ) → Option Note → Type 0
ReportsRefusal memory known (Some (notes.Load line fault)) =
    IfSome known (λ b. program_of_text memory b ≡ Err (line, fault))
ReportsRefusal memory known (Some note) = Unit {0}
ReportsRefusal memory known None = Unit {0}

-- by how many bytes the program's reader had given before and after
abbrev pub ReportsLength : ℕ → ℕ → Option Note → Type 0
ReportsLength old new (Some (notes.Load line loads.TooLong)) = GivesExactly old new (program_limit + 1)
ReportsLength old new (Some note) = Unit {0}
ReportsLength old new None = Unit {0}

-- ---- the input

-- one more where the run ended for lack of a line, or the next could not be read
abbrev pub note_wanted : ℕ → Option Note → ℕ → ℕ
note_wanted k None number = if number == status endings.NoInput then k + 1 else k
note_wanted k (Some notes.InputUnread) number = k + 1
note_wanted k (Some note) number = k

-- with answers instead of lines, a run that takes all lines may want one more
abbrev pub note_wanted_by : Option ℤ → ℕ → ℕ → Option Note → ℕ → ℕ
note_wanted_by None all k note number = note_wanted k note number
note_wanted_by (Some n) all k note number = if k == all then k + 1 else note_wanted k note number

-- how many of the lines of its input a run by a seed takes
abbrev pub seeded_taken : ℕ → StoredProgram → List (List ℕ) → Rules → ℕ
seeded_taken seed p lines rules = lines_taken p lines rules (seeded_answers seed p lines rules)

-- the input c is read only for the lines that a run wants, of which it takes so many
abbrev pub ReadsByNote : Request → (StoredProgram → List (List ℕ) → ℕ) → List ℕ → List ℕ → Option (List ℕ) → Option Note
    → ℕ → Type 0
ReadsByNote request count b c left note number =
    IfOk (program_of_text request.memory b) (λ p. (taken : List ℕ) × Consumes (Some c) left taken
    × ReadsFor taken (note_wanted_by request.rules.choose (length (input_lines c))
    (count (record { lines = p; memory = request.memory }) (input_lines c)) note number))

abbrev pub ReadsInMode : Mode → Request → List ℕ → List ℕ → Option (List ℕ) → Option Note → ℕ → Type 0
ReadsInMode (modes.Plain a) request b c left note number =
    ReadsByNote request (λ p lines. lines_taken p lines request.rules a) b c left note number
ReadsInMode (modes.Seeded seed) request b c left note number =
    ReadsByNote request (λ p lines. seeded_taken seed p lines request.rules) b c left note number
ReadsInMode (modes.All under after first form) request b c left _ _ = Unit {0}
ReadsInMode (modes.Shares answers form) request b c left _ _ = Unit {0}
ReadsInMode (modes.Sample seed runs form) request b c left _ _ = Unit {0}
ReadsInMode modes.List request b c left _ _ = Unit {0}
ReadsInMode modes.Check request b c left _ _ = Unit {0}
ReadsInMode modes.Chances request b c left _ _ = Unit {0}

abbrev pub ReadsForRun : Mode → Request → List ℕ → List ℕ → Option (List ℕ) → Outcome → Type 0
ReadsForRun mode request b c left outcome = ReadsInMode mode request b c left outcome.note outcome.status

-- a listing of the program's lines or of its mistakes doesn't read it
abbrev pub NeedsInput : Mode → Type 0
NeedsInput (modes.Plain a) = Unit {0}
NeedsInput (modes.Seeded seed) = Unit {0}
NeedsInput (modes.All under after first form) = Unit {0}
NeedsInput (modes.Shares answers form) = Unit {0}
NeedsInput (modes.Sample seed runs form) = Unit {0}
NeedsInput modes.List = ⊥
NeedsInput modes.Check = ⊥
NeedsInput modes.Chances = Unit {0}

-- a run reads it only as far as it asks for lines
abbrev pub NeedsWholeInput : Mode → Type 0
NeedsWholeInput (modes.Plain a) = ⊥
NeedsWholeInput (modes.Seeded seed) = ⊥
NeedsWholeInput (modes.All under after first form) = Unit {0}
NeedsWholeInput (modes.Shares answers form) = Unit {0}
NeedsWholeInput (modes.Sample seed runs form) = Unit {0}
NeedsWholeInput modes.List = ⊥
NeedsWholeInput modes.Check = ⊥
NeedsWholeInput modes.Chances = Unit {0}

-- the input, where it is needed and known; any bytes where it isn't looked at
abbrev pub IsInput : Mode → Option (List ℕ) → List ℕ → Type 0
IsInput (modes.Plain a) known c = known ≡ Some c
IsInput (modes.Seeded seed) known c = known ≡ Some c
IsInput (modes.All under after first form) known c = known ≡ Some c
IsInput (modes.Shares answers form) known c = known ≡ Some c
IsInput (modes.Sample seed runs form) known c = known ≡ Some c
IsInput modes.List known c = Unit {0}
IsInput modes.Check known c = Unit {0}
IsInput modes.Chances known c = known ≡ Some c
