-- This file proves how a request is served, from how its program was loaded and what was written.
-- Main lemmas: `serves_loaded` and `serves_unloaded`.
use Rattle.std.proofs.Common.{◌≡◌, ◌⊎◌, inl, ℕ, ◌+◌, ◌==◌, if◌then◌else◌, ◌<◌, ◌≤◌, true, false}
use Rattle.std.proofs.Common.{nat_lt, List, [], length, Option, Some, None, Result, Ok, Err, IfOk}
use Rattle.std.proofs.Common.{IfSome, IfErr, MatchOption, OnOk, refl, ap, ◌∙◌, sym, arith, IsErrOf}
use Rattle.std.proofs.Common.{ℤ, subst}
use Rattle.std.specs.Io.KnownBytes.{Appends, Consumes}
use Rattle.std.proofs.KnownBytes.{Appends-nil, Consumes-nil}
use Rattle.ptb_text.specs.declared.fault.LoadFault.{LoadFault}
use Rattle.ptb_text.specs.declared.fault.LoadFault.TheVariants as loads
use Rattle.ptb_text.specs.Device.{GivesExactly, TakesSome}
use Rattle.ptb_text.specs.EnteredLines.{IsLineFault}
use Rattle.ptb_text.specs.ProgramTexts.{IsLoaded, IsRefusedAt}
use Rattle.ptb_text.specs.Statements.{Statements, StoredProgram, program_limit}
use Rattle.ptb_text.specs.Lines.{input_lines}
use Rattle.ptb_command.specs.declared.ending.Ending.{Ending}
use Rattle.ptb_command.specs.declared.ending.Ending.TheVariants as endings
use Rattle.ptb_machine.specs.declared.fault.RunFault.{RunFault}
use Rattle.ptb_answers.specs.declared.form.Form.{Form}
use Rattle.ptb_answers.specs.declared.form.Marked.{Marked}
use Rattle.ptb_machine.specs.Play.{status}
use Rattle.ptb_devices.specs.Sources.{ConsumesAtMost}
use Rattle.ptb_options.specs.declared.request.Mode.{Mode}
use Rattle.ptb_options.specs.declared.request.Mode.TheVariants as modes
use Rattle.ptb_options.specs.declared.request.Request.{Request}
use Rattle.ptb_machine.proofs.PublicLemmas.{every_ending}
use Rattle.ptb_serve.specs.declared.note.Note.{Note}
use Rattle.ptb_serve.specs.declared.note.Note.TheVariants as notes
use Rattle.ptb_serve.specs.declared.service.Outcome.{Outcome}
use Rattle.ptb_serve.specs.Statuses.{note_status}
use Rattle.ptb_machine.specs.PlainRuns.{ShowsRun, lines_come, ending_wanted, lines_taken}
use Rattle.ptb_machine.specs.PlainRuns.{lines_wanted, ReadsFor}
use Rattle.ptb_machine.specs.Streams.{Reads, Writes, reads_of}
use Rattle.ptb_serve.specs.Replies.{Reply, refusal, run_reply, program_of_text, reply_or_refusal, program_reply}
use Rattle.ptb_serve.specs.ServedRequests.{outcome_of, LacksInputLine, IsCheck, IsPlainRun, ReadsByNote}
use Rattle.ptb_serve.specs.ServedRequests.{note_wanted, note_wanted_by, load_note, AsksForMore, IsUnloaded}
use Rattle.ptb_serve.specs.ServedRequests.{ListsFewerOf, ReadsForRun, Replies, SamplesFewerOf, Serves}
use Rattle.ptb_serve.specs.ServedRequests.{SilentBy, SilentWithoutMemory, SplitsFewerOf, StopsForMemory}
use Rattle.ptb_serve.specs.ServedRequests.{ReportsLength, ReportsRefusal, load_fault_note, seeded_taken}

-- ---- the program of a text

pub program_of_text-ok : (memory : ℕ) (b : List ℕ) (p : Statements) → IsLoaded memory b p
    → program_of_text memory b ≡ Ok p
unfolding program_of_text
program_of_text-ok memory b p h =
    let short : nat_lt program_limit (length b) ≡ false = grind arith in
    rw (short, program_of_text) h.1

pub program_of_text-refused : (memory : ℕ) (b : List ℕ) (e : ℕ × LoadFault) → IsRefusedAt memory b e
    → program_of_text memory b ≡ Err e
unfolding program_of_text
program_of_text-refused memory b e h =
    let short : nat_lt program_limit (length b) ≡ false = grind arith in
    rw (short, program_of_text) h.1

pub program_of_text-too_long : (memory : ℕ) (b : List ℕ) → program_limit < length b
    → program_of_text memory b ≡ Err (0, loads.TooLong)
unfolding program_of_text
program_of_text-too_long memory b h =
    let long : nat_lt program_limit (length b) ≡ true = grind arith in
    rw (long, program_of_text) refl

-- ---- what is known of bytes

-- what is said where the input is known, of this input
pub at_known : {known : Option (List ℕ)} (P : List ℕ → Type 0) (c : List ℕ) → known ≡ Some c → IfSome known P → P c
at_known P c e h = subst (λ k. IfSome k P) e h

pub each_known : (P Q : List ℕ → Type 0) (known : Option (List ℕ)) → ((b : List ℕ) → P b → Q b) → IfSome known P
    → IfSome known Q
each_known P Q None f h = tt
each_known P Q (Some b) f h = f b h

pub nothing_told : (known : Option (List ℕ)) → IfSome known (λ _. Unit {0})
nothing_told None = tt
nothing_told (Some b) = tt

-- ---- what a device gave

-- a reader and a writer that are left alone
abbrev pub unread : {R : Type 0} → R → Option (List ℕ) → ℕ → ℕ → Reads R
unread r known given failures = reads_of (λ _. known) (λ _. given) (λ _. failures) r r

abbrev pub unwritten : Option (List ℕ) → ℕ → Writes
unwritten held failures = record { before = held; after = held; failed = failures; fails = failures }

-- nothing is taken from a device that isn't read
pub consumes_nothing : (held : Option (List ℕ)) (n : ℕ) → ConsumesAtMost held held n
consumes_nothing held n = ([], omega arith, Consumes-nil held)

-- ---- memory is refused before anything is written

nothing_of_program : (held : Option (List ℕ)) (t : Result Statements (ℕ × LoadFault)) (P : Statements → Type 0)
    → IfOk t (λ p. Appends held held [] ⊎ P p)
nothing_of_program held (Ok p) P = inl (Appends-nil held)
nothing_of_program held (Err e) P = tt

stops_at_once : (mode : Mode) (request : Request) (b c : List ℕ) (held : Option (List ℕ))
    → StopsForMemory mode request b c held held
stops_at_once (modes.Plain a) request b c held = tt
stops_at_once (modes.Seeded seed) request b c held = nothing_of_program held (program_of_text request.memory b) _
stops_at_once (modes.All under after first form) request b c held =
    nothing_of_program held (program_of_text request.memory b) _
stops_at_once (modes.Shares answers form) request b c held =
    nothing_of_program held (program_of_text request.memory b) _
stops_at_once (modes.Sample seed runs form) request b c held =
    nothing_of_program held (program_of_text request.memory b) _
stops_at_once modes.List request b c held = tt
stops_at_once modes.Check request b c held = tt
stops_at_once modes.Chances request b c held = tt

pub stops_unloaded : (mode : Mode) (request : Request) (known : Option (List ℕ)) (c : List ℕ) (held : Option (List ℕ))
    → IfSome known (λ b. StopsForMemory mode request b c held held)
stops_unloaded mode request None c held = tt
stops_unloaded mode request (Some b) c held = stops_at_once mode request b c held

-- ---- a program that is refused

pub takes_nothing : (held : Option (List ℕ)) (bytes : List ℕ) → TakesSome held held bytes
takes_nothing held bytes = (0, omega arith, Appends-nil held)

pub replies_refusal : (held : Option (List ℕ)) (note : Note) → Replies (refusal note) held held (outcome_of (Err note))
replies_refusal held note = record { bytes = Appends-nil held; status = refl; note = refl }

-- what a fault of a line says of known bytes, and what a text that is too long does
module _ (memory : ℕ) (next : StoredProgram → Reply) (held : Option (List ℕ)) (line : ℕ) where
  refused_line : (b : List ℕ) (fault : LoadFault) → IsRefusedAt memory b (line, fault)
      → Replies (program_reply memory b next) held held (outcome_of (Err (notes.Load line fault)))
  refused_line b fault h =
      rw (program_of_text-refused memory b (line, fault) h) (replies_refusal held (notes.Load line fault))

  refused_text : (b : List ℕ) → line ≡ 0 → program_limit < length b
      → Replies (program_reply memory b next) held held (outcome_of (Err (notes.Load line loads.TooLong)))
  refused_text b e h = rw (program_of_text-too_long memory b h, e) (replies_refusal held (notes.Load 0 loads.TooLong))

  unloaded_fault : (b : List ℕ) (fault : LoadFault) → (IsLineFault fault → IsRefusedAt memory b (line, fault))
      → (fault ≡ loads.TooLong → (line ≡ 0) × (program_limit < length b))
      → Serves (program_reply memory b next) held held (outcome_of (Err (load_note (line, fault))))
  unloaded_fault b loads.NoNumber h l = refused_line b _ (h tt)
  unloaded_fault b loads.NumberTooBig h l = refused_line b _ (h tt)
  unloaded_fault b loads.TextTooLong h l = refused_line b _ (h tt)
  unloaded_fault b (loads.BadByte place) h l = refused_line b _ (h tt)
  unloaded_fault b loads.Full h l = refused_line b _ (h tt)
  unloaded_fault b loads.Memory h l = takes_nothing held _
  unloaded_fault b loads.Read h l = takes_nothing held _
  unloaded_fault b loads.TooLong h l = refused_text b (l refl).0 (l refl).1

-- the program isn't loaded, and nothing is written
pub serves_unloaded : (memory : ℕ) (known : Option (List ℕ)) (next : StoredProgram → Reply) (held : Option (List ℕ))
    (e : ℕ × LoadFault)
    → (IsLineFault e.1 → IfSome known (λ b. IsRefusedAt memory b e))
    → (e.1 ≡ loads.TooLong → (e.0 ≡ 0) × IfSome known (λ b. program_limit < length b))
    → IfSome known (λ b. Serves (program_reply memory b next) held held (outcome_of (Err (load_note e))))
serves_unloaded memory None next held e h l = tt
serves_unloaded memory (Some b) next held e h l = unloaded_fault memory next held e.0 b e.1 h l

-- a text that is refused is refused so, whatever would be done with its program
pub serves_refusal : (memory : ℕ) (known : Option (List ℕ)) (next : StoredProgram → Reply) (old new : Option (List ℕ))
    (result : Result ℕ Note)
    → IfSome known (λ b. Serves (program_reply memory b next) old new (outcome_of result))
    → IfSome known
    (λ b. IfErr (program_of_text memory b) (λ e. Serves (refusal (notes.Load e.0 e.1)) old new (outcome_of result)))
serves_refusal memory None next old new result h = tt
serves_refusal memory (Some b) next old new result h = by_text (program_of_text memory b) h where
  by_text : (r : Result Statements (ℕ × LoadFault))
      → Serves (reply_or_refusal next memory r) old new (outcome_of result)
      → IfErr r (λ e. Serves (refusal (notes.Load e.0 e.1)) old new (outcome_of result))
  by_text (Ok p) h = tt
  by_text (Err e) h = h

-- what holds anyway holds where a text is refused
pub when_refused : (memory : ℕ) (known : Option (List ℕ)) (Q : Type 0) → Q
    → IfSome known (λ b. IfErr (program_of_text memory b) (λ _. Q))
when_refused memory None Q q = tt
when_refused memory (Some b) Q q = by_text (program_of_text memory b) where
  by_text : (r : Result Statements (ℕ × LoadFault)) → IfErr r (λ _. Q)
  by_text (Ok p) = tt
  by_text (Err e) = q

-- ---- what a note says of a program that isn't loaded

-- that it isn't loaded, or that memory was refused, and nothing else
pub load_note-other : (e : ℕ × LoadFault) (note : Note) → (IsUnloaded (Some note) → ⊥) → (note ≡ notes.OutOfMemory → ⊥)
    → Some (load_note e) ≡ Some note → ⊥
load_note-other e note told memory h = by_fault e.1 h where
  by_fault : (fault : LoadFault) → Some (load_note (e.0, fault)) ≡ Some note → ⊥
  by_fault loads.NoNumber h = told (subst IsUnloaded h tt)
  by_fault loads.NumberTooBig h = told (subst IsUnloaded h tt)
  by_fault loads.TextTooLong h = told (subst IsUnloaded h tt)
  by_fault (loads.BadByte place) h = told (subst IsUnloaded h tt)
  by_fault loads.Full h = told (subst IsUnloaded h tt)
  by_fault loads.Memory h = memory cc
  by_fault loads.Read h = told (subst IsUnloaded h tt)
  by_fault loads.TooLong h = told (subst IsUnloaded h tt)

-- that it can't be read where its reader failed, and then alone
pub load_note-read : (e : ℕ × LoadFault) → e.1 ≡ loads.Read → Some (load_note e) ≡ Some notes.ProgramUnread
load_note-read e h = ap (λ fault. Some (load_fault_note e.0 fault)) h

pub load_note-unread : (e : ℕ × LoadFault) → Some (load_note e) ≡ Some notes.ProgramUnread → e.1 ≡ loads.Read
load_note-unread e h = by_fault e.1 h where
  by_fault : (fault : LoadFault) → Some (load_note (e.0, fault)) ≡ Some notes.ProgramUnread → fault ≡ loads.Read
  by_fault loads.NoNumber h = absurd cc
  by_fault loads.NumberTooBig h = absurd cc
  by_fault loads.TextTooLong h = absurd cc
  by_fault (loads.BadByte place) h = absurd cc
  by_fault loads.Full h = absurd cc
  by_fault loads.Memory h = absurd cc
  by_fault loads.Read h = refl
  by_fault loads.TooLong h = absurd cc

-- nothing was written then
pub load_note-silent : (mode : Mode) (held : Option (List ℕ)) (e : ℕ × LoadFault)
    → SilentBy mode (Some (load_note e)) held held
load_note-silent mode held e = by_fault e.1 where
  without_memory : (mode : Mode) → SilentWithoutMemory mode held held
  without_memory (modes.Plain a) = Appends-nil held
  without_memory (modes.Seeded seed) = tt
  without_memory (modes.All under after first form) = tt
  without_memory (modes.Shares answers form) = tt
  without_memory (modes.Sample seed runs form) = tt
  without_memory modes.List = Appends-nil held
  without_memory modes.Check = Appends-nil held
  without_memory modes.Chances = Appends-nil held

  by_fault : (fault : LoadFault) → SilentBy mode (Some (load_note (e.0, fault))) held held
  by_fault loads.NoNumber = Appends-nil held
  by_fault loads.NumberTooBig = Appends-nil held
  by_fault loads.TextTooLong = Appends-nil held
  by_fault (loads.BadByte place) = Appends-nil held
  by_fault loads.Full = Appends-nil held
  by_fault loads.Memory = without_memory mode
  by_fault loads.Read = Appends-nil held
  by_fault loads.TooLong = Appends-nil held

pub load_note-refusal : (memory : ℕ) (known : Option (List ℕ)) (e : ℕ × LoadFault)
    → (IsLineFault e.1 → IfSome known (λ b. IsRefusedAt memory b e))
    → (e.1 ≡ loads.TooLong → (e.0 ≡ 0) × IfSome known (λ b. program_limit < length b))
    → ReportsRefusal memory known (Some (load_note e))
load_note-refusal memory known e refused too_long = by_fault e.1 refused too_long where
  of_line : (fault : LoadFault) (known : Option (List ℕ)) → IfSome known (λ b. IsRefusedAt memory b (e.0, fault))
      → IfSome known (λ b. program_of_text memory b ≡ Err (e.0, fault))
  of_line fault None h = tt
  of_line fault (Some b) h = program_of_text-refused memory b (e.0, fault) h

  of_text : (known : Option (List ℕ)) → e.0 ≡ 0 → IfSome known (λ b. program_limit < length b)
      → IfSome known (λ b. program_of_text memory b ≡ Err (e.0, loads.TooLong))
  of_text None first h = tt
  of_text (Some b) first h = rw first (program_of_text-too_long memory b h)

  by_fault : (fault : LoadFault) → (IsLineFault fault → IfSome known (λ b. IsRefusedAt memory b (e.0, fault)))
      → (fault ≡ loads.TooLong → (e.0 ≡ 0) × IfSome known (λ b. program_limit < length b))
      → ReportsRefusal memory known (Some (load_note (e.0, fault)))
  by_fault loads.NoNumber h l = of_line loads.NoNumber known (h tt)
  by_fault loads.NumberTooBig h l = of_line loads.NumberTooBig known (h tt)
  by_fault loads.TextTooLong h l = of_line loads.TextTooLong known (h tt)
  by_fault (loads.BadByte place) h l = of_line (loads.BadByte place) known (h tt)
  by_fault loads.Full h l = of_line loads.Full known (h tt)
  by_fault loads.Memory h l = tt
  by_fault loads.Read h l = tt
  by_fault loads.TooLong h l = of_text known (l refl).0 (l refl).1

pub load_note-length : (old new : ℕ) (e : ℕ × LoadFault)
    → (e.1 ≡ loads.TooLong → GivesExactly old new (program_limit + 1))
    → ReportsLength old new (Some (load_note e))
load_note-length old new e exactly = by_fault e.1 exactly where
  by_fault : (fault : LoadFault) → (fault ≡ loads.TooLong → GivesExactly old new (program_limit + 1))
      → ReportsLength old new (Some (load_note (e.0, fault)))
  by_fault loads.NoNumber h = tt
  by_fault loads.NumberTooBig h = tt
  by_fault loads.TextTooLong h = tt
  by_fault (loads.BadByte place) h = tt
  by_fault loads.Full h = tt
  by_fault loads.Memory h = tt
  by_fault loads.Read h = tt
  by_fault loads.TooLong h = h refl

-- ---- a program that is loaded

-- of a text that was loaded no note is a refusal
loaded_facts : (memory : ℕ) (known : Option (List ℕ)) (old new : ℕ) (note : Option Note) → (IsUnloaded note → ⊥)
    → ReportsRefusal memory known note × ReportsLength old new note
loaded_facts memory known old new None h = (tt, tt)
loaded_facts memory known old new (Some (notes.Load line fault)) h = absurd (h tt)
loaded_facts memory known old new (Some notes.ProgramUnread) h = (tt, tt)
loaded_facts memory known old new (Some notes.InputUnread) h = (tt, tt)
loaded_facts memory known old new (Some notes.NoBeginning) h = (tt, tt)
loaded_facts memory known old new (Some notes.NoRun) h = (tt, tt)
loaded_facts memory known old new (Some notes.OutOfMemory) h = (tt, tt)
loaded_facts memory known old new (Some notes.Unwritten) h = (tt, tt)

pub loaded_refusal : (memory : ℕ) (known : Option (List ℕ)) (note : Option Note) → (IsUnloaded note → ⊥)
    → ReportsRefusal memory known note
loaded_refusal memory known note h = (loaded_facts memory known 0 0 note h).0

-- nor does one say how long the text is
pub loaded_length : (old new : ℕ) (note : Option Note) → (IsUnloaded note → ⊥) → ReportsLength old new note
loaded_length old new note h = (loaded_facts 0 None old new note h).1

-- a text that was loaded isn't refused
pub loaded_unrefused : (memory : ℕ) (known : Option (List ℕ)) (p : Statements) (Q : ℕ × LoadFault → Type 0)
    → IfSome known (λ b. IsLoaded memory b p)
    → IfSome known (λ b. IfErr (program_of_text memory b) Q)
loaded_unrefused memory None p Q h = tt
loaded_unrefused memory (Some b) p Q h = rw (program_of_text-ok memory b p h) tt

-- the reply is that of the loaded program
pub program_reply-loaded : (memory : ℕ) (b : List ℕ) (next : StoredProgram → Reply) (p : Statements)
    → IsLoaded memory b p
    → program_reply memory b next ≡ next (record { lines = p; memory = memory })
program_reply-loaded memory b next p h = rw (program_of_text-ok memory b p h) refl

pub serves_loaded : (memory : ℕ) (known : Option (List ℕ)) (next : StoredProgram → Reply) (p : StoredProgram)
    (old new : Option (List ℕ)) (result : Result ℕ Note)
    → IfSome known (λ b. IsLoaded memory b p.lines) → p.memory ≡ memory
    → Serves (next p) old new (outcome_of result)
    → IfSome known (λ b. Serves (program_reply memory b next) old new (outcome_of result))
serves_loaded memory None next p old new result h e s = tt
serves_loaded memory (Some b) next p old new result h e s =
    let is : program_reply memory b next ≡ next p =
    program_reply-loaded memory b next p.lines h ∙ ap (λ m. next (record { lines = p.lines; memory = m })) (sym e) in
    subst (λ r. Serves r old new (outcome_of result)) (sym is) s

-- a listing of a loaded program
pub lists_loaded : (request : Request) (b c : List ℕ) (p : StoredProgram) (under after : Option (List Marked))
    (first : Option ℕ) (form : Form) (old new : Option (List ℕ))
    → IsLoaded request.memory b p.lines → p.memory ≡ request.memory
    → Appends old new [] ⊎ ListsFewerOf p (input_lines c) request.rules under after first form old new
    → StopsForMemory (modes.All under after first form) request b c old new
lists_loaded request b c p under after first form old new h e lists =
    let stored : record { lines = p.lines; memory = request.memory } ≡ p = ap (λ m. record p { memory = m }) (sym e) in
    rw (program_of_text-ok request.memory b p.lines h)
    (subst (λ q. Appends old new [] ⊎ ListsFewerOf q (input_lines c) request.rules under after first form old new)
    (sym stored) lists)

-- the lists that split the runs of a loaded program
pub splits_loaded : (request : Request) (b c : List ℕ) (p : StoredProgram) (n : ℕ) (form : Form)
    (old new : Option (List ℕ))
    → IsLoaded request.memory b p.lines → p.memory ≡ request.memory
    → Appends old new [] ⊎ SplitsFewerOf p (input_lines c) request.rules n form old new
    → StopsForMemory (modes.Shares n form) request b c old new
splits_loaded request b c p n form old new h e splits =
    let stored : record { lines = p.lines; memory = request.memory } ≡ p = ap (λ m. record p { memory = m }) (sym e) in
    rw (program_of_text-ok request.memory b p.lines h)
    (subst (λ q. Appends old new [] ⊎ SplitsFewerOf q (input_lines c) request.rules n form old new) (sym stored) splits)

-- a sample of a loaded program
pub samples_loaded : (request : Request) (b c : List ℕ) (p : StoredProgram) (seed runs : ℕ) (form : Form)
    (old new : Option (List ℕ))
    → IsLoaded request.memory b p.lines → p.memory ≡ request.memory
    → Appends old new [] ⊎ SamplesFewerOf p (input_lines c) request.rules seed runs form old new
    → StopsForMemory (modes.Sample seed runs form) request b c old new
samples_loaded request b c p seed runs form old new h e samples =
    let stored : record { lines = p.lines; memory = request.memory } ≡ p = ap (λ m. record p { memory = m }) (sym e) in
    rw (program_of_text-ok request.memory b p.lines h)
    (subst (λ q. Appends old new [] ⊎ SamplesFewerOf q (input_lines c) request.rules seed runs form old new)
    (sym stored) samples)

-- a run of a loaded program by a seed
pub asks_loaded : (request : Request) (b c : List ℕ) (p : StoredProgram) (seed : ℕ) (old new : Option (List ℕ))
    → IsLoaded request.memory b p.lines → p.memory ≡ request.memory
    → Appends old new [] ⊎ AsksForMore p (input_lines c) request.rules seed old new
    → StopsForMemory (modes.Seeded seed) request b c old new
asks_loaded request b c p seed old new h e asks =
    let stored : record { lines = p.lines; memory = request.memory } ≡ p = ap (λ m. record p { memory = m }) (sym e) in
    rw (program_of_text-ok request.memory b p.lines h)
    (subst (λ q. Appends old new [] ⊎ AsksForMore q (input_lines c) request.rules seed old new) (sym stored) asks)

-- ---- a run

pub status_within : (e : Ending) → status e ≤ 7
status_within = every_ending (λ e. status e ≤ 7) (omega arith) (omega arith) (omega arith) (omega arith) (omega arith)
    (omega arith) (omega arith) (omega arith) (omega arith)

-- the result of a run on the lines of an input
module _ (run : List (List ℕ) → List ℕ × Ending) (known : Option (List ℕ)) (c : List ℕ)
    (old new : Option (List ℕ)) where
  abbrev due : Reply
  due = run_reply (run (input_lines c))

  pub serves_ended : (e : Ending) (n : ℕ) → n ≡ status e → known ≡ Some c
      → IfSome known (λ b. ShowsRun (run (input_lines b)) old new e)
      → Serves due old new (outcome_of (Ok n))
  serves_ended e n number is h =
      let shown = at_known (λ b. ShowsRun (run (input_lines b)) old new e) c is h in
      record { bytes = shown.bytes; status = number ∙ ap status shown.ending; note = refl }

-- ---- an input that can't be read

-- on the lines that came complete a run ends for lack of a line
module _ (memory : ℕ) (run : StoredProgram → List (List ℕ) → List ℕ × Ending) (p : StoredProgram)
    (i j old new : Option (List ℕ)) where
  lacks_line : (lines : List (List ℕ)) → ShowsRun (run p lines) old new endings.NoInput
      → LacksInputLine (run_reply (run p lines)) old new
  lacks_line lines h = record { bytes = h.bytes; status = sym (ap status h.ending) }

  pub unread_loaded : (known : Option (List ℕ)) → IfSome known (λ b. IsLoaded memory b p.lines) → p.memory ≡ memory
      → (taken : List ℕ) × Consumes i j taken × ShowsRun (run p (lines_come taken)) old new endings.NoInput
      → IfSome known (λ b. (taken : List ℕ) × Consumes i j taken
      × LacksInputLine (program_reply memory b (λ q. run_reply (run q (lines_come taken)))) old new)
  unread_loaded None h e r = tt
  unread_loaded (Some b) h e r =
      let lines = lines_come r.0 in
      let stored : record { lines = p.lines; memory = memory } ≡ p = ap (λ m. record p { memory = m }) (sym e) in
      rw (program_of_text-ok memory b p.lines h) (
        r.0,
        r.1,
        subst (λ q. LacksInputLine (run_reply (run q lines)) old new) (sym stored) (lacks_line lines r.2),
      )

-- ---- what is taken of the input

-- how many lines a run wanted that takes k
abbrev pub outcome_wanted : ℕ → Outcome → ℕ
outcome_wanted k outcome = note_wanted k outcome.note outcome.status

-- the same, of all lines
abbrev wanted_by : Option ℤ → ℕ → ℕ → Outcome → ℕ
wanted_by choose all k outcome = note_wanted_by choose all k outcome.note outcome.status

-- what is read of the input, by the outcome of a run that takes so many lines
abbrev pub ReadsBy : Request → (StoredProgram → List (List ℕ) → ℕ) → List ℕ → List ℕ → Option (List ℕ) → Outcome
    → Type 0
ReadsBy request count b c left outcome = ReadsByNote request count b c left outcome.note outcome.status

-- where nothing was taken
reads_nothing : (request : Request) (count : StoredProgram → List (List ℕ) → ℕ) (b : List ℕ) (known : Option (List ℕ))
    (outcome : Outcome)
    → IfSome known (λ c. ReadsBy request count b c known outcome)
reads_nothing request count b None outcome = tt
reads_nothing request count b (Some c) outcome = by_text (program_of_text request.memory b) where
  by_text : (t : Result Statements (ℕ × LoadFault)) → IfOk t (λ p. (taken : List ℕ) × Consumes (Some c) (Some c) taken
      × ReadsFor taken (wanted_by request.rules.choose (length (input_lines c))
      (count (record { lines = p; memory = request.memory }) (input_lines c)) outcome))
  by_text (Ok p) = ([], refl, inl refl)
  by_text (Err e) = tt

pub takes_nothing_in : (mode : Mode) (request : Request) (program known : Option (List ℕ)) (outcome : Outcome)
    → IfSome program (λ b. IfSome known (λ c. ReadsForRun mode request b c known outcome))
takes_nothing_in mode request None known outcome = tt
takes_nothing_in (modes.Plain a) request (Some b) known outcome =
    reads_nothing request (λ p lines. lines_taken p lines request.rules a) b known outcome
takes_nothing_in (modes.Seeded seed) request (Some b) known outcome =
    reads_nothing request (λ p lines. seeded_taken seed p lines request.rules) b known outcome
takes_nothing_in (modes.All under after first form) request (Some b) known outcome = nothing_told known
takes_nothing_in (modes.Shares answers form) request (Some b) known outcome = nothing_told known
takes_nothing_in (modes.Sample seed runs form) request (Some b) known outcome = nothing_told known
takes_nothing_in modes.List request (Some b) known outcome = nothing_told known
takes_nothing_in modes.Check request (Some b) known outcome = nothing_told known
takes_nothing_in modes.Chances request (Some b) known outcome = nothing_told known

-- by the outcome as by the result
wanted_same : (result : Result Ending RunFault) (outcome : Outcome)
    → ((k : ℕ) → ending_wanted k result ≡ outcome_wanted k outcome)
    → (choose : Option ℤ) (all k : ℕ) → lines_wanted choose all k result ≡ wanted_by choose all k outcome
wanted_same result outcome same None all k = same k
wanted_same result outcome same (Some n) all k = ap (λ m. if k == all then k + 1 else m) (same k)

-- a text that was loaded is that program
pub reads_loaded : (request : Request) (count : StoredProgram → List (List ℕ) → ℕ)
    (program known left : Option (List ℕ)) (p : StoredProgram) (outcome : Outcome) (result : Result Ending RunFault)
    → IfSome program (λ b. IsLoaded request.memory b p.lines) → p.memory ≡ request.memory
    → ((k : ℕ) → ending_wanted k result ≡ outcome_wanted k outcome)
    → (taken : List ℕ) × Consumes known left taken × IfSome known (λ c. ReadsFor taken
    (lines_wanted request.rules.choose (length (input_lines c)) (count p (input_lines c)) result))
    → IfSome program (λ b. IfSome known (λ c. ReadsBy request count b c left outcome))
reads_loaded request count None known left p outcome result h e same r = tt
reads_loaded request count (Some b) None left p outcome result h e same r = tt
reads_loaded request count (Some b) (Some c) left p outcome result h e same r =
    let stored : record { lines = p.lines; memory = request.memory } ≡ p = ap (λ m. record p { memory = m }) (sym e) in
    let all = length (input_lines c) in
    rw (program_of_text-ok request.memory b p.lines h) (
      r.0,
      r.1,
      subst (λ q. ReadsFor r.0 (wanted_by request.rules.choose all (count q (input_lines c)) outcome)) (sym stored)
          (subst (ReadsFor r.0) (wanted_same result outcome same request.rules.choose all (count p (input_lines c)))
          r.2),
    )

pub wanted_ended : (e : Ending) (n : ℕ) → n ≡ status e → (k : ℕ)
    → ending_wanted k (Ok e) ≡ outcome_wanted k (outcome_of (Ok n))
wanted_ended e n number k =
    every_ending (λ e. ending_wanted k (Ok e) ≡ outcome_wanted k (outcome_of (Ok (status e))))
    refl refl refl refl refl refl refl refl refl e
    ∙ ap (λ s. outcome_wanted k (outcome_of (Ok s))) (sym number)

-- ---- an outcome

pub outcome_of-note : (r : Result ℕ Note) (note : Note) → (outcome_of r).note ≡ Some note → IsErrOf r note
outcome_of-note (Ok status) note h = absurd cc
outcome_of-note (Err n) note h = cc

pub outcome_of-none : (r : Result ℕ Note) (Q : Type 0) → OnOk r Q → (outcome_of r).note ≡ None → Q
outcome_of-none (Ok status) Q q h = q
outcome_of-none (Err n) Q q h = absurd cc

pub outcome_of-success : (r : Result ℕ Note) → OnOk r (r ≡ Ok 0) → (outcome_of r).note ≡ None
    → (outcome_of r).status ≡ 0
outcome_of-success (Ok status) q h = cc
outcome_of-success (Err n) q h = absurd cc

pub outcome_of-checked : (r : Result ℕ Note) → IfOk r (λ n. n ≤ 1) → (outcome_of r).note ≡ None
    → (outcome_of r).status ≤ 1
outcome_of-checked (Ok status) q h = q
outcome_of-checked (Err n) q h = absurd cc

pub run_no_check : (mode : Mode) → IsPlainRun mode → IsCheck mode → ⊥
run_no_check (modes.Plain a) run check = check
run_no_check (modes.Seeded seed) run check = check
run_no_check (modes.All under after first form) run check = check
run_no_check (modes.Shares answers form) run check = check
run_no_check (modes.Sample seed runs form) run check = check
run_no_check modes.List run check = check
run_no_check modes.Check run check = run
run_no_check modes.Chances run check = check

pub outcome_of-err : (r : Result ℕ Note) (note : Note) → IsErrOf r note → (outcome_of r).note ≡ Some note
outcome_of-err r note h = ap (λ x. (outcome_of x).note) h

pub outcome_of-status : (r : Result ℕ Note) → IfOk r (λ n. n ≤ 7)
    → MatchOption (outcome_of r).note ((outcome_of r).status ≤ 7) (λ note. (outcome_of r).status ≡ note_status note)
outcome_of-status (Ok n) h = h
outcome_of-status (Err note) h = refl
