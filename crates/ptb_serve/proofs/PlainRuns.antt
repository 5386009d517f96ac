-- This file proves how a run of a program that was loaded is served, with a list of answers or by a seed.
-- Main lemmas: `plain_serves` and `seeded_serves`.
use Rattle.std.proofs.Common.{◌≡◌, inl, inr, ℕ, List, [], Option, Some, None, Result, Ok, Err}
use Rattle.std.proofs.Common.{IfSome, IsErrOf, refl, subst, sym}
use Rattle.std.specs.Io.KnownBytes.{Appends, Consumes}
use Rattle.ptb_text.specs.Device.{TakesSome}
use Rattle.ptb_text.specs.Lines.{input_lines}
use Rattle.ptb_text.specs.ProgramTexts.{IsLoaded}
use Rattle.ptb_text.specs.Statements.{StoredProgram}
use Rattle.ptb_command.specs.declared.ending.Ending.{Ending}
use Rattle.ptb_answers.specs.Outcome.{Answers}
use Rattle.ptb_machine.specs.declared.fault.RunFault.{RunFault}
use Rattle.ptb_machine.specs.declared.fault.RunFault.TheVariants as faults
use Rattle.ptb_machine.specs.Play.{plain, status}
use Rattle.ptb_options.specs.declared.request.Mode.{Mode}
use Rattle.ptb_options.specs.declared.request.Mode.TheVariants as modes
use Rattle.ptb_options.specs.declared.request.Request.{Request}
use Rattle.ptb_serve.specs.declared.note.Note.{Note}
use Rattle.ptb_serve.specs.declared.note.Note.TheVariants as notes
use Rattle.ptb_serve.specs.declared.service.Outcome.{Outcome}
use Rattle.ptb_serve.specs.LoadedPrograms.{IsRunStatus, ReadsInput, ServesProgram, ReportsFailures}
use Rattle.ptb_machine.specs.PlainRuns.{PlaysWith, ReadsLines, WantsMemory, ending_wanted, lines_come, lines_taken}
use Rattle.ptb_machine.specs.PlainRuns.{without_choose}
use Rattle.ptb_machine.specs.Streams.{Reads, Writes}
use Rattle.ptb_serve.specs.Replies.{Reply, program_reply, program_reply_in_mode, run_reply}
use Rattle.ptb_machine.specs.SeededRuns.{seeded_answers}
use Rattle.ptb_serve.specs.ServedRequests.{AsksForMore, LacksInputLine, IsInput, IsPlainRun, IsUnloaded}
use Rattle.ptb_serve.specs.ServedRequests.{NeedsInput, NeedsWholeInput, ReadsForRun, Serves}
use Rattle.ptb_serve.specs.ServedRequests.{ServesUnread, SilentBy, StopsForMemory, outcome_of}
use Rattle.ptb_serve.proofs.ServedPrograms.{ReadsBy, outcome_wanted, asks_loaded, at_known, each_known, reads_loaded}
use Rattle.ptb_serve.proofs.ServedPrograms.{run_no_check, serves_ended, serves_loaded, status_within, unread_loaded}
use Rattle.ptb_serve.proofs.ServedPrograms.{wanted_ended}

-- the program was played with these answers, which may depend on the lines
pub record Ran {R : Type 0} (request : Request) (p : StoredProgram) (answers : List (List ℕ)
    → Answers) (input : Reads R) (out : Writes) (r : Result Ending RunFault) : Type 0 where
  pub plays : PlaysWith p request.rules answers input out r
  pub reads : ReadsLines input r

module _ {R : Type 0} (request : Request) (p : StoredProgram) (answers : StoredProgram → List (List ℕ)
    → Answers) (input : Reads R) (out : Writes) where
  abbrev RanBy : Result Ending RunFault → Type 0
  RanBy r = Ran request p (answers p) input out r

  abbrev run : List (List ℕ) → List ℕ × Ending
  run lines = plain p lines request.rules (answers p lines)

  -- whether the writer failed
  pub run_failures : (r : Result Ending RunFault) (result : Result ℕ Note) → IsRunStatus r result → RanBy r
      → ReportsFailures out.failed out.fails result
  run_failures (Ok e) result h ran =
      subst (ReportsFailures out.failed out.fails) (sym h)
      (record { unwritten = λ x. absurd cc; written = λ _. ran.plays.unfailed (λ x. absurd cc) })
  run_failures (Err faults.Memory) result h ran =
      subst (ReportsFailures out.failed out.fails) (sym h)
      (record { unwritten = λ x. absurd cc; written = λ _. ran.plays.unfailed (λ x. absurd cc) })
  run_failures (Err faults.Read) result h ran =
      subst (ReportsFailures out.failed out.fails) (sym h)
      (record { unwritten = λ x. absurd cc; written = λ _. ran.plays.unfailed (λ x. absurd cc) })
  run_failures (Err faults.Write) result h ran =
      subst (ReportsFailures out.failed out.fails) (sym h)
      (record { unwritten = λ _. ran.plays.failed refl; written = λ x. absurd (x refl) })
  run_failures (Err faults.Spent) result h ran = absurd h

  -- in a mode that runs the program once, with these answers
  module _ (mode : Mode) (is_run : IsPlainRun mode) (is_needed : NeedsInput mode) (not_whole : NeedsWholeInput mode
      → ⊥) where
    abbrev ReadsAs : Result ℕ Note → Type 0
    ReadsAs result = ReadsInput mode input.bytes input.left input.failed input.fails input.gave input.gives result

    reads_status : (n : ℕ) (e : Ending) → RanBy (Ok e) → ReadsAs (Ok n)
    reads_status n e ran = record {
      within = λ x. absurd (not_whole x);
      taken_within = λ _. ran.reads.within;
      no_beginning_within = λ x. absurd cc;
      no_run_within = λ x. absurd cc;
      bounded = ran.reads.bounded;
      given = ran.reads.given;
      unread = λ x. absurd cc;
      failed_or_given = λ x. absurd cc;
      read = λ _. ran.reads.unfailed (λ x. absurd cc);
      unneeded = λ x. absurd (x is_needed);
    }

    -- a note that says nothing of the input
    reads_note : (note : Note) (fault : RunFault) → (IsErrOf {T = Ending} (Err fault) faults.Read → ⊥)
        → (IsErrOf {T = ℕ} (Err note) notes.InputUnread → ⊥)
        → (IsErrOf {T = ℕ} (Err note) notes.NoBeginning → ⊥) → (IsErrOf {T = ℕ} (Err note) notes.NoRun → ⊥)
        → RanBy (Err fault) → ReadsAs (Err note)
    reads_note note fault fine known begun started ran = record {
      within = λ x. absurd (not_whole x);
      taken_within = λ _. tt;
      no_beginning_within = λ x. absurd (begun x);
      no_run_within = λ x. absurd (started x);
      bounded = ran.reads.bounded;
      given = ran.reads.given;
      unread = λ x. absurd (known x);
      failed_or_given = λ x. absurd (known x);
      read = λ _. ran.reads.unfailed fine;
      unneeded = λ x. absurd (x is_needed);
    }

    reads_unread : RanBy (Err faults.Read) → ReadsAs (Err notes.InputUnread)
    reads_unread ran = record {
      within = λ x. absurd (not_whole x);
      taken_within = λ _. tt;
      no_beginning_within = λ x. absurd cc;
      no_run_within = λ x. absurd cc;
      bounded = ran.reads.bounded;
      given = ran.reads.given;
      unread = λ _. ran.reads.unreadable refl;
      failed_or_given = λ _. ran.reads.failed_or_given refl;
      read = λ x. absurd (x refl);
      unneeded = λ x. absurd (x is_needed);
    }

    pub run_reads : (r : Result Ending RunFault) (result : Result ℕ Note) → IsRunStatus r result → RanBy r
        → ReadsAs result
    run_reads (Ok e) result h ran = subst ReadsAs (sym h) (reads_status (status e) e ran)
    run_reads (Err faults.Memory) result h ran =
        subst ReadsAs (sym h) (reads_note notes.OutOfMemory faults.Memory (λ x. absurd cc) (λ x. absurd cc)
        (λ x. absurd cc) (λ x. absurd cc) ran)
    run_reads (Err faults.Read) result h ran = subst ReadsAs (sym h) (reads_unread ran)
    run_reads (Err faults.Write) result h ran =
        subst ReadsAs (sym h) (reads_note notes.Unwritten faults.Write (λ x. absurd cc) (λ x. absurd cc)
        (λ x. absurd cc) (λ x. absurd cc) ran)
    run_reads (Err faults.Spent) result h ran = absurd h

    -- what is written, where the mode's definitions are those of a run with these answers
    module _ (memory : p.memory ≡ request.memory)
        (is_input : (c : List ℕ) → IsInput mode input.bytes c → input.bytes ≡ Some c)
        (same_reply : (c : List ℕ) → program_reply_in_mode mode request.rules c p ≡ run_reply (run (input_lines c)))
        (same_taken : (b c : List ℕ) (outcome : Outcome) → ReadsBy request (λ q lines. lines_taken q lines request.rules
        (answers q lines)) b c input.left outcome → ReadsForRun mode request b c input.left outcome)
        (same_unread : (b : List ℕ) → (taken : List ℕ) × Consumes input.bytes input.left taken
        × LacksInputLine (program_reply request.memory b (λ q. run_reply (plain q (lines_come taken)
        (without_choose request.rules) (answers q (lines_come taken))))) out.before out.after
        → ServesUnread mode request input.bytes input.left b out.before out.after) where
      abbrev ServesAs : Result ℕ Note → Type 0
      ServesAs result = ServesProgram mode request p input.bytes input.left out.before out.after result

      loaded_run : (b c : List ℕ) (result : Result ℕ Note) → IsLoaded request.memory b p.lines
          → Serves (run_reply (run (input_lines c))) out.before out.after (outcome_of result)
          → Serves (program_reply request.memory b (program_reply_in_mode mode request.rules c)) out.before out.after
          (outcome_of result)
      loaded_run b c result l s =
          serves_loaded request.memory (Some b)
          (program_reply_in_mode mode request.rules c) p out.before out.after result l memory
          (subst (λ q. Serves q out.before out.after (outcome_of result)) (sym (same_reply c)) s)

      taken_run : (b : List ℕ) (r : Result Ending RunFault) (outcome : Outcome) → IsLoaded request.memory b p.lines
          → ((k : ℕ) → ending_wanted k r ≡ outcome_wanted k outcome) → RanBy r
          → IfSome input.bytes (λ c. ReadsForRun mode request b c input.left outcome)
      taken_run b r outcome l wanted ran =
          each_known
          (λ c. ReadsBy request (λ q lines. lines_taken q lines request.rules (answers q lines)) b c input.left outcome)
          (λ c. ReadsForRun mode request b c input.left outcome) input.bytes (λ c. same_taken b c outcome)
          (reads_loaded request (λ q lines. lines_taken q lines request.rules (answers q lines))
          (Some b) input.bytes input.left p outcome r l memory wanted ran.plays.asked)

      serves_status : (e : Ending) → RanBy (Ok e) → SilentBy mode None out.before out.after → ServesAs (Ok (status e))
      serves_status e ran quiet = record {
        served =
            λ b c l is. loaded_run b c (Ok (status e)) l
            (serves_ended run input.bytes c out.before out.after e (status e) refl (is_input c is) ran.plays.ended);
        taken = λ b l. taken_run b (Ok e) (outcome_of (Ok (status e))) l (wanted_ended e (status e) refl) ran;
        unread = λ b l x. absurd cc;
        silent = quiet;
        stopped = λ b c _ _ x. absurd cc;
        status = status_within e;
        success = λ x _. absurd (x is_run);
        checked = λ x. absurd (run_no_check mode is_run x);
        loaded = λ x. x;
      }

      -- a note of a run that is broken off, which serves whatever begins so
      serves_note : (fault : RunFault) (note : Note)
          → ((reply : Reply) → TakesSome out.before out.after reply.bytes
          → Serves reply out.before out.after (outcome_of (Err note)))
          → ((k : ℕ) → ending_wanted k (Err fault) ≡ outcome_wanted k (outcome_of (Err note)))
          → ((b : List ℕ) → IsLoaded request.memory b p.lines → IsErrOf {T = ℕ} (Err note) notes.InputUnread
          → ServesUnread mode request input.bytes input.left b out.before out.after)
          → RanBy (Err fault) → SilentBy mode (Some note) out.before out.after → (IsUnloaded (Some note) → ⊥)
          → ((b c : List ℕ) → IsLoaded request.memory b p.lines → IsInput mode input.bytes c
          → IsErrOf {T = ℕ} (Err note) notes.OutOfMemory → StopsForMemory mode request b c out.before out.after)
          → ServesAs (Err note)
      serves_note fault note broken wanted unread ran quiet loaded stopped = record {
        served = λ b c l is. loaded_run b c (Err note) l (broken (run_reply (run (input_lines c)))
            (at_known (λ d. TakesSome out.before out.after (run (input_lines d)).0) c
            (is_input c is) ran.plays.broken_off));
        taken = λ b l. taken_run b (Err fault) (outcome_of (Err note)) l wanted ran;
        unread = unread;
        silent = quiet;
        stopped = stopped;
        status = tt;
        success = λ _ _. tt;
        checked = λ _. tt;
        loaded = loaded;
      }

      unread_run : RanBy (Err faults.Read) → (b : List ℕ) → IsLoaded request.memory b p.lines
          → ServesUnread mode request input.bytes input.left b out.before out.after
      unread_run ran b l =
          same_unread b (unread_loaded request.memory
          (λ q lines. plain q lines (without_choose request.rules) (answers q lines)) p input.bytes input.left
          out.before out.after (Some b) l memory (ran.plays.unread refl))

      abbrev StopsBy : Result Ending RunFault → Type 0
      StopsBy r = (b c : List ℕ) → IsLoaded request.memory b p.lines → IsInput mode input.bytes c
          → IsErrOf r faults.Memory → StopsForMemory mode request b c out.before out.after

      pub run_serves : (r : Result Ending RunFault) (result : Result ℕ Note) → IsRunStatus r result → RanBy r
          → SilentBy mode (outcome_of result).note out.before out.after → StopsBy r → ServesAs result
      run_serves (Ok e) result h ran quiet stopped =
          subst ServesAs (sym h)
          (serves_status e ran (subst (λ x. SilentBy mode (outcome_of x).note out.before out.after) h quiet))
      run_serves (Err faults.Memory) result h ran quiet stopped =
          subst ServesAs (sym h)
          (serves_note faults.Memory notes.OutOfMemory (λ _ t. t) (λ k. refl) (λ b l x. absurd cc) ran
          (subst (λ x. SilentBy mode (outcome_of x).note out.before out.after) h quiet) (λ x. x)
          (λ b c l i _. stopped b c l i refl))
      run_serves (Err faults.Read) result h ran quiet stopped =
          subst ServesAs (sym h)
          (serves_note faults.Read notes.InputUnread (λ _ t. t) (λ k. refl) (λ b l _. unread_run ran b l) ran
          (subst (λ x. SilentBy mode (outcome_of x).note out.before out.after) h quiet) (λ x. x)
          (λ b c _ _ x. absurd cc))
      run_serves (Err faults.Write) result h ran quiet stopped =
          subst ServesAs (sym h)
          (serves_note faults.Write notes.Unwritten (λ _ t. t) (λ k. refl) (λ b l x. absurd cc) ran
          (subst (λ x. SilentBy mode (outcome_of x).note out.before out.after) h quiet) (λ x. x)
          (λ b c _ _ x. absurd cc))
      run_serves (Err faults.Spent) result h ran quiet stopped = absurd h

-- ---- when nothing was written

pub plain_silent : (a : Answers) (old new : Option (List ℕ)) (r : Result Ending RunFault) (result : Result ℕ Note)
    → IsRunStatus r result
    → (IsErrOf r faults.Memory → Appends old new []) → SilentBy (modes.Plain a) (outcome_of result).note old new
plain_silent a old new (Ok e) result h quiet =
    subst (λ x. SilentBy (modes.Plain a) (outcome_of x).note old new) (sym h) tt
plain_silent a old new (Err faults.Memory) result h quiet =
    subst (λ x. SilentBy (modes.Plain a) (outcome_of x).note old new) (sym h) (quiet refl)
plain_silent a old new (Err faults.Read) result h quiet =
    subst (λ x. SilentBy (modes.Plain a) (outcome_of x).note old new) (sym h) tt
plain_silent a old new (Err faults.Write) result h quiet =
    subst (λ x. SilentBy (modes.Plain a) (outcome_of x).note old new) (sym h) tt
plain_silent a old new (Err faults.Spent) result h quiet = absurd h

-- the answers of a seed take memory
pub seeded_silent : (seed : ℕ) (old new : Option (List ℕ)) (r : Result Ending RunFault) (result : Result ℕ Note)
    → IsRunStatus r result → SilentBy (modes.Seeded seed) (outcome_of result).note old new
seeded_silent seed old new (Ok e) result h =
    subst (λ x. SilentBy (modes.Seeded seed) (outcome_of x).note old new) (sym h) tt
seeded_silent seed old new (Err faults.Memory) result h =
    subst (λ x. SilentBy (modes.Seeded seed) (outcome_of x).note old new) (sym h) tt
seeded_silent seed old new (Err faults.Read) result h =
    subst (λ x. SilentBy (modes.Seeded seed) (outcome_of x).note old new) (sym h) tt
seeded_silent seed old new (Err faults.Write) result h =
    subst (λ x. SilentBy (modes.Seeded seed) (outcome_of x).note old new) (sym h) tt
seeded_silent seed old new (Err faults.Spent) result h = absurd h

-- ---- in both modes

module _ {R : Type 0} (request : Request) (p : StoredProgram) (input : Reads R) (out : Writes)
    (r : Result Ending RunFault) (result : Result ℕ Note) (h : IsRunStatus r result) where
  module _ (a : Answers) (ran : Ran request p (λ _. a) input out r) where
    pub plain_reads : ReadsInput
        (modes.Plain a) input.bytes input.left input.failed input.fails input.gave input.gives result
    plain_reads = run_reads request p (λ _ _. a) input out (modes.Plain a) tt tt (λ x. x) r result h ran

    pub plain_serves : p.memory ≡ request.memory → (IsErrOf r faults.Memory → Appends out.before out.after [])
        → ServesProgram (modes.Plain a) request p input.bytes input.left out.before out.after result
    plain_serves memory quiet =
        run_serves request p (λ _ _. a) input out (modes.Plain a) tt tt (λ x. x) memory (λ c is. is) (λ c. refl)
        (λ b c outcome x. x) (λ b x. x)
        r result h ran (plain_silent a out.before out.after r result h quiet) (λ b c _ _ _. tt)

  module _ (seed : ℕ) (ran : Ran request p (λ lines. seeded_answers seed p lines request.rules) input out r) where
    pub seeded_reads : ReadsInput
        (modes.Seeded seed) input.bytes input.left input.failed input.fails input.gave input.gives result
    seeded_reads =
        run_reads request p (λ q lines. seeded_answers seed q lines request.rules) input out (modes.Seeded seed) tt tt
        (λ x. x) r result h ran

    -- memory is refused before anything is shown, or at a question
    stops : p.memory ≡ request.memory
        → (IsErrOf r faults.Memory
        → WantsMemory p request.rules (λ lines. seeded_answers seed p lines request.rules) input out)
        → (b c : List ℕ) → IsLoaded request.memory b p.lines → input.bytes ≡ Some c → IsErrOf r faults.Memory
        → StopsForMemory (modes.Seeded seed) request b c out.before out.after
    stops memory wants b c l is x =
        asks_loaded request b c p seed out.before out.after l memory
        (elim (wants x) [
          | inl nothing ↦ inl nothing
          | inr shown ↦ inr (at_known
              (λ d. AsksForMore p (input_lines d) request.rules seed out.before out.after) c is shown)
        ])

    pub seeded_serves : p.memory ≡ request.memory
        → (IsErrOf r faults.Memory
        → WantsMemory p request.rules (λ lines. seeded_answers seed p lines request.rules) input out)
        → ServesProgram (modes.Seeded seed) request p input.bytes input.left out.before out.after result
    seeded_serves memory wants =
        run_serves request p (λ q lines. seeded_answers seed q lines request.rules) input out (modes.Seeded seed) tt tt
        (λ x. x) memory (λ c is. is) (λ c. refl)
        (λ b c outcome x. x) (λ b x. x) r result h ran (seeded_silent seed out.before out.after r result h)
        (stops memory wants)
