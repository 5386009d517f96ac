-- This file proves how the table of chances is served, from what was read and what was written.
-- Main lemmas: `chances_written` and `chances_broken`.
use Rattle.std.proofs.Common.{◌≡◌, ℕ, List, [], Option, Some, Result, Ok, inr}
use Rattle.std.proofs.Common.{Err, refl, sym, subst, IfSome, IsErrOf}
use Rattle.std.specs.Io.KnownBytes.{Appends}
use Rattle.std.specs.Result.{IsErrAnd}
use Rattle.std.proofs.KnownBytes.{Appends-nil}
use Rattle.ptb_text.specs.Device.{HasFailed, TakesSome}
use Rattle.ptb_text.specs.Lines.{input_lines}
use Rattle.ptb_text.specs.Statements.{StoredProgram}
use Rattle.ptb_text.specs.declared.device_fault.DeviceFault.{DeviceFault}
use Rattle.ptb_devices.specs.Screens.{IsScreenFault}
use Rattle.ptb_devices.specs.Sources.{IsSourceFault}
use Rattle.ptb_machine.specs.Play.{play}
use Rattle.ptb_machine.specs.Questions.{most_answers}
use Rattle.ptb_machine.specs.declared.fault.RunFault.TheVariants as faults
use Rattle.ptb_chances.specs.Chances.{chances}
use Rattle.ptb_text.specs.declared.device_fault.DeviceFault.TheVariants as tables
use Rattle.ptb_options.specs.declared.request.Mode.TheVariants as modes
use Rattle.ptb_options.specs.declared.request.Request.{Request}
use Rattle.ptb_serve.specs.declared.note.Note.{Note}
use Rattle.ptb_serve.specs.declared.note.Note.TheVariants as notes
use Rattle.ptb_serve.specs.LoadedPrograms.{IsServedOn, ServesProgram}
use Rattle.ptb_serve.specs.Replies.{Reply, chances_reply}
use Rattle.ptb_serve.specs.ServedRequests.{IsUnloaded, Serves, SilentBy, device_note, outcome_of}
use Rattle.ptb_serve.proofs.ServedListings.{serves_mode}
use Rattle.ptb_serve.proofs.Mismatches.{run_refuses_none}
use Rattle.ptb_serve.proofs.ServedPrograms.{nothing_told, serves_loaded, takes_nothing}
use Rattle.ptb_serve.proofs.WholeInput.{IsDue, all_due, all_written, at_lines, gives_err, unread_due}

module _ (request : Request) (p : StoredProgram) (memory : p.memory ≡ request.memory) where
  abbrev pub due : List (List ℕ) → List ℕ
  due input = chances (play p input request.rules) (most_answers p input request.rules.limit)

  abbrev reply : List ℕ → Reply
  reply c = chances_reply p (input_lines c) request.rules

  -- ---- how it is served

  module _ (i j : Option (List ℕ)) where
    table_serves : (old new : Option (List ℕ)) (result : Result ℕ Note)
        → IsDue modes.Chances reply (λ c. Unit {0}) i old new result
        → ServesProgram modes.Chances request p i j old new result
    table_serves old new result due =
        serves_mode modes.Chances (λ x. x) request p i j old new result
        (λ b c l is. serves_loaded request.memory (Some b) (λ q. chances_reply q (input_lines c) request.rules) p old
        new result l memory (due.served c is))
        (λ b. nothing_told i) (λ b. due.unread) (λ b c _ _ _. tt) due.quiet due.success due.loaded

    pub unread_table : (held : Option (List ℕ)) (fault : DeviceFault) → IsSourceFault fault
        → ServesProgram modes.Chances request p i j held held (Err (device_note fault))
    unread_table held fault kind =
        table_serves held held (Err (device_note fault))
        (unread_due modes.Chances reply (λ c. Unit {0}) i held (Appends-nil held) (Appends-nil held) fault kind)

    module _ (input : List (List ℕ)) (lines : IfSome i (λ c. input ≡ input_lines c)) (old new : Option (List ℕ)) where
      on_lines : (result : Result ℕ Note) → Serves (chances_reply p input request.rules) old new (outcome_of result)
          → (c : List ℕ) → i ≡ Some c → Serves (reply c) old new (outcome_of result)
      on_lines result = at_lines (λ l. Serves (chances_reply p l request.rules) old new (outcome_of result)) input i
          lines

      table_written : Appends old new (due input) → ServesProgram modes.Chances request p i j old new (Ok 0)
      table_written all =
          table_serves old new (Ok 0)
          (all_due modes.Chances reply (λ c. Unit {0}) i old new
          (on_lines (Ok 0) (record { bytes = all; status = refl; note = refl })) tt)

      table_stopped : (note : Note) → Serves (chances_reply p input request.rules) old new (outcome_of (Err note))
          → SilentBy modes.Chances (Some note) old new → (IsErrOf {T = ℕ} (Err note) notes.InputUnread → ⊥)
          → (IsUnloaded (Some note) → ⊥) → ServesProgram modes.Chances request p i j old new (Err note)
      table_stopped note served quiet fine loaded =
          table_serves old new (Err note)
          (record {
            served = on_lines (Err note) served;
            quiet = quiet;
            stopped = λ _ _ _. inr tt;
            unread = λ x. absurd (fine x);
            success = tt;
            loaded = loaded;
          })

      table_refused : new ≡ old → ServesProgram modes.Chances request p i j old new (Err notes.OutOfMemory)
      table_refused kept =
          table_stopped notes.OutOfMemory (subst (λ n. TakesSome old n (due input)) (sym kept) (takes_nothing old _))
          (subst (λ n. Appends old n []) (sym kept) (Appends-nil old)) (λ x. absurd cc) (λ x. x)

      table_cut : TakesSome old new (due input)
          → ServesProgram modes.Chances request p i j old new (Err notes.Unwritten)
      table_cut some = table_stopped notes.Unwritten some tt (λ x. absurd cc) (λ x. x)

  module _ (input : List (List ℕ)) (old new : Option (List ℕ)) (broke breaks : ℕ) where
    pub chances_written : Appends old new (due input) → breaks ≡ broke
        → IsServedOn modes.Chances request p input
        (record { before = old; after = new; failed = broke; fails = breaks }) (Ok 0)
    chances_written all =
        all_written modes.Chances request p input (record { before = old; after = new; failed = broke; fails = breaks })
        (λ i j lines. table_written i j input lines old new all)

    broken_by : {T : Type 0} (fault : DeviceFault) → IsScreenFault fault
        → (IsErrOf {T = T} (Err fault) tables.Memory → new ≡ old)
        → (IsErrOf {T = T} (Err fault) tables.Write → TakesSome old new (due input))
        → (IsErrOf {T = T} (Err fault) tables.Write → HasFailed broke breaks)
        → ((IsErrOf {T = T} (Err fault) tables.Write → ⊥) → breaks ≡ broke)
        → IsServedOn modes.Chances request p input
        (record { before = old; after = new; failed = broke; fails = breaks }) (Err (device_note fault))
    broken_by tables.Memory kind kept some failed unfailed = record {
      serves = λ known left lines. table_refused known left input lines old new (kept refl);
      read = λ x. absurd cc;
      failures = record { unwritten = λ x. absurd cc; written = λ _. unfailed (λ x. absurd cc) };
      no_list = run_refuses_none (Err faults.Memory) (Err notes.OutOfMemory) refl;
    }
    broken_by tables.Write kind kept some failed unfailed = record {
      serves = λ known left lines. table_cut known left input lines old new (some refl);
      read = λ x. absurd cc;
      failures = record { unwritten = λ _. failed refl; written = λ x. absurd (x refl) };
      no_list = run_refuses_none (Err faults.Write) (Err notes.Unwritten) refl;
    }
    broken_by tables.Read kind kept some failed unfailed = absurd kind
    broken_by tables.TooLong kind kept some failed unfailed = absurd kind

    pub chances_broken : {T : Type 0} (result : Result ℕ Note) (fault : DeviceFault)
        → IsErrAnd result (λ m. m ≡ device_note fault)
        → IsScreenFault fault
        → (IsErrOf {T = T} (Err fault) tables.Memory → new ≡ old)
        → (IsErrOf {T = T} (Err fault) tables.Write → TakesSome old new (due input))
        → (IsErrOf {T = T} (Err fault) tables.Write → HasFailed broke breaks)
        → ((IsErrOf {T = T} (Err fault) tables.Write → ⊥) → breaks ≡ broke)
        → IsServedOn modes.Chances request p input
        (record { before = old; after = new; failed = broke; fails = breaks }) result
    chances_broken {T = T} result fault is kind kept some failed unfailed =
        subst (IsServedOn modes.Chances request p input (record {
          before = old;
          after = new;
          failed = broke;
          fails = breaks;
        })) (sym (gives_err result (device_note fault) is))
        (broken_by {T = T} fault kind kept some failed unfailed)
