-- This file joins all that is promised of a request that was served, by whether its program was loaded.
-- Main lemmas: `told_loaded` and `told_unloaded`.
use Rattle.std.proofs.Common.{◌≡◌, inl, inr, ℕ, ◌+◌, ◌<◌, List, length, Option, Some, None, Result}
use Rattle.std.proofs.Common.{Ok, Err, IfOk, IfSome, refl, sym, subst, ◌∙◌, ap, arith}
use Rattle.ptb_text.specs.declared.fault.LoadFault.{LoadFault}
use Rattle.ptb_text.specs.declared.fault.LoadFault.TheVariants as loads
use Rattle.ptb_text.specs.Device.{GivesAtMost, GivesExactly, HasFailed}
use Rattle.ptb_text.specs.EnteredLines.{IsLineFault}
use Rattle.ptb_text.specs.Lines.{input_lines}
use Rattle.ptb_text.specs.ProgramTexts.{IsLoaded, IsRefusedAt}
use Rattle.ptb_text.specs.Statements.{Statements, StoredProgram, program_limit}
use Rattle.ptb_devices.specs.Sources.{ConsumesAtMost}
use Rattle.ptb_options.specs.declared.request.Request.{Request}
use Rattle.ptb_machine.specs.Streams.{Reads, Writes}
use Rattle.ptb_serve.specs.declared.list_mismatch.ListMismatch.{ListMismatch}
use Rattle.ptb_serve.specs.declared.note.Note.{Note}
use Rattle.ptb_serve.specs.declared.note.Note.TheVariants as notes
use Rattle.ptb_serve.specs.declared.service.Outcome.{Outcome}
use Rattle.ptb_serve.specs.LoadedPrograms.{ServesProgram, ReadsInput, ReportsFailures, ReportsLine, ReportsMismatch}
use Rattle.ptb_serve.specs.LoadedPrograms.{line_in_mode}
use Rattle.ptb_serve.specs.ListMismatches.{IsMismatchOf}
use Rattle.ptb_serve.specs.Promises.{Served, ReadsOnlyWhatIsAsked, FailsLoudly}
use Rattle.ptb_serve.specs.Replies.{listing_reply, program_of_text, program_reply_in_mode, reply_in_mode}
use Rattle.ptb_serve.specs.ServedRequests.{IsUnloaded, NeedsInput, ReadsForRun, Serves, ServesUnread}
use Rattle.ptb_serve.specs.ServedRequests.{StopsForMemory, load_note, outcome_of}
use Rattle.ptb_serve.proofs.Lines.{line_loaded, note_beyond, served_at_limit, status_at_limit}
use Rattle.ptb_serve.proofs.Mismatches.{mismatch_loaded, noted_outcome, said_outcome}
use Rattle.ptb_serve.proofs.ServedPrograms.{consumes_nothing, each_known, load_note-length, load_note-other}
use Rattle.ptb_serve.proofs.ServedPrograms.{load_note-read, load_note-refusal, load_note-silent}
use Rattle.ptb_serve.proofs.ServedPrograms.{load_note-unread, loaded_length, loaded_refusal}
use Rattle.ptb_serve.proofs.ServedPrograms.{loaded_unrefused, outcome_of-err, outcome_of-none}
use Rattle.ptb_serve.proofs.ServedPrograms.{outcome_of-note, outcome_of-status, outcome_of-checked}
use Rattle.ptb_serve.proofs.ServedPrograms.{outcome_of-success, serves_refusal, serves_unloaded}
use Rattle.ptb_serve.proofs.ServedPrograms.{stops_unloaded, takes_nothing_in, unread, unwritten}
use Rattle.ptb_serve.proofs.ServedPrograms.{when_refused}

-- without a mismatch nothing is said of any program
nothing_said : (memory : ℕ) (known : Option (List ℕ))
    → IfSome known (λ b. IfOk (program_of_text memory b) (λ _. Unit {0}))
nothing_said memory None = tt
nothing_said memory (Some b) = by_text (program_of_text memory b) where
  by_text : (t : Result Statements (ℕ × LoadFault)) → IfOk t (λ _. Unit {0})
  by_text (Ok p) = tt
  by_text (Err e) = tt

pub record Told {P R : Type 0} (request : Request) (text : Reads P) (input : Reads R) (out : Writes)
    (outcome : Outcome) : Type 0 where
  pub served : Served request text input out outcome
  pub reads : ReadsOnlyWhatIsAsked request text input outcome
  pub fails : FailsLoudly text input out outcome

module _ {P R : Type 0} (request : Request) (text : Reads P) (consumed : ConsumesAtMost text.bytes text.left
    (program_limit + 1)) (given : GivesAtMost text.gave text.gives (program_limit + 1)) where
  -- the program p was loaded
  pub told_loaded : (input : Reads R) (out : Writes) (outcome : Outcome) (result : Result ℕ Note)
      (mismatch : Option ListMismatch) (line : Option ℕ) (p : StoredProgram)
      → outcome ≡ record (outcome_of result) { mismatch = mismatch; line = line } → p.memory ≡ request.memory
      → IfSome text.bytes (λ b. IsLoaded request.memory b p.lines) → text.fails ≡ text.failed
      → ServesProgram request.mode request p input.bytes input.left out.before out.after result
      → ReadsInput request.mode input.bytes input.left input.failed input.fails input.gave input.gives result
      → ReportsFailures out.failed out.fails result
      → ReportsMismatch request.mode request p input.bytes result mismatch
      → ReportsLine request.mode request p input.bytes result line
      → ((NeedsInput request.mode → ⊥) → input.new ≡ input.old)
      → Told request text input out outcome
  told_loaded input out outcome result mismatch line p is memory loaded unfailed serves reads tells said stopped kept =
      subst (Told request text input out) (sym is)
      (record {
        served = record {
          reply =
              λ c i. each_known (λ b. IsLoaded request.memory b p.lines)
              (λ b. Serves (reply_in_mode request.mode request b c) out.before out.after (outcome_of result)) text.bytes
              (λ b l. serves.served b c l i) loaded;
          refusal = loaded_unrefused request.memory text.bytes p.lines _ loaded;
          refused_at = loaded_refusal request.memory text.bytes (outcome_of result).note serves.loaded;
          status = outcome_of-status result serves.status;
          success = λ h k. outcome_of-success result (serves.success h k);
          checked = λ h. outcome_of-checked result (serves.checked h);
          silent = serves.silent;
          stopped =
              λ h c i. each_known (λ b. IsLoaded request.memory b p.lines)
              (λ b. StopsForMemory request.mode request b c out.before out.after) text.bytes
              (λ b l. serves.stopped b c l i (outcome_of-note result notes.OutOfMemory h)) loaded;
          mismatch_said = said_outcome result mismatch said.said;
          mismatch_noted = noted_outcome result mismatch said.noted;
          mismatch = λ c i.
              each_known (λ b. IsLoaded request.memory b p.lines)
              (λ b. IfOk (program_of_text request.memory b) (λ q. IfSome mismatch (IsMismatchOf request.mode
              (record { lines = q; memory = request.memory }) (input_lines c) request.rules)))
              text.bytes
              (λ b l. mismatch_loaded request.mode request b c p mismatch l memory (said.fits c i)) loaded;
          line = λ h c i.
              each_known (λ b. IsLoaded request.memory b p.lines)
              (λ b. IfOk (program_of_text request.memory b) (λ q. line ≡ line_in_mode request.mode
              (record { lines = q; memory = request.memory }) (input_lines c) request.rules)) text.bytes
              (λ b l. line_loaded request.mode request b (input_lines c) p line l memory
              (stopped.at_limit (served_at_limit result h) c i)) loaded;
          no_line = λ h. stopped.elsewhere (λ e. h (status_at_limit result e));
          unread =
              λ h. each_known (λ b. IsLoaded request.memory b p.lines)
              (λ b. ServesUnread request.mode request input.bytes input.left b out.before out.after) text.bytes
              (λ b l. serves.unread b l (outcome_of-note result notes.InputUnread h)) loaded;
        };
        reads = record {
          load_first = loaded_unrefused request.memory text.bytes p.lines _ loaded;
          unloaded = λ h. absurd (serves.loaded h);
          unneeded = λ h. (kept h, λ e. reads.unneeded h (outcome_of-note result notes.InputUnread e));
          for_run = each_known (λ b. IsLoaded request.memory b p.lines) (λ b. IfSome input.bytes (λ c. ReadsForRun
              request.mode request b c input.left (outcome_of result))) text.bytes serves.taken loaded;
          run_within = λ h. outcome_of-none result _ (reads.taken_within h);
          whole_within = λ h. outcome_of-none result _ (reads.within h);
          no_beginning_within = λ h. reads.no_beginning_within (outcome_of-note result notes.NoBeginning h);
          no_run_within = λ h. reads.no_run_within (outcome_of-note result notes.NoRun h);
          text_consumed = consumed;
          text_given = given;
          input_consumed = reads.bounded;
          input_given = reads.given;
        };
        fails = record {
          text_failed = λ h. absurd (serves.loaded (subst IsUnloaded (sym h) tt));
          text_unfailed = λ _. unfailed;
          text_too_long = loaded_length text.gave text.gives (outcome_of result).note serves.loaded;
          input_failed = λ h. reads.unread (outcome_of-note result notes.InputUnread h);
          input_unfailed = λ h. reads.read (λ e. h (outcome_of-err result notes.InputUnread e));
          input_too_long = λ h. reads.failed_or_given (outcome_of-note result notes.InputUnread h);
          out_failed = λ h. tells.unwritten (outcome_of-note result notes.Unwritten h);
          out_unfailed = λ h. tells.written (λ e. h (outcome_of-err result notes.Unwritten e));
        };
      })

  -- it wasn't, for the reason e: the input and the writer are as they were
  pub told_unloaded : (i : R) (known : Option (List ℕ)) (gave failed : ℕ) (held : Option (List ℕ)) (broke : ℕ)
      (outcome : Outcome) (note : Note) (e : ℕ × LoadFault)
      → outcome ≡ outcome_of (Err note) → note ≡ load_note e
      → (IsLineFault e.1 → IfSome text.bytes (λ b. IsRefusedAt request.memory b e))
      → (e.1 ≡ loads.TooLong → (e.0 ≡ 0) × IfSome text.bytes (λ b. program_limit < length b))
      → (e.1 ≡ loads.TooLong → GivesExactly text.gave text.gives (program_limit + 1))
      → (e.1 ≡ loads.Read → (e.0 ≡ 0) × HasFailed text.failed text.fails)
      → ((e.1 ≡ loads.Read → ⊥) → text.fails ≡ text.failed)
      → Told request text (unread i known gave failed) (unwritten held broke) outcome
  told_unloaded i known gave failed held broke outcome note e is noted refused too_long given_too_long read unfailed =
      let other : (n : Note) → (IsUnloaded (Some n) → ⊥) → (n ≡ notes.OutOfMemory → ⊥) → Some (load_note e) ≡ Some n
      → ⊥ = load_note-other e in
      let no_input : Some (load_note e) ≡ Some notes.InputUnread
      → ⊥ = other notes.InputUnread (λ x. x) (λ x. absurd cc) in
      subst (Told request text (unread i known gave failed) (unwritten held broke))
      (sym (is ∙ ap (λ (n : Note). outcome_of (Err n)) noted))
      (record {
        served = record {
          reply =
              λ c _. serves_unloaded request.memory text.bytes
              (program_reply_in_mode request.mode request.rules c) held e refused too_long;
          refusal =
              serves_refusal request.memory text.bytes listing_reply held held (Err (load_note e))
              (serves_unloaded request.memory text.bytes listing_reply held e refused too_long);
          refused_at = load_note-refusal request.memory text.bytes e refused too_long;
          status = refl;
          success = λ _ _ h. absurd cc;
          checked = λ _ h. absurd cc;
          silent = load_note-silent request.mode held e;
          stopped = λ _ c _. stops_unloaded request.mode request text.bytes c held;
          mismatch_said = λ h. absurd (elim h [
            | inl x ↦ other notes.NoBeginning (λ u. u) (λ y. absurd cc) x
            | inr x ↦ other notes.NoRun (λ u. u) (λ y. absurd cc) x
          ]);
          unread = λ h. absurd (no_input h);
          mismatch_noted = tt;
          mismatch = λ c _. nothing_said request.memory text.bytes;
          line = λ h _ _. absurd (note_beyond (load_note e) h);
          no_line = λ _. refl;
        };
        reads = record {
          load_first = when_refused request.memory text.bytes _ (refl, no_input);
          unloaded = λ _. refl;
          unneeded = λ _. (refl, no_input);
          for_run = takes_nothing_in request.mode request text.bytes known (outcome_of (Err (load_note e)));
          run_within = λ _ h. absurd cc;
          whole_within = λ _ h. absurd cc;
          no_beginning_within = λ h. absurd (other notes.NoBeginning (λ x. x) (λ x. absurd cc) h);
          no_run_within = λ h. absurd (other notes.NoRun (λ x. x) (λ x. absurd cc) h);
          text_consumed = consumed;
          text_given = given;
          input_consumed = consumes_nothing known _;
          input_given = (omega arith, omega arith);
        };
        fails = record {
          text_failed = λ h. (read (load_note-unread e h)).1;
          text_unfailed = λ h. unfailed (λ r. h (load_note-read e r));
          text_too_long = load_note-length text.gave text.gives e given_too_long;
          input_failed = λ h. absurd (no_input h);
          input_unfailed = λ _. refl;
          input_too_long = λ h. absurd (no_input h);
          out_failed = λ h. absurd (other notes.Unwritten (λ x. x) (λ x. absurd cc) h);
          out_unfailed = λ _. refl;
        };
      })
