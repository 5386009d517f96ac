-- This file proves how a program's text and the mistakes in it are served, from what was written of them.
-- Main lemmas: `check_written` and `check_broken`.
use Rattle.std.proofs.Common.{◌≡◌, ◌∙◌, ℕ, ◌≤◌, Bool, List, Option, Some, Result, Ok, Err}
use Rattle.std.proofs.Common.{IsErrOf, ap, sym, subst, refl, arith}
use Rattle.std.specs.Result.{IsErrAnd}
use Rattle.std.proofs.lemmas.Result.{err_from_is_err_and}
use Rattle.std.specs.Io.KnownBytes.{Appends}
use Rattle.ptb_text.specs.Device.{HasFailed, TakesSome}
use Rattle.ptb_text.specs.Statements.{StoredProgram, listing}
use Rattle.ptb_text.specs.declared.device_fault.DeviceFault.{DeviceFault}
use Rattle.ptb_text.specs.declared.device_fault.DeviceFault.TheVariants as devices
use Rattle.ptb_check.specs.Mistakes.{mistakes}
use Rattle.ptb_check.specs.WrittenMistakes.{WritesMistakes}
use Rattle.ptb_machine.specs.declared.fault.RunFault.TheVariants as faults
use Rattle.ptb_machine.specs.Streams.{Writes}
use Rattle.ptb_options.specs.declared.request.Mode.{Mode}
use Rattle.ptb_options.specs.declared.request.Mode.TheVariants as modes
use Rattle.ptb_options.specs.declared.request.Request.{Request}
use Rattle.ptb_serve.specs.declared.note.Note.{Note}
use Rattle.ptb_serve.specs.declared.note.Note.TheVariants as notes
use Rattle.ptb_serve.specs.LoadedPrograms.{IsServedUnread, ServesProgram}
use Rattle.ptb_serve.specs.Replies.{check_reply, check_status}
use Rattle.ptb_serve.specs.ServedRequests.{device_note}
use Rattle.ptb_serve.proofs.ServedListings.{text_serves}
use Rattle.ptb_serve.proofs.Mismatches.{run_refuses_none, success_refuses_none}
use Rattle.ptb_serve.proofs.ServedPrograms.{nothing_told, serves_loaded}

module _ (request : Request) (p : StoredProgram) (memory : p.memory ≡ request.memory)
    (old new known : Option (List ℕ)) where
  pub mistakes_served : (any : Bool) (n : ℕ) → n ≡ check_status any → WritesMistakes (mistakes p.lines) old new (Ok any)
      → n ≤ 1 → ServesProgram modes.Check request p known known old new (Ok n)
  mistakes_served any n is written within = record {
    served =
        λ b c l _. serves_loaded request.memory (Some b) check_reply p old new (Ok n) l memory
        (record { bytes = written.ok; status = is ∙ ap check_status written.any; note = refl });
    taken = λ b l. nothing_told known;
    unread = λ b l x. absurd cc;
    silent = tt;
    stopped = λ b c _ _ _. tt;
    status = omega (arith, within);
    success = λ _ x. absurd (x tt);
    checked = λ _. within;
    loaded = λ x. x;
  }

  pub mistakes_unwritten : (fault : DeviceFault) → WritesMistakes (mistakes p.lines) old new (Err fault)
      → ServesProgram modes.Check request p known known old new (Err notes.Unwritten)
  mistakes_unwritten fault written = record {
    served =
        λ b c l _. serves_loaded request.memory (Some b) check_reply p old new
        (Err notes.Unwritten) l memory written.fault;
    taken = λ b l. nothing_told known;
    unread = λ b l x. absurd cc;
    silent = tt;
    stopped = λ b c _ _ _. tt;
    status = tt;
    success = λ _ _. tt;
    checked = λ _. tt;
    loaded = λ x. x;
  }

-- ---- all that is due

module _ (p : StoredProgram) (out : Writes) where
  pub check_written : (any : Bool) (n : ℕ) → n ≡ check_status any → n ≤ 1
      → WritesMistakes (mistakes p.lines) out.before out.after (Ok any) → out.fails ≡ out.failed
      → IsServedUnread modes.Check p out (Ok n)
  check_written any n is within written unfailed = record {
    serves =
        λ request memory known. mistakes_served request p memory out.before out.after known any n is written within;
    read = λ x. absurd cc;
    failures = record { unwritten = λ x. absurd cc; written = λ _. unfailed };
    no_list = success_refuses_none n;
  }

  -- a note that the writer failed
  unwritten : (result : Result ℕ Note) (fault : DeviceFault) → IsErrAnd result (λ note. note ≡ device_note fault)
      → fault ≡ devices.Write → (mode : Mode)
      → ((request : Request) → p.memory ≡ request.memory → (known : Option (List ℕ))
      → ServesProgram mode request p known known out.before out.after (Err notes.Unwritten))
      → HasFailed out.failed out.fails → IsServedUnread mode p out result
  unwritten result fault noted kind mode serves has_failed =
      let e = err_from_is_err_and result noted in
      subst (IsServedUnread mode p out) (sym (e.1 ∙ ap Err (e.2 ∙ ap device_note kind)))
      (record {
        serves = serves;
        read = λ x. absurd cc;
        failures = record { unwritten = λ _. has_failed; written = λ x. absurd (x refl) };
        no_list = run_refuses_none (Err faults.Write) (Err notes.Unwritten) refl;
      })

  pub check_broken : (result : Result ℕ Note) (fault : DeviceFault) → IsErrAnd result (λ note. note ≡ device_note fault)
      → fault ≡ devices.Write → WritesMistakes (mistakes p.lines) out.before out.after (Err fault)
      → HasFailed out.failed out.fails → IsServedUnread modes.Check p out result
  check_broken result fault noted kind written =
      unwritten result fault noted kind modes.Check
      (λ request memory known. mistakes_unwritten request p memory out.before out.after known fault written)

  -- ---- a listing of the program's text

  pub text_written : Appends out.before out.after (listing p.lines) → out.fails ≡ out.failed
      → IsServedUnread modes.List p out (Ok 0)
  text_written all unfailed = record {
    serves = λ request memory known. text_serves request p memory known (Ok 0) (λ x. absurd cc) out.before out.after
        (record { bytes = all; status = refl; note = refl }) tt refl (λ x. x);
    read = λ x. absurd cc;
    failures = record { unwritten = λ x. absurd cc; written = λ _. unfailed };
    no_list = success_refuses_none 0;
  }

  pub text_broken : (result : Result ℕ Note) (fault : DeviceFault) → IsErrAnd result (λ note. note ≡ device_note fault)
      → fault ≡ devices.Write → TakesSome out.before out.after (listing p.lines)
      → HasFailed out.failed out.fails → IsServedUnread modes.List p out result
  text_broken result fault noted kind some =
      unwritten result fault noted kind modes.List
      (λ request memory known. text_serves request p memory known (Err notes.Unwritten) (λ x. absurd cc) out.before
      out.after some tt tt (λ x. x))
