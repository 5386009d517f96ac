-- This file joins all that is known of a listing of runs, by whether it was begun and written to its end.
-- Main lemmas: `listing_written` and `listing_broken`.
use Rattle.std.proofs.Common.{◌≡◌, ◌⊎◌, ℕ, List, Option, None, Some, Result, Ok}
use Rattle.std.proofs.Common.{Err, IfSome, IsErrOf, inl, inr, refl}
use Rattle.std.specs.Result.{IsErrAnd}
use Rattle.std.proofs.KnownBytes.{Appends-nil}
use Rattle.ptb_text.specs.Lines.{input_lines}
use Rattle.ptb_text.specs.Statements.{StoredProgram}
use Rattle.ptb_text.specs.declared.device_fault.DeviceFault.{DeviceFault}
use Rattle.ptb_devices.specs.Sources.{IsSourceFault}
use Rattle.ptb_machine.specs.Play.{play}
use Rattle.ptb_answers.specs.declared.form.Form.{Form}
use Rattle.ptb_answers.specs.declared.form.Marked.{Marked}
use Rattle.ptb_explore.specs.declared.fault.ExploreFault.{ExploreFault}
use Rattle.ptb_explore.specs.Explorations.{Exploration, exploration, play_of, most_of}
use Rattle.ptb_explore.specs.Listing.{WritesRuns}
use Rattle.ptb_explore.specs.Report.{report}
use Rattle.ptb_explore.specs.Openings.{first_front}
use Rattle.ptb_machine.specs.RunTree.{Front, runs_left}
use Rattle.ptb_options.specs.declared.request.Mode.{Mode}
use Rattle.ptb_options.specs.declared.request.Mode.TheVariants as modes
use Rattle.ptb_options.specs.declared.request.Request.{Request}
use Rattle.ptb_machine.specs.Streams.{Writes as Output}
use Rattle.ptb_serve.specs.declared.note.Note.{Note}
use Rattle.ptb_serve.specs.declared.note.Note.TheVariants as notes
use Rattle.ptb_explore.specs.declared.fault.OpenFault.{OpenFault}
use Rattle.ptb_explore.specs.declared.fault.OpenFault.TheVariants.{Memory, NoBeginning, NotARun}
use Rattle.ptb_serve.specs.declared.list_mismatch.ListMismatch.TheVariants.{Under, After}
use Rattle.ptb_serve.specs.ListMismatches.{IsUnstarted, mismatch_note, unstarted_attempt}
use Rattle.ptb_serve.specs.LoadedPrograms.{IsServedOn, ServesProgram, ReportsFailures}
use Rattle.ptb_serve.specs.Replies.{share_prefix, front_note}
use Rattle.ptb_serve.specs.ServedRequests.{ListsFewerOf, device_note, reports_note}
use Rattle.ptb_serve.proofs.ServedListings.{front_note-loaded, front_note-other, front_note-silent, lists_fewer}
use Rattle.ptb_serve.proofs.ServedListings.{runs_due, serves_front, serves_mode, serves_reports, serves_some}
use Rattle.ptb_serve.proofs.ServedPrograms.{at_known, lists_loaded, nothing_told, serves_loaded}
use Rattle.ptb_serve.proofs.WholeInput.{all_due, all_written, cut_due, IsDue, ReportsWriter}
use Rattle.ptb_serve.proofs.WholeInput.{cut_silent, reports_cut, unread_due}

module _ (request : Request) (p : StoredProgram) (memory : p.memory ≡ request.memory)
    (under after : Option (List Marked)) (first : Option ℕ) (form : Form) where
  abbrev listing : Mode
  listing = modes.All under after first form

  abbrev Fewer : Option (List ℕ) → Option (List ℕ) → List ℕ → Type 0
  Fewer old new c = ListsFewerOf p (input_lines c) request.rules under after first form old new

  module _ (i j : Option (List ℕ)) where
    listing_serves : (old new : Option (List ℕ)) (result : Result ℕ Note)
        → IsDue listing (λ c. runs_due request.rules under after first form c p) (Fewer old new) i old new result
        → ServesProgram listing request p i j old new result
    listing_serves old new result due =
        serves_mode listing (λ x. x) request p i j old new result
        (λ b c l is. serves_loaded request.memory (Some b) (runs_due request.rules under after first form c) p old new
        result l memory (due.served c is))
        (λ b. nothing_told i) (λ b. due.unread)
        (λ b c l is h. lists_loaded request b c p under after first form old new l memory (due.stopped c is h))
        due.quiet due.success due.loaded

    -- by the writer, which got nothing
    pub unread_listed : (held : Option (List ℕ)) (fault : DeviceFault) → IsSourceFault fault
        → ServesProgram listing request p i j held held (Err (device_note fault))
    unread_listed held fault kind =
        listing_serves held held (Err (device_note fault))
        (unread_due listing (λ c. runs_due request.rules under after first form c p) (Fewer held held) i held
        (Appends-nil held) tt fault kind)

    module _ (input : List (List ℕ)) (lines : IfSome i (λ c. input ≡ input_lines c)) where
      unstarted_listed : (held : Option (List ℕ)) (note : Note)
          → (note ≡ notes.OutOfMemory) ⊎ (front_note (play p input request.rules) under after ≡ Some note)
          → ServesProgram listing request p i j held held (Err note)
      unstarted_listed held note one =
          listing_serves held held (Err note)
          (record {
            served = λ c is. serves_front p request.rules under after first form held c input
                (at_known (λ d. input ≡ input_lines d) c is lines) note one;
            quiet = front_note-silent (play p input request.rules) under after first form held note one;
            stopped = λ _ _ _. inl (Appends-nil held);
            unread = λ _. Appends-nil held;
            success = tt;
            loaded = front_note-loaded (play p input request.rules) under after note one;
          })

  -- ---- they were read, and are `input`

  module _ (input : List (List ℕ)) where
    pub record IsListedOn (old new : Option (List ℕ)) (broke breaks : ℕ) (result : Result ℕ Note) : Type 0 where
      pub serves : (known left : Option (List ℕ)) → IfSome known (λ c. input ≡ input_lines c)
          → ServesProgram (modes.All under after first form) request p known left old new result
      pub read : IsErrOf result notes.InputUnread → ⊥
      pub failures : ReportsFailures broke breaks result

    -- no listing begins so
    unstarted_noted : (held : Option (List ℕ)) (broke : ℕ) (note : Note)
        → (note ≡ notes.OutOfMemory) ⊎ (front_note (play p input request.rules) under after ≡ Some note)
        → IsListedOn held held broke broke (Err note)
    unstarted_noted held broke note unstarted = record {
      serves = λ known left lines. unstarted_listed known left input lines held note unstarted;
      read =
          front_note-other (play p input request.rules) under after note notes.InputUnread unstarted (λ x. absurd cc)
          (λ x. absurd cc) (λ x. absurd cc);
      failures = record {
        unwritten = λ x. absurd (front_note-other (play p input request.rules) under after note notes.Unwritten
            unstarted
            (λ x. absurd cc) (λ x. absurd cc) (λ x. absurd cc) x);
        written = λ _. refl;
      };
    }

    pub listing_unstarted : (held : Option (List ℕ)) (broke : ℕ) (why : OpenFault)
        → IsUnstarted (play p input request.rules) under after why
        → IsListedOn held held broke broke (unstarted_attempt why).served
    listing_unstarted held broke (NoBeginning m) x = unstarted_noted held broke (mismatch_note (Under m)) (inr x.0)
    listing_unstarted held broke (NotARun m) x = unstarted_noted held broke (mismatch_note (After m)) (inr x.0)
    listing_unstarted held broke Memory x = unstarted_noted held broke notes.OutOfMemory (inl refl)

    -- an explorer continued from its front
    module _ (out : Output) (e : Exploration) (f : Front)
        (same : e ≡ exploration p input request.rules (share_prefix under) (first_front after) e.kept e.played)
        (begun : front_note (play p input request.rules) under after ≡ None) where
      abbrev Writes : Result ℕ ExploreFault → Type 0
      Writes result =
          WritesRuns (play_of e) e.prefix (report form (play_of e))
          (runs_left (play_of e) (most_of e) e.prefix e.front first) e.front f out.before out.after result

      -- some reports are written
      pub listing_broken : {T : Type 0} (result : Result ℕ Note) (fault : ExploreFault)
          → IsErrAnd result (λ n. n ≡ reports_note fault) → Writes (Err fault)
          → ReportsWriter T fault out.failed out.fails
          → IsServedOn listing request p input out result
      listing_broken {T = T} result fault is writes =
          reports_cut listing request p input out {T = T} result fault is
          (λ i j lines. listing_serves i j out.before out.after (Err (reports_note fault))
          (cut_due listing (λ c. runs_due request.rules under after first form c p) (Fewer out.before out.after) i
          out.before out.after fault
          (λ c is. serves_some p request.rules under after first form out.before out.after c input
          (at_known (λ d. input ≡ input_lines d) c is lines) e f same begun fault writes)
          (cut_silent listing out.before out.after tt tt fault)
          (λ c is. lists_fewer p request.rules under after first form out.before out.after c input
          (at_known (λ d. input ≡ input_lines d) c is lines) e f same begun fault writes)))

      -- all are
      pub listing_written : (n : ℕ) → Writes (Ok n) → out.fails ≡ out.failed
          → IsServedOn listing request p input out (Ok 0)
      listing_written n writes =
          all_written listing request p input out
          (λ i j lines. listing_serves i j out.before out.after (Ok 0)
          (all_due listing (λ c. runs_due request.rules under after first form c p) (Fewer out.before out.after) i
          out.before out.after
          (λ c is. serves_reports p request.rules under after first form out.before out.after c input
          (at_known (λ d. input ≡ input_lines d) c is lines) e f same begun n writes) tt))
