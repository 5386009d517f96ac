-- This file proves how a sample of runs is served, from what was read and what was written.
-- Main lemmas: `sample_written` and `sample_broken`.
use Rattle.std.proofs.Common.{◌≡◌, ◌∙◌, ℕ, List, length, take}
use Rattle.std.proofs.Common.{Option, Some, Result, Ok, Err, refl, ap, sym, subst, IsErrOf}
use Rattle.std.specs.Io.KnownBytes.{Appends}
use Rattle.std.specs.Result.{IsErrAnd}
use Rattle.std.proofs.KnownBytes.{Appends-nil}
use Rattle.std.proofs.Math.Seq.{take-append_seam}
use Rattle.ptb_text.specs.Lines.{input_lines}
use Rattle.ptb_text.specs.Statements.{StoredProgram}
use Rattle.ptb_answers.specs.Outcome.{Answers}
use Rattle.ptb_answers.specs.declared.form.Form.{Form}
use Rattle.ptb_text.specs.declared.device_fault.DeviceFault.{DeviceFault}
use Rattle.ptb_devices.specs.Sources.{IsSourceFault}
use Rattle.ptb_machine.specs.Play.{play}
use Rattle.ptb_machine.specs.Questions.{most_answers}
use Rattle.ptb_explore.specs.declared.fault.ExploreFault.{ExploreFault}
use Rattle.ptb_explore.specs.declared.fault.ExploreFault.TheVariants as explores
use Rattle.ptb_explore.specs.Listing.{text}
use Rattle.ptb_explore.specs.Report.{report}
use Rattle.ptb_explore.specs.Samples.{WritesSample}
use Rattle.ptb_options.specs.declared.request.Mode.{Mode}
use Rattle.ptb_options.specs.declared.request.Mode.TheVariants as modes
use Rattle.ptb_options.specs.declared.request.Request.{Request}
use Rattle.ptb_machine.proofs.PublicLemmas.{takes_prefix}
use Rattle.ptb_machine.specs.Streams.{Writes as Output}
use Rattle.ptb_serve.specs.declared.note.Note.{Note}
use Rattle.ptb_serve.specs.declared.note.Note.TheVariants as notes
use Rattle.ptb_serve.specs.LoadedPrograms.{IsServedOn, ServesProgram}
use Rattle.ptb_serve.specs.Replies.{Reply, runs_drawn, sample_reply}
use Rattle.ptb_serve.specs.ServedRequests.{SamplesFewerOf, Serves, device_note, outcome_of, reports_note}
use Rattle.ptb_serve.proofs.ServedListings.{below_both, serves_mode, text-prefix, text-into}
use Rattle.ptb_serve.proofs.ServedPrograms.{nothing_told, samples_loaded, serves_loaded}
use Rattle.ptb_serve.proofs.WholeInput.{all_due, all_written, at_lines, cut_due, cut_silent, IsDue, ReportsWriter}
use Rattle.ptb_serve.proofs.WholeInput.{reports_cut, unread_due}

-- ---- what was written

module _ (p : StoredProgram) (request : Request) (seed runs : ℕ) (form : Form) (input : List (List ℕ))
    (old new : Option (List ℕ)) where
  abbrev due : List Answers
  due = runs_drawn (play p input request.rules) (most_answers p input request.rules.limit) seed runs

  abbrev Writes : Result (Unit {0}) ExploreFault → Type 0
  Writes r = WritesSample (report form (play p input request.rules)) due old new r

  -- not all of the reports
  cut_served : (fault : ExploreFault) → Writes (Err fault)
      → Serves (sample_reply p input request.rules seed runs form) old new (outcome_of (Err (reports_note fault)))
  cut_served (explores.Memory n) w =
      takes_prefix old new _ _ w.bytes
      (text-prefix (report form (play p input request.rules)) due w.prefix w.rest w.split)
  cut_served (explores.Write n) w = takes_prefix old new _ _ w.bytes (text-into
      (report form (play p input request.rules)) due w.prefix w.at w.rest w.part w.remainder w.split w.cut)

  fewer_sampled : (fault : ExploreFault) → Writes (Err fault)
      → IsErrOf {T = ℕ} (Err (reports_note fault)) notes.OutOfMemory
      → SamplesFewerOf p input request.rules seed runs form old new
  fewer_sampled (explores.Memory n) w refused = record {
    count = length w.prefix;
    fewer = below_both w.prefix w.rest _ w.split w.some_left;
    bytes =
        subst (λ l. Appends old new (text (report form (play p input request.rules)) l))
        (sym (ap (take (length w.prefix)) w.split ∙ take-append_seam w.prefix w.rest)) w.bytes;
  }
  fewer_sampled (explores.Write n) w refused = absurd cc

-- ---- how it is served

module _ (request : Request) (p : StoredProgram) (memory : p.memory ≡ request.memory) (seed runs : ℕ)
    (form : Form) where
  abbrev sample : Mode
  sample = modes.Sample seed runs form

  abbrev reply : List ℕ → Reply
  reply c = sample_reply p (input_lines c) request.rules seed runs form

  abbrev Fewer : Option (List ℕ) → Option (List ℕ) → List ℕ → Type 0
  Fewer old new c = SamplesFewerOf p (input_lines c) request.rules seed runs form old new

  module _ (i j : Option (List ℕ)) where
    sample_serves : (old new : Option (List ℕ)) (result : Result ℕ Note)
        → IsDue sample reply (Fewer old new) i old new result → ServesProgram sample request p i j old new result
    sample_serves old new result due =
        serves_mode sample (λ x. x) request p i j old new result
        (λ b c l is. serves_loaded request.memory (Some b) (λ q. sample_reply q
        (input_lines c) request.rules seed runs form) p old new result l memory (due.served c is))
        (λ b. nothing_told i) (λ b. due.unread)
        (λ b c l is h. samples_loaded request b c p seed runs form old new l memory (due.stopped c is h))
        due.quiet due.success due.loaded

    -- the lines can't be read
    pub unread_sampled : (held : Option (List ℕ)) (fault : DeviceFault) → IsSourceFault fault
        → ServesProgram sample request p i j held held (Err (device_note fault))
    unread_sampled held fault kind =
        sample_serves held held _ (unread_due sample reply (Fewer held held) i held (Appends-nil held) tt fault kind)

  -- they were read, and are `input`
  module _ (input : List (List ℕ)) (out : Output) where
    pub sample_written : Writes p request seed runs form input out.before out.after (Ok tt) → out.fails ≡ out.failed
        → IsServedOn sample request p input out (Ok 0)
    sample_written w =
        all_written sample request p input out
        (λ i j lines. sample_serves i j out.before out.after (Ok 0) (all_due sample reply (Fewer out.before out.after)
        i out.before out.after
        (at_lines (λ l. Serves (sample_reply p l request.rules seed runs form) out.before out.after (outcome_of (Ok
        0))) input i
        lines (record { bytes = w; status = refl; note = refl })) tt))

    pub sample_broken : {T : Type 0} (result : Result ℕ Note) (fault : ExploreFault)
        → IsErrAnd result (λ n. n ≡ reports_note fault) → Writes p request seed runs form input out.before out.after
        (Err fault)
        → ReportsWriter T fault out.failed out.fails
        → IsServedOn sample request p input out result
    sample_broken {T = T} result fault is w =
        reports_cut sample request p input out {T = T} result fault is
        (λ i j lines. sample_serves i j out.before out.after (Err (reports_note fault))
        (cut_due sample reply (Fewer out.before out.after) i out.before out.after fault
        (at_lines (λ l. Serves (sample_reply p l request.rules seed runs form) out.before out.after
        (outcome_of (Err (reports_note fault)))) input i lines
        (cut_served p request seed runs form input out.before out.after fault w))
        (cut_silent sample out.before out.after tt tt fault)
        (λ c is refused. at_lines (λ l. SamplesFewerOf p l request.rules seed runs form out.before out.after) input i
        lines
        (fewer_sampled p request seed runs form input out.before out.after fault w refused) c is)))
