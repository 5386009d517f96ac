-- This file proves how a listing of all runs is served, from where it began and what was written.
-- Main lemmas: `serves_reports` and `serves_some`.
use Rattle.std.proofs.Common.{◌≡◌, ℕ, ◌+◌, ◌<◌, ◌≤◌, ◌⊎◌, inl, inr, List, [], ◌∷◌, ◌++◌, length}
use Rattle.std.proofs.Common.{take, Option, Some, None, Result, Ok, Err, refl, ap, sym, ◌∙◌, subst}
use Rattle.std.proofs.Common.{append_assoc, arith, IfOk, IfSome, IsErrOf, OnOk}
use Rattle.std.specs.Io.KnownBytes.{Appends}
use Rattle.std.proofs.KnownBytes.{Appends-nil}
use Rattle.std.proofs.Math.Seq.{take-append_seam}
use Rattle.std.proofs.lemmas.List.{length-append}
use Rattle.std.proofs.lemmas.List.Concat.{flat_map-append}
use Rattle.ptb_text.specs.Device.{GivesAtMost, GivesExactly, HasFailed, TakesSome}
use Rattle.ptb_text.specs.Lines.{input_lines}
use Rattle.ptb_text.specs.ProgramTexts.{IsLoaded}
use Rattle.ptb_text.specs.Statements.{StoredProgram}
use Rattle.ptb_answers.specs.Outcome.{Answers, Outcome}
use Rattle.ptb_text.specs.declared.device_fault.DeviceFault.{DeviceFault}
use Rattle.ptb_text.specs.declared.device_fault.DeviceFault.TheVariants as reads
use Rattle.ptb_devices.specs.Sources.{IsSourceFault}
use Rattle.ptb_devices.specs.Sources.{ConsumesAtMost}
use Rattle.ptb_command.specs.Effects.{Begins}
use Rattle.ptb_answers.specs.declared.rules.Rules.{Rules}
use Rattle.ptb_machine.specs.Play.{Finish, play}
use Rattle.ptb_machine.specs.Questions.{most_answers}
use Rattle.ptb_explore.specs.declared.fault.ExploreFault.{ExploreFault}
use Rattle.ptb_explore.specs.declared.fault.ExploreFault.TheVariants as explores
use Rattle.ptb_answers.specs.declared.form.Form.{Form}
use Rattle.ptb_answers.specs.declared.form.Marked.{Marked}
use Rattle.ptb_explore.specs.Explorations.{Exploration, exploration, play_of, most_of}
use Rattle.ptb_explore.specs.Listing.{text, WritesRuns}
use Rattle.ptb_explore.specs.Report.{report}
use Rattle.ptb_explore.specs.Openings.{first_front}
use Rattle.ptb_machine.specs.RunTree.{Front, runs_left}
use Rattle.ptb_serve.specs.declared.note.Note.{Note}
use Rattle.ptb_serve.specs.declared.note.Note.TheVariants as notes
use Rattle.ptb_options.specs.declared.request.Mode.{Mode}
use Rattle.ptb_options.specs.declared.request.Mode.TheVariants as modes
use Rattle.ptb_options.specs.declared.request.Request.{Request}
use Rattle.ptb_serve.specs.LoadedPrograms.{ReadsInput, RefusesListIn, ServesProgram}
use Rattle.ptb_machine.specs.PlainRuns.{IsUnreadable, input_limit}
use Rattle.ptb_serve.specs.Replies.{Reply, refusal, reply_with, share_prefix, front_note}
use Rattle.ptb_serve.specs.Replies.{is_front, begins_runs, listed_runs, listing_reply, runs_reply}
use Rattle.ptb_serve.specs.Replies.{all_reply, reply_in_mode}
use Rattle.ptb_serve.specs.ServedRequests.{outcome_of, device_note, reports_note, IsPlainRun, IsUnloaded}
use Rattle.ptb_serve.specs.ServedRequests.{IsCheck, IsInput, ListsFewerOf, NeedsInput, NeedsWholeInput, ReadsForRun}
use Rattle.ptb_serve.specs.ServedRequests.{Serves, ServesUnread, SilentBy, StopsForMemory}
use Rattle.ptb_serve.proofs.Fronts.{note_is}
use Rattle.ptb_machine.proofs.PublicLemmas.{takes_prefix}
use Rattle.ptb_serve.proofs.ServedPrograms.{consumes_nothing, nothing_told}
use Rattle.ptb_serve.proofs.ServedPrograms.{serves_loaded, takes_nothing, replies_refusal}

-- ---- nothing was written but the front of what is due

module _ (report : Answers → List ℕ) where
  pub text-prefix : (list done rest : List Answers) → list ≡ done ++ rest
      → Begins (text report done) (text report list)
  text-prefix list done rest e = (text report rest, ap (text report) e ∙ flat_map-append report done rest)

  pub text-into : (list done : List Answers) (at : Answers) (rest : List Answers) (part unwritten : List ℕ)
      → list ≡ done ++ at ∷ rest → report at ≡ part ++ unwritten → Begins (text report done ++ part) (text report list)
  text-into list done at rest part unwritten e cut =
      let next : text report (at ∷ rest) ≡ part ++ (unwritten ++ text report rest) =
      ap (λ r. r ++ text report rest) cut ∙ append_assoc part unwritten (text report rest) in (
        unwritten ++ text report rest,
        ap (text report) e ∙ flat_map-append report done (at ∷ rest) ∙ ap (λ x. text report done ++ x) next
            ∙ sym (append_assoc (text report done) part (unwritten ++ text report rest)),
      )

-- what comes before something is shorter than both
pub below_both : (prefix rest list : List Answers) → list ≡ prefix ++ rest → (rest ≡ [] → ⊥)
    → length prefix < length list
below_both prefix [] list e some = absurd (some refl)
below_both prefix (a ∷ rest) list e some = let l = length-append prefix (a ∷ rest) in rw e (omega (arith, l))

-- ---- the notes

-- of an input that isn't read, where a listing was to begin isn't noted
pub device_note-start : (fault : DeviceFault) → IsErrOf {T = ℕ} (Err (device_note fault)) notes.NoRun → ⊥
device_note-start reads.Read h = absurd cc
device_note-start reads.TooLong h = absurd cc
device_note-start reads.Write h = absurd cc
device_note-start reads.Memory h = absurd cc

pub device_note-beginning : (fault : DeviceFault) → IsErrOf {T = ℕ} (Err (device_note fault)) notes.NoBeginning → ⊥
device_note-beginning reads.Read h = absurd cc
device_note-beginning reads.TooLong h = absurd cc
device_note-beginning reads.Write h = absurd cc
device_note-beginning reads.Memory h = absurd cc

-- the note has the fault that came
pub device_note-read : {T : Type 0} (fault : DeviceFault)
    → (IsErrOf {T = ℕ} (Err (device_note fault)) notes.InputUnread → ⊥)
    → IsErrOf {T = T} (Err fault) reads.Read → ⊥
device_note-read reads.Read h e = h refl
device_note-read reads.TooLong h e = absurd cc
device_note-read reads.Write h e = absurd cc
device_note-read reads.Memory h e = absurd cc

pub device_note-loaded : (fault : DeviceFault) → IsUnloaded (Some (device_note fault)) → ⊥
device_note-loaded reads.Read h = h
device_note-loaded reads.TooLong h = h
device_note-loaded reads.Write h = h
device_note-loaded reads.Memory h = h

module _ (game : Answers → Outcome Finish (List ℕ)) (under after : Option (List Marked)) where
  pub front_note-loaded : (note : Note) → (note ≡ notes.OutOfMemory) ⊎ (front_note game under after ≡ Some note)
      → IsUnloaded (Some note) → ⊥
  front_note-loaded note (inl e) h = subst (λ m. IsUnloaded (Some m)) e h
  front_note-loaded note (inr e) h =
      elim (note_is (begins_runs game under) (is_front game (share_prefix under) after) note e) [
        | inl b ↦ subst (λ m. IsUnloaded (Some m)) b h
        | inr b ↦ subst (λ m. IsUnloaded (Some m)) b h
      ]

  -- a note about a listing that isn't started says nothing else
  pub front_note-other : (note other : Note) → (note ≡ notes.OutOfMemory) ⊎ (front_note game under after ≡ Some note)
      → (other ≡ notes.OutOfMemory → ⊥) → (other ≡ notes.NoBeginning → ⊥) → (other ≡ notes.NoRun → ⊥)
      → IsErrOf {T = ℕ} (Err note) other → ⊥
  front_note-other note other (inl e) memory beginning run h = memory cc
  front_note-other note other (inr e) memory beginning run h =
      elim (note_is (begins_runs game under) (is_front game (share_prefix under) after) note e) [
        | inl b ↦ beginning cc
        | inr b ↦ run cc
      ]

  pub front_note-silent : (first : Option ℕ) (form : Form) (held : Option (List ℕ)) (note : Note)
      → (note ≡ notes.OutOfMemory) ⊎ (front_note game under after ≡ Some note)
      → SilentBy (modes.All under after first form) (Some note) held held
  front_note-silent first form held note (inl e) =
      subst (λ m. SilentBy (modes.All under after first form) (Some m) held held) (sym e) tt
  front_note-silent first form held note (inr e) =
      elim (note_is (begins_runs game under) (is_front game (share_prefix under) after) note e) [
        | inl b ↦ subst (λ m. SilentBy (modes.All under after first form) (Some m) held held) (sym b) (Appends-nil held)
        | inr b ↦ subst (λ m. SilentBy (modes.All under after first form) (Some m) held held) (sym b) (Appends-nil held)
      ]

pub reports_note-loaded : (fault : ExploreFault) → IsUnloaded (Some (reports_note fault)) → ⊥
reports_note-loaded (explores.Memory n) h = h
reports_note-loaded (explores.Write n) h = h

pub reports_note-failed : {T P : Type 0} (fault : ExploreFault)
    → ((n : ℕ) → IsErrOf {T = T} (Err fault) (explores.Write n) → P)
    → IsErrOf {T = ℕ} (Err (reports_note fault)) notes.Unwritten → P
reports_note-failed (explores.Memory m) h e = absurd cc
reports_note-failed (explores.Write m) h e = h m refl

pub reports_note-write : {T : Type 0} (fault : ExploreFault)
    → (IsErrOf {T = ℕ} (Err (reports_note fault)) notes.Unwritten → ⊥)
    → (n : ℕ) → IsErrOf {T = T} (Err fault) (explores.Write n) → ⊥
reports_note-write (explores.Memory m) h n e = absurd cc
reports_note-write (explores.Write m) h n e = h refl

-- nothing was written where the input isn't read
pub device_note-written : (fault : DeviceFault) → IsSourceFault fault
    → IsErrOf {T = ℕ} (Err (device_note fault)) notes.Unwritten → ⊥
device_note-written reads.Read kind h = absurd cc
device_note-written reads.TooLong kind h = absurd cc
device_note-written reads.Write kind h = absurd kind
device_note-written reads.Memory kind h = absurd cc

pub reports_note-read : (fault : ExploreFault) → IsErrOf {T = ℕ} (Err (reports_note fault)) notes.InputUnread → ⊥
reports_note-read (explores.Memory n) h = absurd cc
reports_note-read (explores.Write n) h = absurd cc

-- ---- the replies

-- the reply of a program, by the bytes of its input
abbrev pub runs_due : Rules → Option (List Marked) → Option (List Marked) → Option ℕ → Form → List ℕ → StoredProgram
    → Reply
runs_due rules under after first form c p = all_reply p (input_lines c) rules under after first form

module _ (p : StoredProgram) (rules : Rules) (under after : Option (List Marked)) (first : Option ℕ) (form : Form) where
  abbrev game : List (List ℕ) → Answers → Outcome Finish (List ℕ)
  game input = play p input rules

  abbrev reply : List (List ℕ) → Reply
  reply input = all_reply p input rules under after first form

  abbrev due : List (List ℕ) → List ℕ
  due input = listed_runs (game input) (most_answers p input rules.limit) under after first form

  pub reply-listed : (input : List (List ℕ)) → front_note (game input) under after ≡ None
      → reply input ≡ reply_with (due input)
  unfolding runs_reply
  reply-listed input h = ap (λ (o : Option Note). elim o [ None ↦ reply_with (due input) | Some note ↦ refusal note ]) h

  pub reply-refused : (input : List (List ℕ)) (note : Note) → front_note (game input) under after ≡ Some note
      → reply input ≡ refusal note
  unfolding runs_reply
  reply-refused input note h =
      ap (λ (o : Option Note). elim o [ None ↦ reply_with (due input) | Some note ↦ refusal note ]) h

  -- ---- how it is served, where nothing was written

  module _ (held : Option (List ℕ)) where
    serves_refused : (input : List (List ℕ)) (note : Note) → (note ≡ notes.NoBeginning) ⊎ (note ≡ notes.NoRun)
        → Serves (refusal note) held held (outcome_of (Err note))
    serves_refused input note (inl e) =
        subst (λ m. Serves (refusal m) held held (outcome_of (Err m))) (sym e) (replies_refusal held notes.NoBeginning)
    serves_refused input note (inr e) =
        subst (λ m. Serves (refusal m) held held (outcome_of (Err m))) (sym e) (replies_refusal held notes.NoRun)

    serves_unstarted : (input : List (List ℕ)) (note : Note)
        → (note ≡ notes.OutOfMemory) ⊎ (front_note (game input) under after ≡ Some note)
        → Serves (reply input) held held (outcome_of (Err note))
    serves_unstarted input note (inl e) =
        subst (λ m. Serves (reply input) held held (outcome_of (Err m))) (sym e) (takes_nothing held _)
    serves_unstarted input note (inr e) =
        subst (λ r. Serves r held held (outcome_of (Err note))) (sym (reply-refused input note e))
        (serves_refused input note
        (note_is (begins_runs (game input) under) (is_front (game input) (share_prefix under) after) note e))

    -- by the bytes of the input, of which the lines are those that were read
    module _ (c : List ℕ) where
      pub serves_front : (input : List (List ℕ)) → input ≡ input_lines c → (note : Note)
          → (note ≡ notes.OutOfMemory) ⊎ (front_note (game input) under after ≡ Some note)
          → Serves (runs_due rules under after first form c p) held held (outcome_of (Err note))
      serves_front input is note one =
          subst (λ i. Serves (reply i) held held (outcome_of (Err note))) is (serves_unstarted input note one)

  -- ---- how it is served, where reports were written

  module _ (old new : Option (List ℕ)) where
    takes_due : (input : List (List ℕ)) (written : List ℕ) → front_note (game input) under after ≡ None
        → Appends old new written → Begins written (due input)
        → TakesSome old new (reply input).bytes
    takes_due input written h w begins =
        subst (λ r. TakesSome old new r.bytes) (sym (reply-listed input h))
        (takes_prefix old new written (due input) w begins)

    abbrev Writes : List (List ℕ) → Front → Result ℕ ExploreFault → Type 0
    Writes input f result =
        WritesRuns (game input) (share_prefix under) (report form (game input))
        (runs_left (game input) (most_answers p input rules.limit) (share_prefix under) (first_front after) first)
        (first_front after) f old new result

    serves_written : (input : List (List ℕ)) (f : Front) (n : ℕ) → front_note (game input) under after ≡ None
        → Writes input f (Ok n)
        → Serves (reply input) old new (outcome_of (Ok 0))
    serves_written input f n h w =
        subst (λ r. Serves r old new (outcome_of (Ok 0))) (sym (reply-listed input h))
        (record { bytes = w.bytes; status = refl; note = refl })

    serves_cut : (input : List (List ℕ)) (f : Front) (fault : ExploreFault) → front_note (game input) under after ≡ None
        → Writes input f (Err fault)
        → Serves (reply input) old new (outcome_of (Err (reports_note fault)))
    serves_cut input f (explores.Memory n) h w =
        takes_due input _ h w.bytes (text-prefix (report form (game input)) _ w.prefix w.rest w.split)
    serves_cut input f (explores.Write n) h w =
        takes_due input _ h w.bytes
        (text-into (report form (game input)) _ w.prefix w.at w.rest w.part w.remainder w.split w.cut)

    writes_fewer : (input : List (List ℕ)) (f : Front) (fault : ExploreFault) → Writes input f (Err fault)
        → IsErrOf {T = ℕ} (Err (reports_note fault)) notes.OutOfMemory
        → ListsFewerOf p input rules under after first form old new
    writes_fewer input f (explores.Memory n) w refused = record {
      count = length w.prefix;
      fewer = below_both w.prefix w.rest _ w.split w.some_left;
      bytes =
          subst (λ l. Appends old new (text (report form (game input)) l))
          (sym (ap (take (length w.prefix)) w.split ∙ take-append_seam w.prefix w.rest)) w.bytes;
    }
    writes_fewer input f (explores.Write n) w refused = absurd cc

    -- by the bytes of the input, of which the lines are those that were read, and an explorer that continued from its
    -- front
    module _ (c : List ℕ) (input : List (List ℕ)) (is : input ≡ input_lines c) (e : Exploration) (f : Front)
        (same : e ≡ exploration p input rules (share_prefix under) (first_front after) e.kept e.played)
        (h : front_note (game input) under after ≡ None) where
      abbrev WritesFrom : Exploration → Result ℕ ExploreFault → Type 0
      WritesFrom e result =
          WritesRuns (play_of e) e.prefix (report form (play_of e))
          (runs_left (play_of e) (most_of e) e.prefix e.front first) e.front f old new result

      written_from : (result : Result ℕ ExploreFault) → WritesFrom e result → Writes input f result
      written_from result w = subst (λ x. WritesFrom x result) same w

      pub serves_reports : (n : ℕ) → WritesFrom e (Ok n)
          → Serves (runs_due rules under after first form c p) old new (outcome_of (Ok 0))
      serves_reports n w =
          subst (λ i. Serves (reply i) old new (outcome_of (Ok 0))) is
          (serves_written input f n h (written_from (Ok n) w))

      -- where memory is refused, some report is still to be written
      pub lists_fewer : (fault : ExploreFault) → WritesFrom e (Err fault)
          → IsErrOf {T = ℕ} (Err (reports_note fault)) notes.OutOfMemory
          → ListsFewerOf p (input_lines c) rules under after first form old new
      lists_fewer fault w refused =
          subst (λ k. ListsFewerOf p k rules under after first form old new) is
          (writes_fewer input f fault (written_from (Err fault) w) refused)

      pub serves_some : (fault : ExploreFault) → WritesFrom e (Err fault)
          → Serves (runs_due rules under after first form c p) old new (outcome_of (Err (reports_note fault)))
      serves_some fault w =
          subst (λ i. Serves (reply i) old new (outcome_of (Err (reports_note fault)))) is
          (serves_cut input f fault h (written_from (Err fault) w))

-- ---- how it is served, for a program that was loaded

pub zero_within : (r : Result ℕ Note) → OnOk r (r ≡ Ok 0) → IfOk r (λ n. n ≤ 7)
zero_within (Ok n) h =
    let e : n ≡ 0 = cc in
    omega arith
zero_within (Err note) h = tt

on_ok : (r : Result ℕ Note) (Q : Type 0) → Q → OnOk r Q
on_ok (Ok n) Q q = q
on_ok (Err note) Q q = tt

-- a mode that says nothing of how much is read, and whose status is 0 or a note's
module _ (mode : Mode) (no_check : IsCheck mode → ⊥) (request : Request) (p : StoredProgram)
    (i j old new : Option (List ℕ)) (result : Result ℕ Note) where
  pub serves_mode :
      ((b c : List ℕ) → IsLoaded request.memory b p.lines → IsInput mode i c
      → Serves (reply_in_mode mode request b c) old new (outcome_of result))
      → ((b : List ℕ) → IfSome i (λ c. ReadsForRun mode request b c j (outcome_of result)))
      → ((b : List ℕ) → IsErrOf result notes.InputUnread → ServesUnread mode request i j b old new)
      → ((b c : List ℕ) → IsLoaded request.memory b p.lines → IsInput mode i c
      → IsErrOf result notes.OutOfMemory → StopsForMemory mode request b c old new)
      → SilentBy mode (outcome_of result).note old new → OnOk result (result ≡ Ok 0)
      → (IsUnloaded (outcome_of result).note → ⊥) → ServesProgram mode request p i j old new result
  serves_mode served taken unread stopped quiet success loaded = record {
    served = served;
    taken = λ b _. taken b;
    unread = λ b _. unread b;
    silent = quiet;
    stopped = stopped;
    status = zero_within result success;
    success = λ _ _. success;
    checked = λ x. absurd (no_check x);
    loaded = loaded;
  }

-- ---- an input that is read to its end

module _ (mode : Mode) (plain : IsPlainRun mode → ⊥) (needs : NeedsInput mode) (i j : Option (List ℕ))
    (failed fails gave gives : ℕ) where
  -- once its lines were read
  pub whole_reads : (result : Result ℕ Note) → IfSome i (λ c. length c ≤ input_limit)
      → ConsumesAtMost i j (input_limit + 1) → GivesAtMost gave gives (input_limit + 1)
      → fails ≡ failed → (IsErrOf result notes.InputUnread → ⊥) → ReadsInput mode i j failed fails gave gives result
  whole_reads result short bounded given same fine = record {
    within = λ _. on_ok result (IfSome i (λ c. length c ≤ input_limit)) short;
    taken_within = λ x. absurd (plain x);
    no_beginning_within = λ _. short;
    no_run_within = λ _. short;
    bounded = bounded;
    given = given;
    unread = λ x. absurd (fine x);
    failed_or_given = λ x. absurd (fine x);
    read = λ _. same;
    unneeded = λ x. absurd (x needs);
  }

  -- where they are not
  module _ {T : Type 0} (fault : DeviceFault) (read : IsErrOf {T = T} (Err fault) reads.Read
      → HasFailed failed fails) where
    unread_lines : (fault : DeviceFault) → (IsErrOf {T = T} (Err fault) reads.Read → HasFailed failed fails)
        → (IsErrOf {T = T} (Err fault) reads.TooLong → IfSome i (λ c. input_limit < length c))
        → IsErrOf {T = ℕ} (Err (device_note fault)) notes.InputUnread → IsUnreadable i failed fails
    unread_lines reads.Read read long x = inl (read refl)
    unread_lines reads.TooLong read long x = inr (long refl)
    unread_lines reads.Write read long x = absurd cc
    unread_lines reads.Memory read long x = absurd cc

    told_lines : (fault : DeviceFault) → (IsErrOf {T = T} (Err fault) reads.Read → HasFailed failed fails)
        → (IsErrOf {T = T} (Err fault) reads.TooLong → GivesExactly gave gives (input_limit + 1))
        → IsErrOf {T = ℕ} (Err (device_note fault)) notes.InputUnread
        → HasFailed failed fails ⊎ GivesExactly gave gives (input_limit + 1)
    told_lines reads.Read read long x = inl (read refl)
    told_lines reads.TooLong read long x = inr (long refl)
    told_lines reads.Write read long x = absurd cc
    told_lines reads.Memory read long x = absurd cc

    pub whole_unread : (IsErrOf {T = T} (Err fault) reads.TooLong → IfSome i (λ c. input_limit < length c))
        → (IsErrOf {T = T} (Err fault) reads.TooLong → GivesExactly gave gives (input_limit + 1))
        → ((IsErrOf {T = T} (Err fault) reads.Read → ⊥) → fails ≡ failed)
        → ConsumesAtMost i j (input_limit + 1) → GivesAtMost gave gives (input_limit + 1)
        → ReadsInput mode i j failed fails gave gives (Err (device_note fault))
    whole_unread long exactly unfailed bounded given = record {
      within = λ _. tt;
      taken_within = λ x. absurd (plain x);
      no_beginning_within = λ x. absurd (device_note-beginning fault x);
      no_run_within = λ x. absurd (device_note-start fault x);
      bounded = bounded;
      given = given;
      unread = unread_lines fault read long;
      failed_or_given = told_lines fault read exactly;
      read = λ x. unfailed (device_note-read fault x);
      unneeded = λ x. absurd (x needs);
    }

-- ---- a listing of the program's text, which leaves the input alone

module _ (request : Request) (p : StoredProgram) (memory : p.memory ≡ request.memory) (i : Option (List ℕ))
    (result : Result ℕ Note) (fine : IsErrOf result notes.InputUnread → ⊥) where
  pub text_serves : (old new : Option (List ℕ)) → Serves (listing_reply p) old new (outcome_of result)
      → SilentBy modes.List (outcome_of result).note old new
      → OnOk result (result ≡ Ok 0) → (IsUnloaded (outcome_of result).note → ⊥)
      → ServesProgram modes.List request p i i old new result
  text_serves old new served quiet success loaded =
      serves_mode modes.List (λ x. x) request p i i old new result
      (λ b c l is. serves_loaded request.memory (Some b) listing_reply p old new result l memory served)
      (λ b. nothing_told i) (λ b x. absurd (fine x)) (λ b c _ _ _. tt) quiet success loaded

-- ---- an input that is left alone

pub untouched_reads : (mode : Mode) → (NeedsWholeInput mode → ⊥) → (IsPlainRun mode → ⊥)
    → (i : Option (List ℕ)) (failed gave : ℕ)
    (result : Result ℕ Note) → (IsErrOf result notes.InputUnread → ⊥) → (RefusesListIn result → ⊥)
    → ReadsInput mode i i failed failed gave gave result
untouched_reads mode part plain i failed gave result fine no_list = record {
  within = λ x. absurd (part x);
  taken_within = λ x. absurd (plain x);
  no_beginning_within = λ x. absurd (no_list (inl x));
  no_run_within = λ x. absurd (no_list (inr x));
  bounded = consumes_nothing i (input_limit + 1);
  given = (omega arith, omega arith);
  unread = λ x. absurd (fine x);
  failed_or_given = λ x. absurd (fine x);
  read = λ _. refl;
  unneeded = λ _. fine;
}
