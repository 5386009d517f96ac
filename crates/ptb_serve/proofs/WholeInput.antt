-- This file proves what is served once an input was read to its end, whatever is written then.
-- Main lemmas: `unread_served`, `lines_served`, `all_written` and `reports_cut`.
use Rattle.std.proofs.Common.{◌≡◌, ◌⊎◌, ℕ, List, [], Option, Some, Result, Ok, Err, inl, inr, sym, ap, subst, ◌∙◌}
use Rattle.std.proofs.Common.{IfSome, IsErrOf, OnOk, refl}
use Rattle.std.specs.Io.KnownBytes.{Appends}
use Rattle.std.specs.Result.{IsErrAnd}
use Rattle.std.proofs.KnownBytes.{Appends-nil}
use Rattle.std.proofs.lemmas.Result.{err_from_is_err_and}
use Rattle.ptb_text.specs.Device.{HasFailed}
use Rattle.ptb_text.specs.Lines.{input_lines}
use Rattle.ptb_text.specs.Statements.{StoredProgram}
use Rattle.ptb_text.specs.Streams.{Reads, ReadsUpTo, Writes}
use Rattle.ptb_text.specs.declared.device_fault.DeviceFault.{DeviceFault}
use Rattle.ptb_text.specs.declared.device_fault.DeviceFault.TheVariants as reads
use Rattle.ptb_devices.specs.Sources.{IsSourceFault}
use Rattle.ptb_explore.specs.declared.fault.ExploreFault.{ExploreFault}
use Rattle.ptb_explore.specs.declared.fault.ExploreFault.TheVariants as explores
use Rattle.ptb_options.specs.declared.request.Mode.{Mode}
use Rattle.ptb_options.specs.declared.request.Request.{Request}
use Rattle.ptb_machine.specs.PlainRuns.{input_limit}
use Rattle.ptb_serve.specs.declared.note.Note.{Note}
use Rattle.ptb_serve.specs.declared.note.Note.TheVariants as notes
use Rattle.ptb_serve.specs.LoadedPrograms.{IsServed, IsServedOn, ReadsInput, ServesProgram}
use Rattle.ptb_serve.specs.Replies.{Reply}
use Rattle.ptb_serve.specs.ServedRequests.{IsPlainRun, IsUnloaded, NeedsInput, Serves, SilentBy}
use Rattle.ptb_serve.specs.ServedRequests.{device_note, outcome_of, reports_note}
use Rattle.ptb_serve.proofs.ServedListings.{device_note-loaded, device_note-written, reports_note-failed}
use Rattle.ptb_serve.proofs.ServedListings.{reports_note-loaded, reports_note-read, reports_note-write}
use Rattle.ptb_serve.proofs.ServedListings.{whole_reads, whole_unread}
use Rattle.ptb_serve.proofs.Mismatches.{reports_refuse_none, success_refuses_none, unread_refuses_none}
use Rattle.ptb_serve.proofs.ServedPrograms.{at_known, takes_nothing}

-- what a `?` gives back is the error
pub gives_err : {T E : Type 0} (r : Result T E) (e : E) → IsErrAnd r (λ y. y ≡ e) → r ≡ Err e
gives_err r e h =
    let p = err_from_is_err_and r h in
    p.1 ∙ ap Err p.2

-- and what is no error is none of a kind
pub no_fault : {T E : Type 0} (t : T) (e : E) → IsErrOf (Ok t) e → ⊥
no_fault t e is = cc

-- ---- the reader

pub lines_read : (mode : Mode) → (IsPlainRun mode → ⊥) → NeedsInput mode
    → {R complete too_long failed : Type 0} {input : Reads R} (result : Result ℕ Note)
    → ReadsUpTo input_limit input complete too_long failed → complete → (failed → ⊥)
    → (IsErrOf result notes.InputUnread → ⊥)
    → ReadsInput mode input.bytes input.left input.failed input.fails input.gave input.gives result
lines_read mode plain needs {input = i} result r done sound fine =
    whole_reads mode plain needs i.bytes i.left i.failed i.fails i.gave i.gives result
    (r.within done) r.consumed r.given
    (r.unfailed sound) fine

-- what holds of the lines that were read holds of those of the bytes, where they are known
pub at_lines : (P : List (List ℕ) → Type 0) (input : List (List ℕ)) (i : Option (List ℕ))
    → IfSome i (λ c. input ≡ input_lines c) → P input → (c : List ℕ) → i ≡ Some c → P (input_lines c)
at_lines P input i lines h c is = subst P (at_known (λ d. input ≡ input_lines d) c is lines) h

-- ---- the writer, where the lines can't be read

pub unread_serves : (reply : Reply) (held : Option (List ℕ)) (fault : DeviceFault)
    → Serves reply held held (outcome_of (Err (device_note fault)))
unread_serves reply held reads.Read = takes_nothing held _
unread_serves reply held reads.TooLong = takes_nothing held _
unread_serves reply held reads.Write = takes_nothing held _
unread_serves reply held reads.Memory = takes_nothing held _

unread_silent : (mode : Mode) (held : Option (List ℕ)) → SilentBy mode (Some notes.InputUnread) held held
    → SilentBy mode (Some notes.OutOfMemory) held held → (fault : DeviceFault) → IsSourceFault fault
    → SilentBy mode (Some (device_note fault)) held held
unread_silent mode held unread refused reads.Read kind = unread
unread_silent mode held unread refused reads.TooLong kind = unread
unread_silent mode held unread refused reads.Write kind = absurd kind
unread_silent mode held unread refused reads.Memory kind = refused

pub cut_silent : (mode : Mode) (old new : Option (List ℕ)) → SilentBy mode (Some notes.OutOfMemory) old new
    → SilentBy mode (Some notes.Unwritten) old new → (fault : ExploreFault)
    → SilentBy mode (Some (reports_note fault)) old new
cut_silent mode old new refused unwritten (explores.Memory n) = refused
cut_silent mode old new refused unwritten (explores.Write n) = unwritten

-- ---- what a mode writes for the bytes of an input: its reply, or less where memory is refused

pub record IsDue (mode : Mode) (reply : List ℕ → Reply) (Fewer : List ℕ
    → Type 0) (i old new : Option (List ℕ)) (result : Result ℕ Note) : Type 0 where
  pub served : (c : List ℕ) → i ≡ Some c → Serves (reply c) old new (outcome_of result)
  pub quiet : SilentBy mode (outcome_of result).note old new
  pub stopped : (c : List ℕ) → i ≡ Some c → IsErrOf result notes.OutOfMemory → Appends old new [] ⊎ Fewer c
  pub unread : IsErrOf result notes.InputUnread → Appends old new []
  pub success : OnOk result (result ≡ Ok 0)
  pub loaded : IsUnloaded (outcome_of result).note → ⊥

module _ (mode : Mode) (reply : List ℕ → Reply) (Fewer : List ℕ → Type 0) (i : Option (List ℕ)) where
  pub unread_due : (held : Option (List ℕ)) → SilentBy mode (Some notes.InputUnread) held held
      → SilentBy mode (Some notes.OutOfMemory) held held → (fault : DeviceFault) → IsSourceFault fault
      → IsDue mode reply Fewer i held held (Err (device_note fault))
  unread_due held unread refused fault kind = record {
    served = λ c _. unread_serves (reply c) held fault;
    quiet = unread_silent mode held unread refused fault kind;
    stopped = λ _ _ _. inl (Appends-nil held);
    unread = λ _. Appends-nil held;
    success = tt;
    loaded = device_note-loaded fault;
  }

  pub all_due : (old new : Option (List ℕ)) → ((c : List ℕ) → i ≡ Some c → Serves (reply c) old new (outcome_of (Ok 0)))
      → SilentBy mode (outcome_of (Ok 0)).note old new → IsDue mode reply Fewer i old new (Ok 0)
  all_due old new served quiet = record {
    served = served;
    quiet = quiet;
    stopped = λ _ _ x. absurd cc;
    unread = λ x. absurd cc;
    success = refl;
    loaded = λ x. x;
  }

  pub cut_due : (old new : Option (List ℕ)) (fault : ExploreFault)
      → ((c : List ℕ) → i ≡ Some c → Serves (reply c) old new (outcome_of (Err (reports_note fault))))
      → SilentBy mode (Some (reports_note fault)) old new
      → ((c : List ℕ) → i ≡ Some c → IsErrOf {T = ℕ} (Err (reports_note fault)) notes.OutOfMemory → Fewer c)
      → IsDue mode reply Fewer i old new (Err (reports_note fault))
  cut_due old new fault served quiet stopped = record {
    served = served;
    quiet = quiet;
    stopped = λ c is h. inr (stopped c is h);
    unread = λ x. absurd (reports_note-read fault x);
    success = tt;
    loaded = reports_note-loaded fault;
  }

-- ---- the contract of a mode

-- how often the writer had failed, and has failed
abbrev pub ReportsWriter : Type 0 → ExploreFault → ℕ → ℕ → Type 0
ReportsWriter T fault broke breaks =
    ((n : ℕ) → IsErrOf {T = T} (Err fault) (explores.Write n) → HasFailed broke breaks)
    × (((n : ℕ) → IsErrOf {T = T} (Err fault) (explores.Write n) → ⊥) → breaks ≡ broke)

module _ (mode : Mode) (request : Request) (p : StoredProgram) where
  -- where the lines can't be read, the writer gets nothing
  pub unread_served : (IsPlainRun mode → ⊥) → NeedsInput mode → {R T complete : Type 0} {input : Reads R}
      (held : Option (List ℕ)) (broke : ℕ) (note : Note) (fault : DeviceFault) → IsSourceFault fault
      → ((known left : Option (List ℕ)) → ServesProgram mode request p known left held held (Err (device_note fault)))
      → note ≡ device_note fault
      → ReadsUpTo input_limit input complete (IsErrOf {T = T} (Err fault) reads.TooLong)
      (IsErrOf {T = T} (Err fault) reads.Read)
      → IsServed mode request p input (record { before = held; after = held; failed = broke; fails = broke }) (Err note)
  unread_served plain needs {T = T} {input = i} held broke note fault kind serves is r =
      subst (λ (n : Note). IsServed mode request p i
      (record { before = held; after = held; failed = broke; fails = broke }) (Err n)) (sym is)
      (record {
        serves = serves i.bytes i.left;
        reads = whole_unread mode plain needs i.bytes i.left i.failed i.fails i.gave i.gives
            {T = T} fault r.has_failed r.longer
            r.given_longer r.unfailed r.consumed r.given;
        failures = record { unwritten = λ x. absurd (device_note-written fault kind x); written = λ _. refl };
        no_list = unread_refuses_none (device_note fault) fault refl;
      })

  -- the lines were read
  pub lines_served : (IsPlainRun mode → ⊥) → NeedsInput mode → {R complete too_long failed : Type 0} {input : Reads R}
      {output : Writes} (lines : List (List ℕ)) (result : Result ℕ Note) → IsServedOn mode request p lines output result
      → ReadsUpTo input_limit input complete too_long failed → complete → (failed → ⊥)
      → IfSome input.bytes (λ c. lines ≡ input_lines c) → IsServed mode request p input output result
  lines_served plain needs lines result on r done sound same = record {
    serves = on.serves _ _ same;
    reads = lines_read mode plain needs result r done sound on.read;
    failures = on.failures;
    no_list = on.no_list;
  }

  module _ (lines : List (List ℕ)) (output : Writes) where
    abbrev ServesLines : Result ℕ Note → Type 0
    ServesLines result =
        (known left : Option (List ℕ)) → IfSome known (λ c. lines ≡ input_lines c)
        → ServesProgram mode request p known left output.before output.after result

    pub all_written : ServesLines (Ok 0) → output.fails ≡ output.failed → IsServedOn mode request p lines output (Ok 0)
    all_written serves unfailed = record {
      serves = serves;
      read = λ x. absurd cc;
      failures = record { unwritten = λ x. absurd cc; written = λ _. unfailed };
      no_list = success_refuses_none 0;
    }

    pub reports_cut : {T : Type 0} (result : Result ℕ Note) (fault : ExploreFault)
        → IsErrAnd result (λ n. n ≡ reports_note fault) → ServesLines (Err (reports_note fault))
        → ReportsWriter T fault output.failed output.fails → IsServedOn mode request p lines output result
    reports_cut {T = T} result fault is serves writer =
        subst (IsServedOn mode request p lines output) (sym (gives_err result (reports_note fault) is))
        (record {
          serves = serves;
          read = reports_note-read fault;
          failures = record {
            unwritten = reports_note-failed {T = T} fault writer.0;
            written = λ x. writer.1 (reports_note-write {T = T} fault x);
          };
          no_list = reports_refuse_none fault;
        })
