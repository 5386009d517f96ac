-- This file proves the result of a run that goes by a list of answers, from a complete run with a chooser, a screen
-- over a writer and a list of lines.
-- Main lemma: `run_between`.
use Rattle.std.proofs.Common.{◌≡◌, ℕ, ◌+◌, ◌≤◌, ◌⊎◌, inl, inr, Bool, true, false, List, [], ◌++◌}
use Rattle.std.proofs.Common.{length, take, Option, Some, None, IfSome, Result, Ok, Err, IfOk, IsErrOf, ℤ, pos, ◌≤ℤ◌}
use Rattle.std.proofs.Common.{refl, sym, ap, subst, ◌∙◌, arith, append-nil, length-append}
use Rattle.std.specs.Borrow.{MutBor}
use Rattle.std.specs.Io.KnownBytes.{Appends}
use Rattle.std.proofs.KnownBytes.{Appends-nil}
use Rattle.std.proofs.Math.Seq.{take-append_seam}
use Rattle.std.proofs.lemmas.List.{append_cancel_left}
use Rattle.ptb_text.specs.Device.{HasFailed, TakesSome}
use Rattle.ptb_text.specs.Statements.{StoredProgram}
use Rattle.ptb_answers.specs.declared.pause.Pause.{Pause}
use Rattle.ptb_answers.specs.declared.pause.Pause.TheVariants as pauses
use Rattle.ptb_answers.specs.Outcome.{Answers, Outcome, Done, Asks, Out}
use Rattle.ptb_answers.specs.Choices.{AsksFor, Choices, with_answers}
use Rattle.ptb_command.specs.declared.ending.Ending.{Ending}
use Rattle.ptb_command.specs.declared.ending.Ending.TheVariants as endings
use Rattle.ptb_machine.specs.declared.fault.RunFault.{RunFault}
use Rattle.ptb_machine.specs.declared.fault.RunFault.TheVariants as runs
use Rattle.ptb_answers.specs.declared.rules.Rules.{Rules}
use Rattle.ptb_machine.specs.declared.run_end.RunEnd.{RunEnd}
use Rattle.ptb_machine.specs.Play.{Finish, play, stopping_line, unasked_lines, plain, plain_of}
use Rattle.ptb_command.specs.Effects.{Begins}
use Rattle.ptb_text.specs.declared.device_fault.DeviceFault.{DeviceFault}
use Rattle.ptb_text.specs.declared.device_fault.DeviceFault.TheVariants as reads
use Rattle.ptb_devices.specs.Sources.{NoneLeft}
use Rattle.ptb_command.specs.Devices.{ScreenState, Devices, devices, with_failures, Exchange, Refusal, refused_by}
use Rattle.ptb_command.specs.Devices.{HasBroken, HasNoMemory}
use Rattle.ptb_command.specs.Stops.{UnlessMissed}
use Rattle.ptb_machine.specs.PlayResults.{played_bytes, Plays, IsFinished, IsUnanswered}
use Rattle.ptb_machine.specs.PlayResults.{IsUnfinished, LacksInput, RunComes}
use Rattle.ptb_machine.specs.RunFaults.{fault_of_device}
use Rattle.ptb_machine.specs.Runs.{run_miss, Runs, StopsAt, IsLineOf, choosing}
use Rattle.ptb_machine.specs.MemoryNotes.{ended_for, noted, noted_result}
use Rattle.ptb_machine.specs.PlainRuns.{ShowsRun, ShowsQuestion, lines_taken, IsLed, GoesBy, without_choose}

-- ---- lists

pub takes_prefix : (old new : Option (List ℕ)) (bytes all : List ℕ) → Appends old new bytes → Begins bytes all
    → TakesSome old new all
takes_prefix old new bytes all h begins =
    let size : length all ≡ length bytes + length begins.0 = ap length begins.1 ∙ length-append bytes begins.0 in
    let front : take (length bytes) all ≡ bytes = ap (take (length bytes)) begins.1 ∙ take-append_seam bytes begins.0 in
    (length bytes, omega arith, subst (Appends old new) (sym front) h)

-- ---- what is left of a run

plain_bytes : (left : Outcome Finish (List ℕ)) → (plain_of left).0 ≡ played_bytes left
plain_bytes (Done f rest) = refl
plain_bytes (Asks n shown) = refl
plain_bytes (Out n shown) = refl

-- ---- a complete run

pub takes_all : (old new : Option (List ℕ)) (bytes : List ℕ) → Appends old new bytes → TakesSome old new bytes
takes_all old new bytes h = takes_prefix old new bytes bytes h ([], sym (append-nil bytes))

-- what is said of a run with these answers and lines, between two states of its screen
pub record IsPlainRun (p : StoredProgram) (rules : Rules) (lines : List (List ℕ)) (a : Answers) (refuses : Pause → ℤ
    → Type 0) (old new : ScreenState) (result : Result Ending RunFault) : Type 0 where
  pub same_borrow : new.borrow ≡ old.borrow
  pub ok : IfOk result (ShowsRun (plain p lines rules a) old.shown new.shown)
  pub prefix : TakesSome old.shown new.shown (plain p lines rules a).0
  pub failed : IsErrOf result runs.Write → HasFailed old.failures new.failures
  pub memory : IsErrOf result runs.Memory
      → Appends old.shown new.shown []
      ⊎ (((n : ℤ) × refuses pauses.Memory n) × ShowsQuestion (plain p lines rules) a old.shown new.shown)
  pub unfailed : (IsErrOf result runs.Write → ⊥) → new.failures ≡ old.failures
  pub unspent : IsErrOf result runs.Spent → ⊥

-- what is said of a run that asked for a line on which these are all that it was given
pub record IsUnreadRun (p : StoredProgram) (rules : Rules) (lines : List (List ℕ)) (a : Answers)
    (old new : ScreenState) : Type 0 where
  pub same_borrow : new.borrow ≡ old.borrow
  pub shows : ShowsRun (plain p lines rules a) old.shown new.shown endings.NoInput
  pub unfailed : new.failures ≡ old.failures

-- what a chooser has answered that is to answer `a`
record WasLed (refuses : Pause → ℤ → Type 0) (a : Answers) (c d : Choices) : Type 0 where
  pub taken : Answers
  pub bounds : List ℤ
  pub grown : d ≡ with_answers taken bounds c
  pub is : IsLed refuses taken a

-- a source of lines gave some, and these come after them; it says what holds after its refusals, and whether the
-- chooser noted that it was refused memory; the devices ask for an answer with this bound where none is left
module _ (p : StoredProgram) (rules : Rules) (a : Answers) (refuses : Pause → ℤ → Type 0) (noticed : Bool)
    (c d : Choices) (old new : ScreenState) (could can : ℕ) (bound : Option ℤ) (given following : List (List ℕ))
    (unread : DeviceFault → Type 0) (left : Option (List (List ℕ)))
    (led : (taken : Answers) (bounds : List ℤ) → AsksFor (play p (given ++ following) rules) taken bounds
    → d ≡ with_answers taken bounds c → IsLed refuses taken a) where
  abbrev refused : Refusal → Type 0
  refused = refused_by (noted noticed refuses) unread left

  abbrev lines : List (List ℕ)
  lines = given ++ following

  abbrev before : Devices
  before = devices c old could bound []

  abbrev later : Devices
  later = devices d new can bound given

  -- what is left of the answers after those that were taken, however often the writer has failed
  left_by : (failures : ℕ) (x : Exchange) (left : Answers → Outcome Finish (List ℕ))
      → Plays p rules lines before (with_failures failures later) x left → IsLed refuses x.answers a
  left_by failures x left h = led x.answers x.bounds h.leaves.asked h.exchanges.grown

  is_ok : {x : Exchange} {left : Answers → Outcome Finish (List ℕ)} (e : Ending)
      → Plays p rules lines before later x left → ShowsRun (plain p lines rules a) old.shown new.shown e
      → IsPlainRun p rules lines a refuses old new (Ok e)
  is_ok e plays h = record {
    same_borrow = plays.exchanges.shows.same_borrow;
    ok = h;
    prefix = takes_all old.shown new.shown _ h.bytes;
    failed = λ f. cc;
    memory = λ f. cc;
    unfailed = λ f. plays.exchanges.unfailed;
    unspent = λ f. cc;
  }

  -- the play with all of the answers is what is left of it, with those that are left
  play_is : (failures : ℕ) (x : Exchange) (left : Answers → Outcome Finish (List ℕ))
      (h : Plays p rules lines before (with_failures failures later) x left)
      → play p lines rules a ≡ left (left_by failures x left h).rest
  play_is failures x left h =
      let following = left_by failures x left h in
      ap (play p lines rules) following.whole
      ∙ ap (λ (f : Answers → Outcome Finish (List ℕ)). f following.rest) h.leaves.rest

  shows_run : (x : Exchange) (left : Answers → Outcome Finish (List ℕ)) (e : Ending) (o : Outcome Finish (List ℕ))
      (h : Plays p rules lines before later x left)
      → left (left_by new.failures x left h).rest ≡ o → plain_of o ≡ (x.bytes, e)
      → ShowsRun (plain p lines rules a) old.shown new.shown e
  shows_run x left e o h is ends =
      let all : plain p lines rules a ≡ (x.bytes, e) = ap plain_of (play_is new.failures x left h ∙ is) ∙ ends in
      record {
        ending = sym (ap (λ r. r.1) all);
        bytes = subst (Appends old.shown new.shown) (sym (ap (λ r. r.0) all)) h.exchanges.shows.shown;
      }

  finished : (e : Ending) → IsFinished refused p rules lines before later e
      → IsPlainRun p rules lines a refuses old new (Ok e)
  finished e h = is_ok e h.plays (shows_run h.exchange _ e _ h.plays refl refl)

  -- INPUT found no line left, so all of them were given
  dry : (NoneLeft left → following ≡ []) → RunComes refused p rules following before later (Ok endings.NoInput)
      → IsPlainRun p rules lines a refuses old new (Ok endings.NoInput)
  dry none h =
      let all : lines ≡ given = ap (λ r. given ++ r) (none h.0) ∙ append-nil given in
      finished endings.NoInput
      (subst (λ i. IsFinished refused p rules i before later endings.NoInput) (sym all) (h.1 (none h.0)))

  -- with the answers that were taken the play asks, and its bytes up to that question were shown
  shows_question : (failures : ℕ) (bound : ℤ) (x : Exchange) (left : Answers → Outcome Finish (List ℕ))
      → Plays p rules lines before (with_failures failures later) x left
      → left [] ≡ Asks bound x.bytes → ShowsRun (plain p lines rules x.answers) old.shown new.shown endings.NoAnswer
  shows_question failures bound x left h asks =
      let all : plain p lines rules x.answers ≡ (x.bytes, endings.NoAnswer) =
      ap (λ q. plain p lines rules q) (sym (append-nil x.answers))
      ∙ ap plain_of (ap (λ (f : Answers → Outcome Finish (List ℕ)). f []) h.leaves.rest ∙ asks) in
      record {
        ending = sym (ap (λ r. r.1) all);
        bytes = subst (Appends old.shown new.shown) (sym (ap (λ r. r.0) all)) h.exchanges.shows.shown;
      }

  -- what was shown before the rest of a play is a beginning
  part_shown : (failures : ℕ) (x : Exchange) (left : Answers → Outcome Finish (List ℕ))
      → Plays p rules lines before (with_failures failures later) x left
      → ((rest : Answers) → Begins x.bytes (played_bytes (left rest)))
      → TakesSome old.shown new.shown (plain p lines rules a).0
  part_shown failures x left h continues =
      let begins = continues (left_by failures x left h).rest in
      let all : (plain p lines rules a).0 ≡ played_bytes (left (left_by failures x left h).rest) =
      plain_bytes (play p lines rules a) ∙ ap played_bytes (play_is failures x left h) in
      takes_prefix old.shown new.shown x.bytes _ h.exchanges.shows.shown (begins.0, all ∙ begins.1)

  -- no answer is left, or it was refused memory
  unanswered : IsUnanswered refused p rules lines before later pauses.Ended
      → IsPlainRun p rules lines a refuses old new (noted_result noticed (Ok endings.NoAnswer))
  unanswered h = by_refusal noticed h.refuses where
    by_refusal : (refused : Bool) → ended_for refused (refuses pauses.Memory h.bound) (refuses pauses.Ended h.bound)
        → IsPlainRun p rules lines a refuses old new (noted_result refused (Ok endings.NoAnswer))
    by_refusal false r =
        let none = (left_by new.failures h.exchange h.left h.plays).ended h.bound r in
        is_ok endings.NoAnswer h.plays
        (shows_run h.exchange h.left endings.NoAnswer _ h.plays (ap h.left none ∙ h.question.asks) refl)
    by_refusal true r =
        let following = left_by new.failures h.exchange h.left h.plays in
        record {
          same_borrow = h.plays.exchanges.shows.same_borrow;
          ok = tt;
          prefix = part_shown new.failures h.exchange h.left h.plays h.continues.begins;
          failed = λ f. cc;
          memory = λ _. inr (
            (h.bound, r),
            record {
              drawn = h.exchange.answers;
              rest = following.rest;
              all_are = following.whole;
              shows = shows_question new.failures h.bound h.exchange h.left h.plays h.question.asks;
            },
          );
          unfailed = λ _. h.plays.exchanges.unfailed;
          unspent = λ f. cc;
        }

  out_of_range : (k : ℤ) → IsUnanswered refused p rules lines before later (pauses.OutOfRange k)
      → IsPlainRun p rules lines a refuses old new (Ok endings.BadAnswer)
  out_of_range k h =
      let next = (left_by new.failures h.exchange h.left h.plays).outside k h.bound h.refuses in
      is_ok endings.BadAnswer h.plays
      (shows_run h.exchange h.left endings.BadAnswer _ h.plays (ap h.left next.1 ∙ h.question.outside next.0) refl)

  -- what has happened to the devices, by the fault of the run
  failed_by : (a b : ScreenState) (device : DeviceFault) → runs.Write ≡ fault_of_device device
      → HasBroken refused a b device → HasFailed a.failures b.failures
  failed_by a b reads.Read is h = absurd cc
  failed_by a b reads.TooLong is h = absurd cc
  failed_by a b reads.Write is h = h.0
  failed_by a b reads.Memory is h = absurd cc

  unfailed_by : (a b : ScreenState) (device : DeviceFault) → runs.Read ≡ fault_of_device device
      → HasBroken refused a b device → b.failures ≡ a.failures
  unfailed_by a b reads.Read is h = h.1
  unfailed_by a b reads.TooLong is h = h.1
  unfailed_by a b reads.Write is h = absurd cc
  unfailed_by a b reads.Memory is h = absurd cc

  no_memory_by : (a b : ScreenState) (device : DeviceFault) → runs.Memory ≡ fault_of_device device
      → HasBroken refused a b device → HasNoMemory refused a.takes_memory
  no_memory_by a b reads.Read is h = absurd cc
  no_memory_by a b reads.TooLong is h = absurd cc
  no_memory_by a b reads.Write is h = absurd cc
  no_memory_by a b reads.Memory is h = h.0

  -- where a device fails, what was shown is a beginning
  begun : {fault : RunFault} → IsUnfinished refused p rules lines before later fault
      → TakesSome old.shown new.shown (plain p lines rules a).0
  begun h = part_shown old.failures h.exchange h.left h.plays h.continues.begins

  unwritten : RunComes refused p rules following before later (Err runs.Write)
      → IsPlainRun p rules lines a refuses old new (Err runs.Write)
  unwritten h = record {
    same_borrow = h.plays.exchanges.shows.same_borrow;
    ok = tt;
    prefix = begun h;
    failed = λ _. failed_by old new h.device h.is h.broken;
    memory = λ f. cc;
    unfailed = λ f. absurd (f refl);
    unspent = λ f. cc;
  }

  not_read : RunComes refused p rules following before later (Err runs.Read)
      → IsPlainRun p rules lines a refuses old new (Err runs.Read)
  not_read h = record {
    same_borrow = h.plays.exchanges.shows.same_borrow;
    ok = tt;
    prefix = begun h;
    failed = λ f. cc;
    memory = λ f. cc;
    unfailed = λ f. unfailed_by old new h.device h.is h.broken;
    unspent = λ f. cc;
  }

  -- a source without memory and a screen over a writer take none, and the chooser notes its refusals: it was refused
  -- to the machine itself
  out_of_memory : old.takes_memory ≡ false → (unread reads.Memory → ⊥)
      → RunComes refused p rules following before later (Err runs.Memory) → later ≡ before
  out_of_memory e no_memory h =
      elim h [
        | inl same ↦ same
        | inr u ↦ elim ((no_memory_by old new u.device u.is u.broken).by) [
          | inl t ↦ absurd (let both : true ≡ false = sym t ∙ e in cc)
          | inr r ↦ elim r [ inl q ↦ absurd q.1 | inr q ↦ absurd (no_memory q) ]
        ]
      ]

  no_room : later ≡ before → IsPlainRun p rules lines a refuses old new (Err runs.Memory)
  no_room e =
      let nothing : Appends old.shown new.shown [] = subst (λ held. Appends old.shown held [])
      (sym (ap (λ (d : Devices). d.screen.shown) e)) (Appends-nil old.shown) in
      record {
        same_borrow = ap (λ (d : Devices). d.screen.borrow) e;
        ok = tt;
        prefix = (0, omega arith, nothing);
        failed = λ f. cc;
        memory = λ _. inl nothing;
        unfailed = λ _. ap (λ (d : Devices). d.screen.failures) e;
        unspent = λ f. cc;
      }

  -- the play with all of the answers stops where the run did
  pub stops_at : (line : Option ℕ) → StopsAt p rules lines before later line → line ≡ stopping_line p lines rules a
  stops_at line h =
      let following = left_by new.failures h.exchange h.left h.plays in
      h.stops following.rest ∙ ap (stopping_line p lines rules) (sym following.whole)

  -- ---- the lines that it takes

  -- the given lines are no more than it takes, with all of the answers
  fits : (x : Exchange) (rest : Answers) (more : List (List ℕ)) → a ≡ x.answers ++ rest
      → lines ≡ given ++ (more ++ unasked_lines p lines rules (x.answers ++ rest))
      → length given ≤ lines_taken p lines rules a
  fits x rest more e k =
      let unasked : unasked_lines p lines rules a ≡ unasked_lines p lines rules (x.answers ++ rest) =
      ap (unasked_lines p lines rules) e in
      omega (
        arith,
        ap length k,
        ap length unasked,
        length-append given (more ++ unasked_lines p lines rules
            (x.answers ++ rest)),
        length-append more (unasked_lines p lines rules (x.answers ++ rest)),
      )

  fits_finished : (e : Ending) → IsFinished refused p rules lines before later e
      → length given ≤ lines_taken p lines rules a
  fits_finished e h = let following = left_by new.failures h.exchange _ h.plays in
      fits h.exchange following.rest [] following.whole (h.lines following.rest)

  fits_unanswered : (z : Pause) → IsUnanswered refused p rules lines before later z
      → length given ≤ lines_taken p lines rules a
  fits_unanswered z h =
      let following = left_by new.failures h.exchange h.left h.plays in
      let taken = h.continues.more_lines following.rest in
      fits h.exchange following.rest taken.0 following.whole taken.1

  fits_unfinished : (fault : RunFault) → IsUnfinished refused p rules lines before later fault
      → length given ≤ lines_taken p lines rules a
  fits_unfinished fault h =
      let following = left_by old.failures h.exchange h.left h.plays in
      let taken = h.continues.more_lines following.rest in
      fits h.exchange following.rest taken.0 following.whole taken.1

  fits_none : later ≡ before → length given ≤ lines_taken p lines rules a
  fits_none e = omega (arith, ap (λ (d : Devices). length d.given) e)

  fits_dry : (NoneLeft left → following ≡ []) → RunComes refused p rules following before later (Ok endings.NoInput)
      → length given ≤ lines_taken p lines rules a
  fits_dry none h =
      let all : lines ≡ given = ap (λ r. given ++ r) (none h.0) ∙ append-nil given in
      fits_finished endings.NoInput
      (subst (λ i. IsFinished refused p rules i before later endings.NoInput) (sym all) (h.1 (none h.0)))

  pub takes_given : old.takes_memory ≡ false → (unread reads.Memory → ⊥) → (NoneLeft left → following ≡ [])
      → (result : Result Ending RunFault)
      → RunComes refused p rules following before later result → length given ≤ lines_taken p lines rules a
  takes_given e no_memory none (Ok endings.End) h = fits_finished endings.End h
  takes_given e no_memory none (Ok endings.Stop) h = fits_finished endings.Stop h
  takes_given e no_memory none (Ok endings.What) h = fits_finished endings.What h
  takes_given e no_memory none (Ok endings.How) h = fits_finished endings.How h
  takes_given e no_memory none (Ok endings.Sorry) h = fits_finished endings.Sorry h
  takes_given e no_memory none (Ok endings.Limit) h = fits_finished endings.Limit h
  takes_given e no_memory none (Ok endings.NoInput) h = fits_dry none h
  takes_given e no_memory none (Ok endings.NoAnswer) h = fits_unanswered pauses.Ended h
  takes_given e no_memory none (Ok endings.BadAnswer) h = fits_unanswered (pauses.OutOfRange h.0) h.1
  takes_given e no_memory none (Err runs.Memory) h = fits_none (out_of_memory e no_memory h)
  takes_given e no_memory none (Err runs.Read) h = fits_unfinished runs.Read h
  takes_given e no_memory none (Err runs.Write) h = fits_unfinished runs.Write h
  takes_given e no_memory none (Err runs.Spent) h = absurd h

  -- ---- a line that it wasn't given

  -- with no others after these lines
  to_end : {e : Ending} → following ≡ [] → IsFinished refused p rules given before later e
      → IsFinished refused p rules lines before later e
  to_end {e = e} none h =
      let all : lines ≡ given = ap (λ r. given ++ r) none ∙ append-nil given in
      subst (λ i. IsFinished refused p rules i before later e) (sym all) h

  finished_led : {e : Ending} → IsFinished refused p rules lines before later e → WasLed refuses a c d
  finished_led h = record {
    taken = h.exchange.answers;
    bounds = h.exchange.bounds;
    grown = h.plays.exchanges.grown;
    is = left_by new.failures h.exchange _ h.plays;
  }

  unread_led : IsUnfinished refused p rules lines before later runs.Read → WasLed refuses a c d
  unread_led h = record {
    taken = h.exchange.answers;
    bounds = h.exchange.bounds;
    grown = h.plays.exchanges.grown;
    is = left_by old.failures h.exchange h.left h.plays;
  }

  -- it asked for one, and these are all lines: so it ends for lack of it, where no answer is asked for instead
  dry_ending : IsFinished refused p rules lines before later endings.NoInput → IsUnreadRun p rules lines a old new
  dry_ending h =
      let run = finished endings.NoInput h in
      record { same_borrow = run.same_borrow; shows = run.ok; unfailed = run.unfailed (λ f. cc) }

  unread_ending : rules.choose ≡ None → IsUnfinished refused p rules lines before later runs.Read → lines ≡ given
      → IsFinished refused p rules lines before later endings.NoInput
  unread_ending ends h all =
      subst (λ (choose : Option ℤ). LacksInput refused p rules lines before later choose h.exchange.bytes h.left) ends
      (h.dry refl all)

  module _ (P : Type 0) (never : P → ⊥) (no_memory : unread reads.Memory → ⊥) (none : following ≡ []) where
    all_given : lines ≡ given
    all_given = ap (λ r. given ++ r) none ∙ append-nil given

    was_led : (result : Result Ending RunFault) → UnlessMissed unread P (run_miss result)
        → RunComes refused p rules following before later result → WasLed refuses a c d
    was_led (Ok endings.End) m h = absurd (never m)
    was_led (Ok endings.Stop) m h = absurd (never m)
    was_led (Ok endings.What) m h = absurd (never m)
    was_led (Ok endings.How) m h = absurd (never m)
    was_led (Ok endings.Sorry) m h = absurd (never m)
    was_led (Ok endings.Limit) m h = absurd (never m)
    was_led (Ok endings.NoInput) m h = finished_led (to_end none (h.1 none))
    was_led (Ok endings.NoAnswer) m h = absurd (never m)
    was_led (Ok endings.BadAnswer) m h = absurd (never m)
    was_led (Err runs.Memory) m h = elim m [ inl q ↦ absurd (never q) | inr r ↦ absurd (no_memory r) ]
    was_led (Err runs.Read) m h = unread_led h
    was_led (Err runs.Write) m h = absurd (never m)
    was_led (Err runs.Spent) m h = absurd h

    ends_dry : rules.choose ≡ None → (result : Result Ending RunFault) → UnlessMissed unread P (run_miss result)
        → RunComes refused p rules following before later result → IsUnreadRun p rules lines a old new
    ends_dry ends (Ok endings.End) m h = absurd (never m)
    ends_dry ends (Ok endings.Stop) m h = absurd (never m)
    ends_dry ends (Ok endings.What) m h = absurd (never m)
    ends_dry ends (Ok endings.How) m h = absurd (never m)
    ends_dry ends (Ok endings.Sorry) m h = absurd (never m)
    ends_dry ends (Ok endings.Limit) m h = absurd (never m)
    ends_dry ends (Ok endings.NoInput) m h = dry_ending (to_end none (h.1 none))
    ends_dry ends (Ok endings.NoAnswer) m h = absurd (never m)
    ends_dry ends (Ok endings.BadAnswer) m h = absurd (never m)
    ends_dry ends (Err runs.Memory) m h = elim m [ inl q ↦ absurd (never q) | inr r ↦ absurd (no_memory r) ]
    ends_dry ends (Err runs.Read) m h = dry_ending (unread_ending ends h all_given)
    ends_dry ends (Err runs.Write) m h = absurd (never m)
    ends_dry ends (Err runs.Spent) m h = absurd h

  pub run_comes : old.takes_memory ≡ false → (unread reads.Memory → ⊥) → (NoneLeft left → following ≡ [])
      → (result : Result Ending RunFault)
      → RunComes refused p rules following before later result
      → IsPlainRun p rules lines a refuses old new (noted_result noticed result)
  run_comes e no_memory none (Ok endings.End) h = finished endings.End h
  run_comes e no_memory none (Ok endings.Stop) h = finished endings.Stop h
  run_comes e no_memory none (Ok endings.What) h = finished endings.What h
  run_comes e no_memory none (Ok endings.How) h = finished endings.How h
  run_comes e no_memory none (Ok endings.Sorry) h = finished endings.Sorry h
  run_comes e no_memory none (Ok endings.Limit) h = finished endings.Limit h
  run_comes e no_memory none (Ok endings.NoInput) h = dry none h
  run_comes e no_memory none (Ok endings.NoAnswer) h = unanswered h
  run_comes e no_memory none (Ok endings.BadAnswer) h = out_of_range h.0 h.1
  run_comes e no_memory none (Err runs.Memory) h = no_room (out_of_memory e no_memory h)
  run_comes e no_memory none (Err runs.Read) h = not_read h
  run_comes e no_memory none (Err runs.Write) h = unwritten h
  run_comes e no_memory none (Err runs.Spent) h = absurd h

-- where the chooser goes by these answers on whatever lines
module _ (p : StoredProgram) (rules : Rules) (answers : List (List ℕ) → Answers) (refuses : Pause → ℤ → Type 0)
    (noticed : Bool) (c d : Choices) (old new : ScreenState) (could can : ℕ) (given : List (List ℕ))
    (unread : DeviceFault → Type 0) (left : Option (List (List ℕ)))
    (result : Result Ending RunFault) (goes : GoesBy refuses c d answers p rules)
    (h : (choose : Option ℤ) (range : IfSome choose (λ n. pos 1 ≤ℤ n))
    → Runs (refused_by (noted noticed refuses) unread left) p (choosing rules choose range)
    (devices c old could rules.choose []) (devices d new can rules.choose given) result)
    (over : can ≡ 0 → NoneLeft left) where
  run_is : (following : List (List ℕ)) → (NoneLeft left → following ≡ [])
      → RunComes (refused_by (noted noticed refuses) unread left) p rules following
      (devices c old could rules.choose []) (devices d new can rules.choose given) result
  run_is following none = h rules.choose rules.in_range following (λ e. (none (over e), refl))

  pub led_run : old.takes_memory ≡ false → (unread reads.Memory → ⊥) → (following : List (List ℕ))
      → (NoneLeft left → following ≡ [])
      → IsPlainRun p rules (given ++ following) (answers (given ++ following)) refuses old new
      (noted_result noticed result)
  led_run no_room no_memory following none =
      run_comes p rules (answers (given ++ following)) refuses noticed c d old new could can rules.choose given
      following unread left (goes (given ++ following)) no_room no_memory none result (run_is following none)

  pub led_run_takes : old.takes_memory ≡ false → (unread reads.Memory → ⊥) → (following : List (List ℕ))
      → (NoneLeft left → following ≡ [])
      → length given ≤ lines_taken p (given ++ following) rules (answers (given ++ following))
  led_run_takes no_room no_memory following none =
      takes_given p rules (answers (given ++ following)) refuses noticed c d old new could can rules.choose given
      following unread left (goes (given ++ following)) no_room no_memory none result (run_is following none)

  -- it asked for a line that may come, and was not given it: with no others, it is the run that ends for lack of it
  module _ (no_memory : unread reads.Memory → ⊥) (P : Type 0) (never : P → ⊥)
      (missed : UnlessMissed unread P (run_miss result)) where
    was : WasLed refuses (answers (given ++ [])) c d
    was = was_led p rules (answers (given ++ [])) refuses noticed c d old new could can rules.choose given [] unread
        left (goes (given ++ [])) P never no_memory refl result missed (run_is [] (λ _. refl))

    -- so it takes the same answers
    same_led : (taken : Answers) (bounds : List ℤ)
        → AsksFor (play p (given ++ []) (without_choose rules)) taken bounds → d ≡ with_answers taken bounds c
        → IsLed refuses taken (answers (given ++ []))
    same_led taken bounds asked grown =
        let same : was.taken ≡ taken = append_cancel_left c.taken was.taken taken
        (ap (λ (y : Choices). y.taken) (sym was.grown ∙ grown)) in
        subst (λ (t : Answers). IsLed refuses t (answers (given ++ []))) same was.is

    pub led_run_dry : (can ≡ 0 → ⊥)
        → IsUnreadRun p (without_choose rules) (given ++ []) (answers (given ++ [])) old new
    led_run_dry more =
        ends_dry p (without_choose rules) (answers (given ++ [])) refuses noticed c d old new could can rules.choose
        given [] unread left same_led P never no_memory refl refl result missed
        (h None tt [] (λ e. absurd (more e)))

-- the line of its end is that of the play
module _ (p : StoredProgram) (rules : Rules) (answers : List (List ℕ) → Answers) (refuses : Pause → ℤ → Type 0)
    (noticed : Bool) (c d : Choices) (old new : ScreenState) (could can : ℕ) (given : List (List ℕ))
    (unread : DeviceFault → Type 0) (left : Option (List (List ℕ)))
    (goes : GoesBy refuses c d answers p rules) (over : can ≡ 0 → NoneLeft left)
    (end : RunEnd) (h : IsLineOf p rules (devices c old could rules.choose [])
    (devices d new can rules.choose given) end) where
  pub led_line : end.ending ≡ endings.Limit → (following : List (List ℕ)) → (NoneLeft left → following ≡ [])
      → end.line ≡ stopping_line p (given ++ following) rules (answers (given ++ following))
  led_line is following none =
      stops_at p rules (answers (given ++ following)) refuses noticed c d old new could can rules.choose given following
      unread left (goes (given ++ following)) end.line (h.at_limit is following (λ e. (none (over e), refl)))

-- ---- the screen of a writer

-- a screen over a writer, by what its contract says of the writer
abbrev pub state_of : {W : Type 0} → (W → Option (List ℕ)) → (W → ℕ) → MutBor W → ScreenState
state_of contents failures screen =
    record {
      shown = contents screen.now;
      failures = failures screen.now;
      borrow = Some screen.ghost_name;
      takes_memory = false;
    }

-- what is said of a plain run, between two states of its writer
pub record IsRunBetween {W : Type 0} (contents : W → Option (List ℕ)) (failures : W
    → ℕ) (p : StoredProgram) (rules : Rules) (ls : List (List ℕ)) (a : Answers) (refuses : Pause → ℤ
    → Type 0) (w v : W) (result : Result Ending RunFault) : Type 0 where
  pub ok : IfOk result (ShowsRun (plain p ls rules a) (contents w) (contents v))
  pub prefix : TakesSome (contents w) (contents v) (plain p ls rules a).0
  pub failed : IsErrOf result runs.Write → HasFailed (failures w) (failures v)
  pub memory : IsErrOf result runs.Memory
      → Appends (contents w) (contents v) []
      ⊎ (((n : ℤ) × refuses pauses.Memory n) × ShowsQuestion (plain p ls rules) a (contents w) (contents v))
  pub unfailed : (IsErrOf result runs.Write → ⊥) → failures v ≡ failures w
  pub unspent : IsErrOf result runs.Spent → ⊥

-- a writer ends as it is under the name of its borrow
pub run_between : {W : Type 0} (contents : W → Option (List ℕ)) (failures : W → ℕ) (p : StoredProgram) (rules : Rules)
    (ls : List (List ℕ)) (a : Answers) (refuses : Pause → ℤ → Type 0)
    (screen screen_after : MutBor W) (w v : W) (result : Result Ending RunFault)
    → screen.now ≡ w → (screen.ghost_name ≡ screen_after.ghost_name → v ≡ screen_after.now)
    → IsPlainRun p rules ls a refuses (state_of contents failures screen) (state_of contents failures screen_after)
    result
    → IsRunBetween contents failures p rules ls a refuses w v result
run_between contents failures p rules ls a refuses screen screen_after w v result begins ends h =
    let same : screen.ghost_name ≡ screen_after.ghost_name = let e = h.same_borrow in cc in
    subst (λ x. IsRunBetween contents failures p rules ls a refuses x v result) begins
    (subst (λ x. IsRunBetween contents failures p rules ls a refuses screen.now x result) (sym (ends same))
    (record {
      ok = h.ok;
      prefix = h.prefix;
      failed = h.failed;
      memory = h.memory;
      unfailed = h.unfailed;
      unspent = h.unspent;
    }))

-- what is said of a run that couldn't read a line, between two states of its writer
pub record IsUnreadBetween {W : Type 0} (contents : W → Option (List ℕ)) (failures : W
    → ℕ) (p : StoredProgram) (rules : Rules) (ls : List (List ℕ)) (a : Answers) (w v : W) : Type 0 where
  pub shows : ShowsRun (plain p ls rules a) (contents w) (contents v) endings.NoInput
  pub unfailed : failures v ≡ failures w

pub unread_between : {W : Type 0} (contents : W → Option (List ℕ)) (failures : W → ℕ) (p : StoredProgram)
    (rules : Rules) (ls : List (List ℕ)) (a : Answers)
    (screen screen_after : MutBor W) (w v : W)
    → screen.now ≡ w → (screen.ghost_name ≡ screen_after.ghost_name → v ≡ screen_after.now)
    → IsUnreadRun p rules ls a (state_of contents failures screen) (state_of contents failures screen_after)
    → IsUnreadBetween contents failures p rules ls a w v
unread_between contents failures p rules ls a screen screen_after w v begins ends h =
    let same : screen.ghost_name ≡ screen_after.ghost_name = let e = h.same_borrow in cc in
    subst (λ x. IsUnreadBetween contents failures p rules ls a x v) begins
    (subst (λ x. IsUnreadBetween contents failures p rules ls a screen.now x) (sym (ends same))
    (record { shows = h.shows; unfailed = h.unfailed }))
