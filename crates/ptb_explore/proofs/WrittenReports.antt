-- This file proves what is written once the next report was, or wasn't.
-- Main lemmas: `one_more` and `none_next`.
use Rattle.std.proofs.Common.{◌≡◌, ◌∙◌, ap, subst, ℕ, zero, suc, ◌+◌, ◌-◌, ◌^◌, ◌<◌, min, List}
use Rattle.std.proofs.Common.{length, Bool, true, false, not, eqb, Option, Some, None, Result, Ok}
use Rattle.std.proofs.Common.{Err, arith, refl}
use Rattle.std.proofs.lemmas.Bool.{ne_eqb}
use Rattle.std.specs.Option.{option_eq}
use Rattle.ptb_answers.specs.declared.form.Form.{Form}
use Rattle.ptb_answers.specs.Outcome.{Answers, Outcome, IsReader}
use Rattle.ptb_explore.specs.declared.fault.ExploreFault.{ExploreFault}
use Rattle.ptb_explore.specs.declared.fault.ExploreFault.TheVariants.{Memory, Write}
use Rattle.ptb_text.specs.declared.device_fault.DeviceFault.{DeviceFault}
use Rattle.ptb_text.specs.declared.device_fault.DeviceFault.TheVariants as next
use Rattle.ptb_explore.specs.Explorations.{Exploration, play_of, most_of}
use Rattle.ptb_devices.specs.Screens.{IsScreenFault}
use Rattle.ptb_explore.specs.Listing.{fault_after, less_one, NextWrites, WritesList, WritesRuns}
use Rattle.ptb_explore.specs.Report.{report}
use Rattle.ptb_machine.specs.RunTree.{Front, runs_after}
use Rattle.ptb_explore.proofs.Progress.{ListingProgress, progress_more, progress_whole, progress_last}
use Rattle.ptb_explore.proofs.Progress.{progress_some, progress_into, fewer_left}

-- a refusal of memory is no fault of the writer
memory_no_write : {T P : Type 0} → ◌≡◌ {A = Result T DeviceFault} (Err next.Memory) (Err next.Write) → P
memory_no_write h = absurd cc

memory_told : {T P : Type 0} {n k : ℕ} → ◌≡◌ {A = Result T ExploreFault} (Err (Memory n)) (Err (Write k)) → P
memory_told h = absurd cc

-- where a fault of the writer ends the writing, the writer has failed
pub ended_failed : {S T P : Type 0} (x : DeviceFault) → IsScreenFault x
    → (◌≡◌ {A = Result S DeviceFault} (Err x) (Err next.Write) → P) → (n k : ℕ)
    → ◌≡◌ {A = Result T ExploreFault} (Err (fault_after x n)) (Err (Write k)) → P
ended_failed next.Write s failed n k h = failed refl
ended_failed next.Memory s failed n k h = memory_told h
ended_failed next.Read s failed n k h = absurd s
ended_failed next.TooLong s failed n k h = absurd s

-- and where another does, it has not
pub ended_unfailed : {S T P : Type 0} (x : DeviceFault) → IsScreenFault x
    → ((◌≡◌ {A = Result S DeviceFault} (Err x) (Err next.Write) → ⊥) → P) → (n : ℕ)
    → ((k : ℕ) → ◌≡◌ {A = Result T ExploreFault} (Err (fault_after x n)) (Err (Write k)) → ⊥) → P
ended_unfailed next.Write s unfailed n none = absurd (none n refl)
ended_unfailed next.Memory s unfailed n none = unfailed (λ h. memory_no_write h)
ended_unfailed next.Read s unfailed n none = absurd s
ended_unfailed next.TooLong s unfailed n none = absurd s

-- what ends the writing of a report is a fault of a screen
pub next_kind : {A W : Type 0} (play : Answers → Outcome A W) (under : Answers) (report : Answers → List ℕ)
    (f f' : Front) (old new : Option (List ℕ)) (x : DeviceFault) → NextWrites play under report f f' old new (Err x)
    → IsScreenFault x
next_kind play under report f f' old new next.Write h = tt
next_kind play under report f f' old new next.Memory h = tt
next_kind play under report f f' old new next.Read h = absurd h
next_kind play under report f f' old new next.TooLong h = absurd h

-- The explorer is at e, and was at `first` when the first report was to be written.
module _ (form : Form) (first e : Exploration) (same : e ≡ record first {
  front = e.front;
  kept = e.kept;
  played = e.played;
}) where
  pub same_after : (n : Exploration) → n ≡ record e { front = n.front; kept = n.kept; played = n.played }
      → n ≡ record first { front = n.front; kept = n.kept; played = n.played }
  same_after n h = h ∙ ap (λ (x : Exploration). record x { front = n.front; kept = n.kept; played = n.played }) same

  -- what is played stays the same
  of_first : (f : Front) (old new : Option (List ℕ)) (r : Result Bool DeviceFault)
      → NextWrites (play_of e) e.prefix (report form (play_of e)) e.front f old new r
      → NextWrites (play_of first) first.prefix (report form (play_of first)) e.front f old new r
  of_first f old new r h =
      subst (λ (x : Exploration). NextWrites (play_of x) x.prefix (report form (play_of x)) e.front f old new r) same h

  module _ (reads : IsReader (play_of first) (most_of first)) (list : List Answers) (remaining : Option ℕ)
      (old new : Option (List ℕ)) (n : ℕ) (progress : ListingProgress (play_of first) (most_of first) first.prefix
      (report form (play_of first)) list first.front e.front remaining old new n) where
    -- no more are wanted
    pub all_wanted : false ≡ not (option_eq eqb remaining (Some 0))
        → WritesList (play_of first) first.prefix (report form (play_of first)) list first.front e.front old new n
    all_wanted h = wanted remaining progress h
      where
        wanted : (o : Option ℕ)
            → ListingProgress (play_of first) (most_of first) first.prefix
            (report form (play_of first)) list first.front
            e.front o old new n
            → false ≡ not (option_eq eqb o (Some 0))
            → WritesList (play_of first) first.prefix (report form (play_of first)) list first.front e.front old new n
        wanted None p k =
            let wrong : false ≡ true = k in
            absurd cc
        wanted (Some zero) p k = progress_whole (play_of first) (most_of first) reads first.prefix
            (report form (play_of first)) list first.front old e.front new n p
        wanted (Some (suc i)) p k =
            let wrong : false ≡ true = k ∙ ap not (ne_eqb (suc i) 0 (λ none. omega (arith, none))) in
            absurd cc

    module _ (f : Front) (new' : Option (List ℕ)) where
      -- there is no next run
      pub none_next : (b : Bool) → b ≡ false
          → NextWrites (play_of e) e.prefix (report form (play_of e)) e.front f new new' (Ok b)
          → WritesList (play_of first) first.prefix (report form (play_of first)) list first.front f old new' n
      none_next b is h =
          let last = of_first f new new' (Ok false) (subst (λ (x : Bool). NextWrites (play_of e) e.prefix
          (report form (play_of e)) e.front f new new' (Ok x)) is h) in
          rw (last.1, last.2) (progress_last (play_of first) (most_of first) reads first.prefix
          (report form (play_of first)) list first.front old e.front remaining new n progress last.0)

      module _ (wanted : true ≡ not (option_eq eqb remaining (Some 0))) where
        unused : remaining ≡ Some 0 → ⊥
        unused is =
            let none : true ≡ not (option_eq eqb (Some 0) (Some 0)) = rw is at wanted in
            absurd cc

        -- there was no memory for it, or a prefix of it was written
        pub next_ends : (x : DeviceFault)
            → NextWrites (play_of e) e.prefix (report form (play_of e)) e.front f new new' (Err x)
            → WritesRuns (play_of first) first.prefix (report form (play_of first)) list first.front f old new'
            (Err (fault_after x n))
        next_ends next.Memory h =
            let stays = of_first f new new' (Err next.Memory) h in
            rw (stays.1, stays.2) (progress_some (play_of first) (most_of first) reads first.prefix
            (report form (play_of first)) list first.front old e.front remaining new n progress unused stays.0)
        next_ends next.Write h =
            let part = of_first f new new' (Err next.Write) h in
            rw part.2 (progress_into (play_of first) (most_of first) reads first.prefix (report form (play_of first))
            list first.front old e.front remaining new new' n part.0 progress unused part.1 part.3)
        next_ends next.Read h = absurd h
        next_ends next.TooLong h = absurd h

        -- it was written
        module _ (b : Bool) (is : b ≡ true)
            (h : NextWrites (play_of e) e.prefix (report form (play_of e)) e.front f new new' (Ok b)) where
          one : NextWrites (play_of first) first.prefix (report form (play_of first)) e.front f new new' (Ok true)
          one = of_first f new new' (Ok true) (subst (λ (x : Bool). NextWrites (play_of e) e.prefix
              (report form (play_of e)) e.front f new new' (Ok x)) is h)

          pub one_fewer : length (runs_after (play_of first) (most_of first) first.prefix f) < length
              (runs_after (play_of first) (most_of first) first.prefix e.front)
          one_fewer = rw one.2 (fewer_left (play_of first) (most_of first) reads first.prefix e.front one.0 one.1)

          pub one_more : (left : Option ℕ) → left ≡ less_one remaining → (m : ℕ) → m ≡ min (n + 1) (2 ^ 64 - 1)
              → ListingProgress (play_of first) (most_of first) first.prefix
              (report form (play_of first)) list first.front f
              left old new' m
          one_more left fewer m count =
              rw fewer (progress_more (play_of first) (most_of first) reads first.prefix
              (report form (play_of first)) list first.front old e.front f remaining new new' n m one.0 progress
              unused one.1 one.2 one.3 count)
