-- This file defines what a listing of the runs that begin with `under` leaves. `report` gives the text of the report
-- of a run.
-- Main definition: `WritesRuns`.
--     text report list                  the reports of a list of runs, one after the other
--     front_after f list                     where a listing is after a list of runs
--     less_one n                        how many may still be written after one more
--     fault_after fault n               the fault of a writing that a device's fault ended after n reports
--     NextWrites ..                     what the writing of the next report leaves
--     WritesRuns ..                     what the writing of a list of reports leaves
--     FailsToWrite r old new            the writer has failed where a report could not be written
--     FailsOnlyToWrite r old new        it has not failed otherwise
--     FailsAfterSome r old new          the same of the reports of a sample, of which some were written
--     FailsOnlyAfterSome r old new
use Rattle.std.specs.Prelude.{◌≡◌, ℕ, ◌-◌, ◌^◌, List, [], ◌∷◌, ◌++◌, length, min, Bool, true, false}
use Rattle.std.specs.Prelude.{◌⊎◌, Option, Some, None, Result, Ok, Err, IsErrOf}
use Rattle.std.specs.Io.KnownBytes.{Appends}
use Rattle.std.specs.List.{flat_map}
use Rattle.ptb_text.specs.Device.{HasFailed, TakesSome}
use Rattle.ptb_answers.specs.Outcome.{Answers, Outcome}
use Rattle.ptb_explore.specs.declared.fault.ExploreFault.{ExploreFault}
use Rattle.ptb_explore.specs.declared.fault.ExploreFault.TheVariants.{Memory, Write}
use Rattle.ptb_text.specs.declared.device_fault.DeviceFault.{DeviceFault}
use Rattle.ptb_text.specs.declared.device_fault.DeviceFault.TheVariants as next
use Rattle.ptb_machine.specs.RunTree.{Front, At, End, IsNextRun, IsLast}

abbrev pub text : (Answers → List ℕ) → List Answers → List ℕ
text report list = flat_map report list

abbrev pub front_after : Front → List Answers → Front
front_after f [] = f
front_after f (a ∷ list) = front_after (At a) list

-- how often the writer had failed before and after, by the result of one report
abbrev pub FailsToWrite : {T : Type 0} → Result T DeviceFault → ℕ → ℕ → Type 0
FailsToWrite result old new = IsErrOf result next.Write → HasFailed old new

abbrev pub FailsOnlyToWrite : {T : Type 0} → Result T DeviceFault → ℕ → ℕ → Type 0
FailsOnlyToWrite result old new = ¬ IsErrOf result next.Write → new ≡ old

-- and by that of several
abbrev pub FailsAfterSome : {T : Type 0} → Result T ExploreFault → ℕ → ℕ → Type 0
FailsAfterSome result old new = (n : ℕ) → IsErrOf result (Write n) → HasFailed old new

abbrev pub FailsOnlyAfterSome : {T : Type 0} → Result T ExploreFault → ℕ → ℕ → Type 0
FailsOnlyAfterSome result old new = ((n : ℕ) → ¬ IsErrOf result (Write n)) → new ≡ old

-- how many may still be written after one more
abbrev pub less_one : Option ℕ → Option ℕ
less_one None = None
less_one (Some n) = Some (n - 1)

-- the count of reports stops at the greatest number of 64 bits
abbrev pub count_of : List Answers → ℕ
count_of list = min (length list) (2 ^ 64 - 1)

-- memory was refused, or the writer failed
abbrev pub fault_after : DeviceFault → ℕ → ExploreFault
fault_after next.Memory n = Memory n
fault_after next.Read n = Write n
fault_after next.TooLong n = Write n
fault_after next.Write n = Write n

module _ {A W : Type 0} (play : Answers → Outcome A W) (under : Answers) (report : Answers → List ℕ) where
  -- its report was written, or no run is left, or one is left and nothing was written, or a prefix of its report was
  abbrev pub NextWrites : Front → Front → Option (List ℕ) → Option (List ℕ) → Result Bool DeviceFault → Type 0
  NextWrites f f' old new (Ok true) = (a : Answers) × IsNextRun play under f a × (f' ≡ At a)
      × Appends old new (report a)
  NextWrites f f' old new (Ok false) = IsLast play under f × (f' ≡ End) × (new ≡ old)
  NextWrites f f' old new (Err next.Memory) = (IsLast play under f → ⊥) × (f' ≡ f) × (new ≡ old)
  NextWrites f f' old new (Err next.Write) = (a : Answers) × IsNextRun play under f a × (f' ≡ At a)
      × TakesSome old new (report a)
  NextWrites f f' old new (Err other) = ⊥

  -- the reports of the complete list were written; it is after the list, or past the last run
  pub record WritesList (list : List Answers) (f f' : Front) (old new : Option (List ℕ)) (n : ℕ) : Type 0 where
    pub bytes : Appends old new (text report list)
    pub count : n ≡ count_of list
    pub front : (f' ≡ front_after f list) ⊎ ((f' ≡ End) × IsLast play under (front_after f list))

  -- the reports of a prefix of the list were written, and not the complete list; it is after them
  pub record WritesSome (list : List Answers) (f f' : Front) (old new : Option (List ℕ)) (n : ℕ) : Type 0 where
    pub prefix : List Answers
    pub rest : List Answers
    pub split : list ≡ prefix ++ rest
    pub some_left : rest ≡ [] → ⊥
    pub bytes : Appends old new (text report prefix)
    pub count : n ≡ count_of prefix
    pub front : f' ≡ front_after f prefix

  -- the reports of a prefix of the list were written, and a prefix of the next; it is at that one
  pub record WritesInto (list : List Answers) (f f' : Front) (old new : Option (List ℕ)) (n : ℕ) : Type 0 where
    pub prefix : List Answers
    pub at : Answers
    pub rest : List Answers
    pub split : list ≡ prefix ++ at ∷ rest
    pub part : List ℕ
    pub remainder : List ℕ
    pub cut : report at ≡ part ++ remainder
    pub bytes : Appends old new (text report prefix ++ part)
    pub count : n ≡ count_of prefix
    pub front : f' ≡ At at

  abbrev pub WritesRuns : List Answers → Front → Front → Option (List ℕ) → Option (List ℕ) → Result ℕ ExploreFault
      → Type 0
  WritesRuns list f f' old new (Ok n) = WritesList list f f' old new n
  WritesRuns list f f' old new (Err (Memory n)) = WritesSome list f f' old new n
  WritesRuns list f f' old new (Err (Write n)) = WritesInto list f f' old new n
