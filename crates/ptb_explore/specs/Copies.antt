-- This file defines when the copies of machines that are kept of a run are sound, and which run continues from which.
-- Main definition: `AreCopies`.
--     machine_of k, steps_of k               the machine of a copy, and how many commands it had begun
--     IsCopyOf m taken shown lines k         a copy of this machine, which had come so far
--     IsSameCopy k j                         j is a copy as k is
--     with_one_free ks                       what is left of the copies where there is room for one more
--     KeepsCopy before m taken shown lines old new    what keeping one more leaves of the copies
--     GoesBack most old new                  those that took more answers than this are dropped
--     AreTakenBy p input rules a n           by the n-th command, and no earlier one, all of the answers a are taken
--     AreCopies p input rules t w ks         the copies, the oldest first, are of a run with the answers t that showed
--                                            w
--     Agrees play n plan answers bounds      a plan begins with n of the answers, whose bounds are right
--     KeptRun                                what contracts see of a copy
--     kept_runs answers ks                   what contracts see of the copies of a run with these answers
--     kept_steps answers runs                the steps of the newest that these answers begin with
--     ArePrefixes m answers runs             each took a prefix of the answers, longer than that of the one before
--                                            it
--     ArePlaces p input rules runs           the steps of each are those of the command that took its last answer
--     play_limit                             more commands than one play can add
--     PlaysOn common old played steps new    so many steps are played after a run that continues from what is left of
--                                            the copies
use Rattle.std.specs.Prelude.{◌≡◌, ℕ, ◌+◌, ◌-◌, ◌^◌, min, ◌<◌, ◌≤◌, List, [], ◌∷◌, ◌++◌, length}
use Rattle.std.specs.Prelude.{take, drop, map, false, if◌then◌else◌, ◌⊎◌, Option, Some, None}
use Rattle.std.specs.Prelude.{option_map, ℤ}
use Rattle.std.specs.List.{AllByRecursion}
use Rattle.ptb_answers.specs.declared.rules.Rules.{Rules}
use Rattle.ptb_text.specs.Statements.{StoredProgram}
use Rattle.ptb_answers.specs.Outcome.{Answers, Outcome, bounds}
use Rattle.ptb_answers.specs.Choices.{Choices}
use Rattle.ptb_command.specs.Configuration.{Configuration}
use Rattle.ptb_machine.specs.Play.{play}
use Rattle.ptb_explore.specs.declared.copies.KeptCopy.{KeptCopy}
use Rattle.ptb_explore.specs.PlannedPlays.{IsRunPrefix, limited}
use Rattle.ptb_machine.specs.RunTree.{IsRun, begins_with}

-- ---- copies

-- a place that is not in use has none
abbrev pub machine_of : KeptCopy → Option Configuration
machine_of k = option_map (λ b. b.value) k.machine

abbrev pub steps_or_none : Option Configuration → ℕ
steps_or_none None = 0
steps_or_none (Some m) = m.steps

abbrev pub steps_of : KeptCopy → ℕ
steps_of k = steps_or_none (machine_of k)

pub record IsCopyOf (m : Configuration) (taken shown lines : ℕ) (k : KeptCopy) : Type 0 where
  pub machine : machine_of k ≡ Some m
  pub taken_is : k.taken ≡ taken
  pub shown_is : k.shown ≡ shown
  pub lines_is : k.lines ≡ lines

pub record IsSameCopy (k j : KeptCopy) : Type 0 where
  pub machine : machine_of j ≡ machine_of k
  pub taken_is : j.taken ≡ k.taken
  pub shown_is : j.shown ≡ k.shown
  pub lines_is : j.lines ≡ k.lines

-- where as many are kept as can be, the one with the fewest answers is dropped
abbrev pub with_one_free : List KeptCopy → List KeptCopy
with_one_free ks = drop (length ks + 1 - 64) ks

-- the new one is kept only where more answers were taken than before, and where it isn't refused memory
abbrev pub KeepsCopy : ℕ → Configuration → ℕ → ℕ → ℕ → List KeptCopy → List KeptCopy → Type 0
KeepsCopy before m taken shown lines old new =
    (new ≡ old) ⊎ (new ≡ with_one_free old)
    ⊎ ((k : KeptCopy) × (before < taken) × IsCopyOf m taken shown lines k × (new ≡ with_one_free old ++ k ∷ []))

-- those that are dropped had taken more answers, and the newest that is left had not
pub record GoesBack (most : ℕ) (old new : List KeptCopy) : Type 0 where
  pub dropped : List KeptCopy
  pub split : old ≡ new ++ dropped
  pub beyond : AllByRecursion (λ k. most < k.taken) dropped

abbrev pub GoesBackTo : ℕ → List KeptCopy → List KeptCopy → Option KeptCopy → Type 0
GoesBackTo most old new None = GoesBack most old [] × (new ≡ [])
GoesBackTo most old new (Some j) =
    GoesBack most old new × ((prefix : List KeptCopy) × (k : KeptCopy) × (new ≡ prefix ++ k ∷ []) × (k.taken ≤ most)
    × IsSameCopy k j)

-- the same, of what is left alone
abbrev pub WentBack : ℕ → List KeptCopy → List KeptCopy → Type 0
WentBack most old left = GoesBack most old left
    × ((left ≡ []) ⊎ ((prefix : List KeptCopy) × (k : KeptCopy) × (left ≡ prefix ++ k ∷ []) × (k.taken ≤ most)))

-- the steps of the newest, or of none
abbrev pub last_steps_of : ℕ → List KeptCopy → ℕ
last_steps_of n [] = n
last_steps_of n (k ∷ ks) = last_steps_of (steps_of k) ks

abbrev pub last_steps : List KeptCopy → ℕ
last_steps ks = last_steps_of 0 ks

-- ---- copies of a run

-- a chooser that took these answers
abbrev pub taken_choices : {A W : Type 0} → (Answers → Outcome A W) → Answers → Choices
taken_choices play t = record { plan = t; taken = t; kept = Some (bounds play t) }

module _ (p : StoredProgram) (input : List (List ℕ)) (rules : Rules) where
  -- a run that is limited to so many commands takes them all, and one that is limited to one fewer doesn't
  pub record AreTakenBy (answers : Answers) (steps : ℕ) : Type 0 where
    pub all : IsRun (play p input (limited rules steps)) answers
    pub no_sooner : IsRun (play p input (limited rules (steps - 1))) answers → ⊥

  -- after the answers t, with the bytes w shown, play is where the copy does
  pub record IsCopyAt (k : KeptCopy) (t : Answers) (w : List ℕ) : Type 0 where
    pub machine : Configuration
    pub machine_is : machine_of k ≡ Some machine
    pub unspent : machine.spent ≡ false
    pub within : k.lines ≤ length input
    pub taken_by : AreTakenBy t machine.steps
    pub run_prefix : IsRunPrefix p input rules (taken_choices (play p input rules) t) w (drop k.lines input) machine

  -- each took a prefix of the answers, longer than that of the copy before it, and showed a prefix of the bytes
  abbrev pub KeptFrom : Answers → List ℕ → ℕ → ℕ → List KeptCopy → Type 0
  KeptFrom t w m n [] = (m ≤ length t) × (n ≤ length w)
  KeptFrom t w m n (k ∷ ks) = (m < k.taken) × (n ≤ k.shown) × IsCopyAt k (take k.taken t) (take k.shown w)
      × KeptFrom t w k.taken k.shown ks

  -- each took an answer
  abbrev pub AreCopies : Answers → List ℕ → List KeptCopy → Type 0
  AreCopies t w ks = KeptFrom t w 0 0 ks

abbrev pub Agrees : {A W : Type 0} → (Answers → Outcome A W) → ℕ → Answers → Answers → List ℤ → Type 0
Agrees play n plan answers bounded = (n ≤ length answers) × (take n plan ≡ take n answers)
    × (take n bounded ≡ take n (bounds play answers))

-- ---- what contracts see of copies

-- the answers that a run had taken, and the commands that it had begun, where a copy of it is kept
pub record KeptRun : Type 0 where
  pub answers : Answers
  pub steps : ℕ

abbrev pub kept_runs : Answers → List KeptCopy → List KeptRun
kept_runs answers ks = map (λ k. record { answers = take k.taken answers; steps = steps_of k }) ks

abbrev pub newest_steps : ℕ → Answers → List KeptRun → ℕ
newest_steps n answers [] = n
newest_steps n answers (k ∷ runs) = newest_steps (if begins_with answers k.answers then k.steps else n) answers runs

-- 0 where they begin with none
abbrev pub kept_steps : Answers → List KeptRun → ℕ
kept_steps answers runs = newest_steps 0 answers runs

abbrev pub ArePrefixes : ℕ → Answers → List KeptRun → Type 0
ArePrefixes m answers [] = Unit {0}
ArePrefixes m answers (k ∷ runs) =
    (m < length k.answers) × (k.answers ≡ take (length k.answers) answers)
    × ArePrefixes (length k.answers) answers runs

abbrev pub ArePlaces : StoredProgram → List (List ℕ) → Rules → List KeptRun → Type 0
ArePlaces p input rules runs = AllByRecursion (λ k. AreTakenBy p input rules k.answers k.steps) runs

-- ---- how many steps are played

-- the count stops at the greatest number of 64 bits
abbrev pub more_played : ℕ → ℕ → ℕ
more_played played steps = min (played + steps) (2 ^ 64 - 1)

-- a machine counts its commands in 32 bits, so one play adds fewer than these
abbrev pub play_limit : ℕ
play_limit = 4294967296

abbrev pub PlaysOn : ℕ → List KeptCopy → ℕ → ℕ → ℕ → Type 0
PlaysOn common old played steps new = (left : List KeptCopy) × WentBack common old left
    × (new ≡ more_played played (steps - last_steps left))
