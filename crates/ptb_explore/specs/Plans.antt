-- This file defines plans: the first answers of the next run, which continues with the least answers.
-- Main definition: `PlansNext`.
--     IsLastBelow floor answers bounds i          the last answer from a place on that can be raised is the one at i
--     PlansNext under position answers bounds plan o    the plan raises that answer by one and drops those after it;
--                                                       `under` stays
--     HasPlan under position answers bounds       there is such a plan
--     IsPosition play under position answers bounds     where it is at a run, it is that of the answers, with these
--                                                       bounds
--     stopping_plan n plan                        the plan, ones up to n answers, and then no answer
--     IsFresh recorder                            all that a recorder holds is a plan
--     IsTakenAlone planned stated recorder        all answers of a plan were taken and no more, with the bounds that
--                                                 are stated
--     IsTaken planned stated recorder             the same, and more may have been taken
--     PlanEndsWith play plan answers bounds result      the plan and then ones are a run, with these bounds and this
--                                                       result
use Rattle.std.specs.Prelude.{◌≡◌, ℕ, ◌-◌, ◌<◌, ◌≤◌, List, [], ◌∷◌, ◌++◌, length, take, replicate}
use Rattle.std.specs.Prelude.{true, Option, Some, None, ℤ, pos, ◌+ℤ◌, ◌<ℤ◌, ◌≤ℤ◌, slice_index_or}
use Rattle.std.specs.Prelude.{vec_len}
use Rattle.std.specs.List.{AllByRecursion}
use Rattle.ptb_answers.specs.Outcome.{Answers, Outcome, Done, is_open, bounds}
use Rattle.ptb_answers.specs.declared.form.Marked.{Marked}
use Rattle.ptb_explore.specs.Recorders.{given_bounds, recorded}
use Rattle.ptb_explore.specs.declared.plan.ListingPosition.{ListingPosition}
use Rattle.ptb_explore.specs.declared.plan.ListingPosition.TheVariants.{AtStart, AtRun, AtEnd}
use Rattle.ptb_explore.specs.declared.recorder.Recorder.{Recorder}
use Rattle.ptb_explore.specs.MarkedRuns.{states_bounds}
use Rattle.ptb_machine.specs.RunTree.{Front, Start, At, End, IsRun, begins_with}

-- each answer is 1
abbrev pub AllOnes : Answers → Type 0
AllOnes answers = AllByRecursion (λ k. k ≡ pos 1) answers

-- ---- which plan comes next

abbrev pub IsAtBound : Answers → List ℤ → ℕ → Type 0
IsAtBound answers bounds k = slice_index_or bounds k (pos 0) ≤ℤ slice_index_or answers k (pos 0)

-- those before the floor stay as they are
pub record IsLastBelow (floor : ℕ) (answers : Answers) (bounds : List ℤ) (i : ℕ) : Type 0 where
  pub following : floor ≤ i
  pub within : i < length answers
  pub below : slice_index_or answers i (pos 0) <ℤ slice_index_or bounds i (pos 0)
  pub last : (k : ℕ) → i < k → k < length answers → IsAtBound answers bounds k

abbrev pub AreAtBounds : ℕ → Answers → List ℤ → Type 0
AreAtBounds floor answers bounds = (k : ℕ) → floor ≤ k → k < length answers → IsAtBound answers bounds k

-- with how many answers of the run the plan begins; none where no run is left
abbrev pub PlansNext : Answers → ListingPosition → Answers → List ℤ → Answers → Option ℕ → Type 0
PlansNext under AtStart answers bounds plan None = ⊥
PlansNext under AtStart answers bounds plan (Some i) = (i ≡ 0) × (plan ≡ under)
PlansNext under AtRun answers bounds plan None = AreAtBounds (length under) answers bounds
PlansNext under AtRun answers bounds plan (Some i) = IsLastBelow (length under) answers bounds i
    × (plan ≡ take i answers ++ (slice_index_or answers i (pos 0) +ℤ pos 1) ∷ [])
PlansNext under AtEnd answers bounds plan None = Unit {0}
PlansNext under AtEnd answers bounds plan (Some i) = ⊥

abbrev pub HasPlan : Answers → ListingPosition → Answers → List ℤ → Type 0
HasPlan under position answers bounds = (plan : Answers) × (i : ℕ)
    × PlansNext under position answers bounds plan (Some i)

-- ---- where a listing is

abbrev pub front_at : ListingPosition → Answers → Front
front_at AtStart answers = Start
front_at AtRun answers = At answers
front_at AtEnd answers = End

-- each run of the listing begins with `under`
abbrev pub IsPosition : {A W : Type 0} → (Answers → Outcome A W) → Answers → ListingPosition → Answers → List ℤ → Type 0
IsPosition play under AtStart answers their_bounds = is_open (play under) ≡ true
IsPosition play under AtRun answers their_bounds = IsRun play answers × (their_bounds ≡ bounds play answers)
    × (begins_with answers under ≡ true)
IsPosition play under AtEnd answers their_bounds = Unit {0}

-- ---- a plan that is played

-- 0 answers no question
abbrev pub stopping_plan : ℕ → Answers → Answers
stopping_plan n plan = plan ++ replicate (n - length plan) (pos 1) ++ pos 0 ∷ []

pub record IsFresh (r : Recorder) : Type 0 where
  pub none_given : r.given ≡ 0
  pub all_planned : r.planned ≡ vec_len r.asked

pub record IsTakenAlone (planned : ℕ) (stated : List Marked) (r : Recorder) : Type 0 where
  pub taken : length (given_bounds r) ≡ planned
  pub alone : length (recorded r) ≡ planned
  pub states : states_bounds stated (given_bounds r) ≡ true

pub record IsTaken (planned : ℕ) (stated : List Marked) (r : Recorder) : Type 0 where
  pub taken : planned ≤ length (given_bounds r)
  pub states : states_bounds stated (given_bounds r) ≡ true

pub record PlanEndsWith {A W : Type 0} (play : Answers → Outcome A W) (plan answers : Answers) (their_bounds : List ℤ)
    (result : A) : Type 0 where
  pub ones : Answers
  pub all_ones : AllOnes ones
  pub answers_are : answers ≡ plan ++ ones
  pub outcome : play answers ≡ Done result []
  pub bounds_are : their_bounds ≡ bounds play answers
