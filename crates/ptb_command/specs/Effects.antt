-- This file defines what a command may change of the state in which it begins.
-- Main definition: `CommandChange`.
--     action_state o, act_state o      the state in which an action, or an entire command, continues, halts or asks
--     Begins shown all                 all of it begins with what is shown
--     TakesLines lines left            of the lines some were taken, from the first on, and these are left
--     PartChange S T                   what the parts of a command may change
--     EndChange S T                    what a command may change once its parts are done
--     CommandChange S T                what an entire command may change
use Rattle.std.specs.Prelude.{◌≡◌, ℕ, ◌≤◌, List, ◌++◌}
use Rattle.ptb_answers.specs.Outcome.{Outcome, Done, Asks, Out}
use Rattle.ptb_command.specs.State.{State, nesting, nesting_limit}
use Rattle.ptb_command.specs.Actions.{Progress, Goes, Halts}
use Rattle.ptb_command.specs.Act.{StepResult, Next, Over}

-- ---- the state of an outcome

abbrev pub progress_state : {A : Type 0} → Progress A → State
progress_state (Goes x S) = S
progress_state (Halts halt S) = S

abbrev pub action_state : {A : Type 0} → Outcome (Progress A) State → State
action_state (Done r rest) = progress_state r
action_state (Asks n S) = S
action_state (Out n S) = S

abbrev pub step_result_state : StepResult → State
step_result_state (Next S) = S
step_result_state (Over ending S) = S

abbrev pub act_state : Outcome StepResult State → State
act_state (Done d rest) = step_result_state d
act_state (Asks n S) = S
act_state (Out n S) = S

-- ---- changes

abbrev pub Begins : List ℕ → List ℕ → Type 0
Begins shown all = (more : List ℕ) × (all ≡ shown ++ more)

abbrev pub TakesLines : List (List ℕ) → List (List ℕ) → Type 0
TakesLines lines left = (taken : List (List ℕ)) × (lines ≡ taken ++ left)

-- variables are stored, lines are taken, and more is shown
pub record PartChange (S T : State) : Type 0 where
  pub place : T.place ≡ S.place
  pub loops : T.loops ≡ S.loops
  pub calls : T.calls ≡ S.calls
  pub steps : T.steps ≡ S.steps
  pub shown : Begins S.shown T.shown

-- the place and a variable change, and loops and calls open and end, never more of them than may be open together
pub record EndChange (S T : State) : Type 0 where
  pub lines : T.lines ≡ S.lines
  pub shown : T.shown ≡ S.shown
  pub steps : T.steps ≡ S.steps
  pub nested : nesting S ≤ nesting_limit → nesting T ≤ nesting_limit

pub record CommandChange (S T : State) : Type 0 where
  pub shown : Begins S.shown T.shown
  pub lines : TakesLines S.lines T.lines
  pub steps : T.steps ≡ S.steps
  pub nested : nesting S ≤ nesting_limit → nesting T ≤ nesting_limit
