-- This file defines what a turn of a run and a complete run may change of the state in which it begins.
-- Main definition: `TurnChange`.
--     run_shown o, steps_of_run o      what a run has shown, and how many commands it has begun, where it is over or
--                                      asks
--     TurnChange limit S T             what a turn of a run may change
use Rattle.std.specs.Prelude.{ℕ, ◌≤◌, List}
use Rattle.ptb_answers.specs.Outcome.{Outcome, Done, Asks, Out}
use Rattle.ptb_command.specs.State.{State, nesting, nesting_limit}
use Rattle.ptb_command.specs.Effects.{Begins, TakesLines}
use Rattle.ptb_machine.specs.Play.{Finish}

abbrev pub run_shown : Outcome Finish State → List ℕ
run_shown (Done f rest) = f.shown
run_shown (Asks n S) = S.shown
run_shown (Out n S) = S.shown

abbrev pub steps_of_run : Outcome Finish State → ℕ
steps_of_run (Done f rest) = f.steps
steps_of_run (Asks n S) = S.steps
steps_of_run (Out n S) = S.steps

-- where a turn begins within the limits it ends within them
pub record TurnChange (limit : ℕ) (S T : State) : Type 0 where
  pub shown : Begins S.shown T.shown
  pub lines : TakesLines S.lines T.lines
  pub nested : nesting S ≤ nesting_limit → nesting T ≤ nesting_limit
  pub steps : S.steps ≤ limit → T.steps ≤ limit
