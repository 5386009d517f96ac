-- This file defines what the value of an expression of a command is, with what was asked for it.
-- Main definition: `IsValueOf`.
--     IsValueOf chooser steps e cells old new r     r comes of the expression e, for which the chooser went from old to
--                                                   new
use Rattle.std.specs.Prelude.{ℕ, ℤ, Bool, List, Result}
use Rattle.ptb_answers.specs.declared.chooser.Chooser as choosers
use Rattle.ptb_expr.specs.declared.step.Step.{Step}
use Rattle.ptb_expr.specs.Store.{Cells}
use Rattle.ptb_expr.specs.Tree.{Tree}
use Rattle.ptb_command.specs.declared.operation.Expression.{Expression}
use Rattle.ptb_command.specs.declared.stop.CommandStop.{CommandStop}
use Rattle.ptb_command.specs.Act.{value_action}
use Rattle.ptb_command.specs.Actions.{goes_on}
use Rattle.ptb_command.specs.Code.{AreStepsAt, FailsWithoutValue}
use Rattle.ptb_command.specs.Devices.{Devices, with_choices, refused_answers}
use Rattle.ptb_command.specs.Stops.{Comes}
use Rattle.ptb_command.specs.Traces.{trace, with_pending}

pub record IsValueOf {C : Type 0} (chooser : choosers.Ghosts C) (steps : List Step) (e : Expression) (cells : Cells)
    (old new : C) (r : Result ℤ CommandStop) : Type 0 where
  pub comes :
      (x : Tree) (d : Devices) (fresh : Bool) (pending : List ℕ) → AreStepsAt steps e x
      → Comes (refused_answers (chooser.refused new))
      (with_pending pending (trace (with_choices (chooser.choices old) d) fresh cells))
      (with_pending pending (trace (with_choices (chooser.choices new) d) fresh cells))
      (value_action x) goes_on r
  pub valued : FailsWithoutValue steps e r
