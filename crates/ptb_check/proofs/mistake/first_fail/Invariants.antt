-- This file says what the loop of `first_fail` keeps.
use Rattle.std.proofs.Common.{◌≡◌, length}
use Rattle.ptb_expr.specs.WrittenExpressions.{first_fail}
use Rattle.ptb_check.proofs.mistake.first_fail.Given as goal

abbrev pub invariant-loop-step : goal.invariant-loop-step
invariant-loop-step l = record {
  same : first_fail l.rest ≡ first_fail l.steps;
}

abbrev pub decreases-loop-step : goal.decreases-loop-step
decreases-loop-step l = length l.rest
