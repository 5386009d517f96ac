-- This file says what a run has come to before each step.
use Rattle.std.proofs.Common.{◌≡◌, ◌-◌, false}
use Rattle.ptb_command.specs.CommandIo.{SameBorrows}
use Rattle.ptb_machine.specs.RunDevices.{lent}
use Rattle.ptb_machine.specs.Steps.{FitsProgram}
use Rattle.ptb_machine.proofs.StepwiseRuns.{IsUnderway}
use Rattle.ptb_machine.proofs.complete_run.play.Given as goal

abbrev pub invariant-steps : goal.invariant-steps
invariant-steps g l =
    FitsProgram l.fn.player l.machine × (l.machine.spent ≡ false)
    × IsUnderway g.C.Chooser g.S.Screen g.L.LineSource l.fn.player l.fn.io.rules l.machine
    (lent l.fn.io) (lent l.io) × SameBorrows l.fn.io l.io

abbrev pub decreases-steps : goal.decreases-steps
decreases-steps g l = l.fn.io.rules.limit - l.machine.steps
