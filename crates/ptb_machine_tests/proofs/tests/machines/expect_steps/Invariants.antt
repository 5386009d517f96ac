-- This file says what holds before each row of `expect_steps`.
use Rattle.ptb_machine.specs.Steps.{FitsProgram}
use Rattle.ptb_machine_tests.proofs.tests.machines.expect_steps.Given as goal

abbrev pub invariant-rows : goal.invariant-rows
invariant-rows g l = FitsProgram l.program l.machine
