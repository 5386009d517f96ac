-- This file says what is kept while a plan is played: in each state from which it may have begun, the run has come
-- to where the machine is.
use Rattle.std.proofs.Common.{◌≡◌, ◌≤◌, ◌-◌, false, length, take, drop}
use Rattle.ptb_command.specs.State.{State}
use Rattle.ptb_chances.specs.StagePlays.{Came, IsStageAt}
use Rattle.ptb_chances.proofs.plays.play_plan.Given as goal

abbrev pub invariant-commands : goal.invariant-commands
invariant-commands l = record {
  answers : l.plan.answers ≡ l.fn.answers;
  same_lines : l.devices.source.lines ≡ l.fn.devices.source.lines;
  within : l.devices.source.taken ≤ length l.fn.devices.source.lines;
  unspent : l.machine.spent ≡ false;
  steps : l.fn.machine.steps ≤ l.machine.steps;
  came : (S : State)
      → IsStageAt l.fn.player l.rules l.fn.machine (drop l.fn.devices.source.taken l.fn.devices.source.lines)
      l.fn.devices.screen S
      → Came l.fn.player l.rules S (take l.plan.given l.plan.answers) l.machine
      (drop l.devices.source.taken l.devices.source.lines) l.devices.screen;
}

-- each step is below the rules
abbrev pub decreases-commands : goal.decreases-commands
decreases-commands l = l.rules.limit - l.machine.steps
