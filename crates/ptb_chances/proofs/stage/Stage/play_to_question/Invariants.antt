-- This file says what is kept while a run continues: in each state from which it may have begun, it has come to where
-- the machine is.
use Rattle.std.proofs.Common.{◌≡◌, ◌≤◌, ◌-◌, [], false, length, drop}
use Rattle.ptb_command.specs.State.{State}
use Rattle.ptb_chances.specs.StagePlays.{Came, IsStageAt}
use Rattle.ptb_chances.proofs.stage.Stage.play_to_question.Given as goal

abbrev pub invariant-commands : goal.invariant-commands
invariant-commands l = record {
  player : l.self.player ≡ l.fn.self.player;
  rules : l.self.rules ≡ l.fn.self.rules;
  same_lines : l.self.devices.source.lines ≡ l.fn.self.devices.source.lines;
  within : l.self.devices.source.taken ≤ length l.fn.self.devices.source.lines;
  unspent : l.self.machine.spent ≡ false;
  steps : l.fn.self.rules.limit - l.self.machine.steps ≤ l.fn.self.rules.limit - l.fn.self.machine.steps;
  came : (S : State)
      → IsStageAt l.fn.self.player l.fn.self.rules l.fn.self.machine
      (drop l.fn.self.devices.source.taken l.fn.self.devices.source.lines) l.fn.self.devices.screen S
      → Came l.fn.self.player l.fn.self.rules S [] l.self.machine
      (drop l.self.devices.source.taken l.fn.self.devices.source.lines) l.self.devices.screen;
}

-- each step is below the rules
abbrev pub decreases-commands : goal.decreases-commands
decreases-commands l = l.fn.self.rules.limit - l.self.machine.steps
