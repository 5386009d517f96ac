-- This file says what is kept while a run is played.
use Rattle.std.proofs.Common.{◌≡◌, ◌≤◌, ◌-◌, length, drop, false}
use Rattle.ptb_machine.specs.Steps.{FitsProgram}
use Rattle.ptb_explore.specs.Copies.{AreCopies}
use Rattle.ptb_explore.specs.PlannedPlays.{IsRunPrefix}
use Rattle.ptb_explore.specs.Recorders.{recorder_choices}
use Rattle.ptb_explore.proofs.runner.Runner.play_on.Given as goal

abbrev pub invariant-loop-ending : goal.invariant-loop-ending
invariant-loop-ending l = record {
  same : l.self ≡ record l.fn.self { chooser = l.self.chooser; copies = l.self.copies };
  program : l.self.player ≡ l.fn.self.player;
  plan : (recorder_choices l.self.chooser).plan ≡ (recorder_choices l.fn.self.chooser).plan;
  same_lines : l.source.lines ≡ l.fn.source.lines;
  within : l.source.taken ≤ length l.fn.source.lines;
  unspent : l.machine.spent ≡ false;
  fits : FitsProgram l.self.player l.machine;
  run_prefix : IsRunPrefix l.self.player l.fn.source.lines l.fn.self.rules (recorder_choices l.self.chooser) l.screen
      (drop l.source.taken l.source.lines) l.machine;
  copies : AreCopies l.self.player l.fn.source.lines l.fn.self.rules
      (recorder_choices l.self.chooser).taken l.screen l.self.copies.kept.items;
}

-- each step is below the rules
abbrev pub decreases-loop-ending : goal.decreases-loop-ending
decreases-loop-ending l = l.fn.self.rules.limit - l.machine.steps
