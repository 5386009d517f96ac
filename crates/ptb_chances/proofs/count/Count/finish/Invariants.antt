-- This file says that with what is left to be played, the tally is the account of all runs.
use Rattle.std.proofs.Common.{◌≡◌}
use Rattle.ptb_chances.specs.CountedRuns.{IsTallied, work_to_do}
use Rattle.ptb_chances.specs.WaitingPlays.{waiting_plays}
use Rattle.ptb_chances.proofs.count.Count.finish.Given as goal

abbrev pub invariant-plans : goal.invariant-plans
invariant-plans g l = record {
  player : l.self.stage.player ≡ l.fn.self.stage.player;
  lines : l.self.stage.devices.source.lines ≡ l.fn.self.stage.devices.source.lines;
  rules : l.self.stage.rules ≡ l.fn.self.stage.rules;
  accounted : IsTallied l.fn.self.stage l.self.tally (waiting_plays l.self.work);
}

abbrev pub decreases-plans : goal.decreases-plans
decreases-plans g l = work_to_do l.fn.self.stage (waiting_plays l.self.work)
