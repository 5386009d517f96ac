-- This file says what is kept while a run is played whose answers are drawn.
use Rattle.std.proofs.Common.{◌≡◌, ◌-◌, drop, false}
use Rattle.ptb_answers.specs.Seeds.{seeded_choices}
use Rattle.ptb_machine.specs.Steps.{FitsProgram}
use Rattle.ptb_explore.specs.PlannedPlays.{IsRunPrefix}
use Rattle.ptb_explore.proofs.sampler.play_drawn.Given as goal

abbrev pub invariant-steps : goal.invariant-steps
invariant-steps l = record {
  plan : (seeded_choices l.chooser).plan ≡ (seeded_choices l.fn.chooser).plan;
  same_lines : l.source.lines ≡ l.fn.lines;
  unspent : l.machine.spent ≡ false;
  fits : FitsProgram l.fn.player l.machine;
  run_prefix : IsRunPrefix l.fn.player l.fn.lines l.rules (seeded_choices l.chooser) l.screen
      (drop l.source.taken l.source.lines) l.machine;
}

-- each step is below the limit
abbrev pub decreases-steps : goal.decreases-steps
decreases-steps l = l.rules.limit - l.machine.steps
