-- This file says what was written after some of the runs of a sample.
use Rattle.std.proofs.Common.{◌≡◌, ◌≤◌, []}
use Rattle.ptb_machine.specs.Play.{play}
use Rattle.ptb_machine.specs.Questions.{most_answers}
use Rattle.ptb_explore.specs.Report.{report}
use Rattle.ptb_explore.proofs.Samples.{Sampled}
use Rattle.ptb_explore.proofs.sampler.write_runs.Given as goal

abbrev pub invariant-loop-remaining : goal.invariant-loop-remaining
invariant-loop-remaining g l =
    let game = play l.fn.sampler.player l.fn.lines l.fn.rules in
    record {
      program : l.sampler.player ≡ l.fn.sampler.player;
      fresh : l.sampler.chooser.bounds ≡ [];
      fewer : l.remaining ≤ l.fn.sample.runs;
      unfailed : g.W.Write.failures l.writer ≡ g.W.Write.failures l.fn.writer;
      sampled : Sampled game (most_answers l.fn.sampler.player l.fn.lines l.fn.rules.limit)
          (report l.fn.sample.form game) l.fn.sampler.chooser.first l.fn.sample.runs l.sampler.chooser.first l.remaining
          (g.W.Write.contents l.fn.writer) (g.W.Write.contents l.writer);
    }

abbrev pub decreases-loop-remaining : goal.decreases-loop-remaining
decreases-loop-remaining g l = l.remaining
