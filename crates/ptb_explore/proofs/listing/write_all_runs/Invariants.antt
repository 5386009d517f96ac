-- This file says what was written after some of the reports.
use Rattle.std.proofs.Common.{◌≡◌, ◌≤◌, length}
use Rattle.ptb_machine.specs.RunTree.{runs_left, runs_after}
use Rattle.ptb_explore.specs.Report.{report}
use Rattle.ptb_explore.specs.Explorations.{PlaysRuns, play_of, most_of}
use Rattle.ptb_explore.proofs.Progress.{ListingProgress}
use Rattle.ptb_explore.proofs.listing.write_all_runs.Given as goal

abbrev pub invariant-loop-form : goal.invariant-loop-form
invariant-loop-form g l =
    let play = play_of l.fn.explorer in
    record {
      same : l.explorer ≡ record l.fn.explorer
          { front = l.explorer.front; kept = l.explorer.kept; played = l.explorer.played };
      rises : l.fn.explorer.played ≤ l.explorer.played;
      played : PlaysRuns l.fn.explorer l.explorer;
      unfailed : g.W.Write.failures l.writer ≡ g.W.Write.failures l.fn.writer;
      progress : ListingProgress play (most_of l.fn.explorer) l.fn.explorer.prefix (report l.fn.form play)
          (runs_left play (most_of l.fn.explorer) l.fn.explorer.prefix l.fn.explorer.front l.fn.first)
          l.fn.explorer.front l.explorer.front l.remaining
          (g.W.Write.contents l.fn.writer) (g.W.Write.contents l.writer) l.written;
    }

-- fewer runs are left after each report
abbrev pub decreases-loop-form : goal.decreases-loop-form
decreases-loop-form g l =
    length (runs_after (play_of l.fn.explorer) (most_of l.fn.explorer) l.fn.explorer.prefix l.explorer.front)
