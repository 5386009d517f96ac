-- This file says what was written after some of the lines.
use Rattle.std.proofs.Common.{◌≡◌, ◌≤◌, length, [], None}
use Rattle.ptb_explore.specs.Beginnings.{IsSameSearch, PlaysLists, beginning_line, split_play}
use Rattle.ptb_machine.specs.RunTree.{runs_after, runs_left}
use Rattle.ptb_explore.proofs.WrittenLines.{game_of}
use Rattle.ptb_explore.proofs.Progress.{ListingProgress}
use Rattle.ptb_explore.proofs.beginnings.write_beginnings.Given as goal

abbrev pub invariant-loop-fault : goal.invariant-loop-fault
invariant-loop-fault g l =
    let first = l.fn.beginnings in
    record {
      same : IsSameSearch first l.beginnings;
      rises : first.played ≤ l.beginnings.played;
      played : PlaysLists first l.beginnings;
      unfailed : g.W.Write.failures l.writer ≡ g.W.Write.failures l.fn.writer;
      progress : ListingProgress (game_of first) first.most [] (beginning_line l.fn.form (split_play first))
          (runs_left (game_of first) first.most [] first.front None) first.front l.beginnings.front None
          (g.W.Write.contents l.fn.writer) (g.W.Write.contents l.writer) l.written;
    }

-- fewer lists are left after each line
abbrev pub decreases-loop-fault : goal.decreases-loop-fault
decreases-loop-fault g l = length (runs_after (game_of l.fn.beginnings) l.fn.beginnings.most [] l.beginnings.front)
