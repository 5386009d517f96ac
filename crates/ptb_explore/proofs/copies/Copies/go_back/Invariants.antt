-- This file says that the copies that were dropped had taken more answers.
use Rattle.std.proofs.Common.{length}
use Rattle.ptb_explore.specs.Copies.{GoesBack}
use Rattle.ptb_explore.proofs.copies.Copies.go_back.Given as goal

abbrev pub invariant-loop-newest : goal.invariant-loop-newest
invariant-loop-newest l = GoesBack l.most l.fn.self.kept.items l.self.kept.items

abbrev pub decreases-loop-newest : goal.decreases-loop-newest
decreases-loop-newest l = length l.self.kept.items
