-- This file says that the place is not past the end.
use Rattle.std.proofs.Common.{◌≤◌}
use Rattle.ptb_chances.proofs.last_line.line_start.Given as goal

abbrev pub invariant-loop-start : goal.invariant-loop-start
invariant-loop-start l = l.start ≤ l.end

abbrev pub decreases-loop-start : goal.decreases-loop-start
decreases-loop-start l = l.start
