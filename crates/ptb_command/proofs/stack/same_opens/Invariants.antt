-- This file has the invariant of the comparison of what is open.
use Rattle.std.proofs.Common.{◌≡◌, take}
use Rattle.ptb_command.proofs.stack.same_opens.Given as goal

abbrev pub invariant-loop-i : goal.invariant-loop-i
invariant-loop-i l = take l.i l.opens ≡ take l.i l.others
