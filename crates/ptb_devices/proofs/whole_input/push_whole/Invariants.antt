-- This file says what the loops of `push_whole` keep.
use Rattle.std.proofs.Common.{length}
use Rattle.ptb_devices.proofs.CutLines.{AddsUpTo}
use Rattle.ptb_devices.proofs.whole_input.push_whole.Given as goal

-- the lines of the bytes before the rest were added
abbrev pub invariant-loop-count : goal.invariant-loop-count
invariant-loop-count l = AddsUpTo l.initial.cutter l.initial.rest l.rest l.initial.lines.items l.lines.items l.cutter

abbrev pub decreases-loop-count : goal.decreases-loop-count
decreases-loop-count l = length l.rest
