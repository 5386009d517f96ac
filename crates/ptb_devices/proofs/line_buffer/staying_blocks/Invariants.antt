-- This file says what the loop of `staying_blocks` keeps.
use Rattle.std.proofs.Common.{◌≤◌, ◌+◌, ◌-◌, length}
use Rattle.ptb_devices.specs.CutLines.{StayUpTo}
use Rattle.ptb_devices.proofs.line_buffer.staying_blocks.Given as goal

-- the bytes before the count stay
abbrev pub invariant-loop-count : goal.invariant-loop-count
invariant-loop-count l = record {
  within : l.count ≤ length l.bytes;
  stay : StayUpTo l.bytes l.count;
}

abbrev pub decreases-loop-count : goal.decreases-loop-count
decreases-loop-count l = length l.bytes + 1 - l.count
