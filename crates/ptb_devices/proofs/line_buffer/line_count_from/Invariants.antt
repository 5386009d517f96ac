-- This file says what the loop of `line_count_from` keeps.
use Rattle.std.proofs.Common.{◌≤◌, ◌-◌, length}
use Rattle.ptb_text.specs.Lines.{line_limit}
use Rattle.ptb_devices.proofs.CutLines.{KeepsUpTo}
use Rattle.ptb_devices.proofs.line_buffer.line_count_from.Given as goal

-- the bytes before the index are kept as they are, unless they are too many
abbrev pub invariant-loop-count : goal.invariant-loop-count
invariant-loop-count l = l.count ≤ line_limit → KeepsUpTo l.bytes l.count

abbrev pub decreases-loop-count : goal.decreases-loop-count
decreases-loop-count l = length l.bytes - l.count
