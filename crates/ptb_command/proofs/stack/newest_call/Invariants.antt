-- This file has the invariant of the search for the newest call.
use Rattle.std.proofs.Common.{◌≡◌, ◌≤◌, length, take, reverse}
use Rattle.ptb_command.specs.Stacks.{call_of}
use Rattle.ptb_command.proofs.stack.newest_call.Given as goal

abbrev pub invariant-levels : goal.invariant-levels
invariant-levels l = (l.k ≤ length l.opens) × (call_of (reverse l.opens) ≡ call_of (reverse (take l.k l.opens)))

abbrev pub decreases-levels : goal.decreases-levels
decreases-levels l = l.k
