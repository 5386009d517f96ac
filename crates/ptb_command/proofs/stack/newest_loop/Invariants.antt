-- This file has the invariant of the search for the newest loop.
use Rattle.std.proofs.Common.{◌≡◌, ◌≤◌, length, take, reverse}
use Rattle.ptb_command.specs.Stacks.{loop_of}
use Rattle.ptb_command.proofs.stack.newest_loop.Given as goal

abbrev pub invariant-levels : goal.invariant-levels
invariant-levels l = (l.k ≤ length l.opens)
    × (loop_of l.letter (reverse l.opens) ≡ loop_of l.letter (reverse (take l.k l.opens)))

abbrev pub decreases-levels : goal.decreases-levels
decreases-levels l = l.k
