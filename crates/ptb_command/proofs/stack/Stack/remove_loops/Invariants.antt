-- This file has the invariant of the removal of loops.
use Rattle.std.proofs.Common.{◌≡◌, ◌≤◌, length, take, drop, reverse}
use Rattle.std.specs.Prelude.{◌++◌}
use Rattle.ptb_command.specs.Stacks.{without}
use Rattle.ptb_command.proofs.stack.Stack.remove_loops.Given as goal

abbrev pub invariant-levels : goal.invariant-levels
invariant-levels l = (l.k ≤ length l.self-inside.opens.items) × (reverse (drop l.k l.self-inside.opens.items)
    ++ without l.letter (reverse (take l.k l.self-inside.opens.items)) ≡ without l.letter l.fn.self)

abbrev pub decreases-levels : goal.decreases-levels
decreases-levels l = l.k
