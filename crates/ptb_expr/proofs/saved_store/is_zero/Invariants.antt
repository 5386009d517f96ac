-- This file has the invariant of the search for a value that isn't 0.
use Rattle.std.proofs.Common.{◌≡◌, take, replicate}
use Rattle.std.specs.Prelude.{pos}
use Rattle.ptb_expr.proofs.saved_store.is_zero.Given as goal

abbrev pub invariant-loop-i : goal.invariant-loop-i
invariant-loop-i l = take l.i l.values ≡ replicate l.i (pos 0)
