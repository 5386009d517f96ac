-- This file says that the values up to a place are those in front, and zeros after them.
use Rattle.std.proofs.Common.{◌≡◌, ◌≤◌, ◌-◌, ◌++◌, length, take, replicate}
use Rattle.std.specs.Prelude.{pos}
use Rattle.ptb_expr.specs.Store.{IsZeroFrom}
use Rattle.ptb_expr.proofs.saved_store.put_front.Given as goal

abbrev pub invariant-zeros : goal.invariant-zeros
invariant-zeros l = record {
  same_length : length l.values ≡ length l.fn.values;
  longer : length l.front ≤ l.at;
  within : l.at ≤ l.end;
  fits : l.end ≤ length l.fn.values;
  zeros : IsZeroFrom l.end l.values;
  put : take l.at l.values ≡ l.front ++ replicate (l.at - length l.front) (pos 0);
}

abbrev pub decreases-zeros : goal.decreases-zeros
decreases-zeros l = l.end - l.at
