-- This file says what the loop of `wrong_number` keeps.
use Rattle.std.proofs.Common.{map}
use Rattle.ptb_options.proofs.NumberArguments.{ArePassed}
use Rattle.ptb_options.proofs.wrong_numbers.wrong_number.Given as goal

-- the arguments so far were skipped
abbrev pub invariant-loop-i : goal.invariant-loop-i
invariant-loop-i g l = ArePassed (map g.S.AsStr.text l.arguments) l.i
