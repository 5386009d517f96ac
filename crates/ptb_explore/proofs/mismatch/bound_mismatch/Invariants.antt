-- This file says what is known of the items that were looked at.
use Rattle.std.proofs.Common.{◌≡◌, take, true}
use Rattle.ptb_answers.specs.AskedQuestions.{bounds_in}
use Rattle.ptb_explore.specs.MarkedRuns.{states_bounds}
use Rattle.ptb_explore.proofs.mismatch.bound_mismatch.Given as goal

-- they state no other bounds
abbrev pub invariant-loop-k : goal.invariant-loop-k
invariant-loop-k l = states_bounds (take l.k l.list) (bounds_in l.asked) ≡ true
