-- This file says that the answers after the place are at their bounds.
use Rattle.std.proofs.Common.{ℕ, ◌<◌, ◌≤◌, length}
use Rattle.ptb_answers.specs.AskedQuestions.{answers_in, bounds_in}
use Rattle.ptb_explore.specs.Plans.{IsAtBound}
use Rattle.ptb_explore.proofs.plan.last_below.Given as goal

abbrev pub invariant-loop-i : goal.invariant-loop-i
invariant-loop-i l = (k : ℕ) → l.i ≤ k → k < length (answers_in l.asked)
    → IsAtBound (answers_in l.asked) (bounds_in l.asked) k
