-- This file says that the plays after the answers so far were put in.
use Rattle.std.proofs.Common.{◌≡◌, ◌-◌}
use Rattle.std.specs.Prelude.{pos, ◌≤ℤ◌, unsigned_abs}
use Rattle.ptb_chances.specs.WaitingPlays.{PutsAnswers, planned, waiting_plays}
use Rattle.ptb_chances.proofs.worklist.Worklist.add_plans.Given as goal

abbrev pub invariant-loop-answer : goal.invariant-loop-answer
invariant-loop-answer l = record {
  state : l.self.state ≡ l.fn.self.state;
  low : pos 0 ≤ℤ l.answer;
  high : l.answer ≤ℤ l.bound;
  puts : PutsAnswers (planned l.fn.self.state l.fn.plan) l.bound (unsigned_abs l.answer) (waiting_plays l.fn.self)
      (waiting_plays l.self);
}

abbrev pub decreases-loop-answer : goal.decreases-loop-answer
decreases-loop-answer l = unsigned_abs l.bound - unsigned_abs l.answer
