-- This file says what the loop over blanks keeps.
use Rattle.std.proofs.Common.{length, ◌-◌, ◌≡◌, ◌≤◌}
use Rattle.ptb_text.specs.Words.{past_blanks}
use Rattle.ptb_text.proofs.numerals.after_more_blanks.Given as goal

abbrev pub invariant-loop-end : goal.invariant-loop-end
invariant-loop-end l = record {
  value : past_blanks l.text l.end ≡ past_blanks l.text l.place;
  from : l.place ≤ l.end;
  within : l.end ≤ length l.text;
}

abbrev pub decreases-loop-end : goal.decreases-loop-end
decreases-loop-end l = length l.text - l.end
