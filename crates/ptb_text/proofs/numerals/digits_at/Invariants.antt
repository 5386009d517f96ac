-- This file says what the loop over digits keeps.
use Rattle.std.proofs.Common.{◌+◌, ◌-◌, ◌≡◌, ◌<◌, ◌≤◌, length, take, drop}
use Rattle.std.specs.List.{prefix_len}
use Rattle.ptb_text.specs.declared.numerals.TheConstants.{TOO_BIG}
use Rattle.ptb_text.specs.Digits.{is_digit, digits_value}
use Rattle.ptb_text.proofs.numerals.digits_at.Given as goal

abbrev pub invariant-loop-end : goal.invariant-loop-end
invariant-loop-end l = record {
  value : l.value ≡ digits_value (take (l.end - l.place) (drop l.place l.text));
  small : l.value < TOO_BIG;
  some : l.place < l.end;
  within : l.end ≤ length l.text;
  count : l.place + prefix_len is_digit (drop l.place l.text) ≡ l.end + prefix_len is_digit (drop l.end l.text);
}

abbrev pub decreases-loop-end : goal.decreases-loop-end
decreases-loop-end l = length l.text - l.end
