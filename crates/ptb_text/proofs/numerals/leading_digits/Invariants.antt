-- This file says what the loop over digits keeps.
use Rattle.std.proofs.Common.{◌+◌, ◌≡◌, take, drop, min}
use Rattle.std.specs.List.{prefix_len}
use Rattle.ptb_text.specs.declared.numerals.TheConstants.{TOO_BIG}
use Rattle.ptb_text.specs.Digits.{is_digit, digits_value}
use Rattle.ptb_text.proofs.numerals.leading_digits.Given as goal

abbrev pub invariant-loop-count : goal.invariant-loop-count
invariant-loop-count l = record {
  value : l.value ≡ min (digits_value (take l.count l.text)) TOO_BIG;
  count : prefix_len is_digit l.text ≡ l.count + prefix_len is_digit (drop l.count l.text);
}
