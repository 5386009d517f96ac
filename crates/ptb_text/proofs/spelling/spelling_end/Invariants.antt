-- This file says what the loop over a word's letters keeps.
use Rattle.std.proofs.Common.{false, length, ◌+◌, ◌≡◌, ◌≤◌, drop}
use Rattle.std.specs.Prelude.{nat_lt}
use Rattle.ptb_text.proofs.Words.{spelt}
use Rattle.ptb_text.proofs.spelling.spelling_end.Given as goal

abbrev pub invariant-loop-letter : goal.invariant-loop-letter
invariant-loop-letter l = record {
  at : l.at ≡ l.place + l.letter-index;
  within : l.at ≤ length l.text;
  value : spelt (nat_lt 0 l.letter-index) (drop l.letter-index l.letters) l.at
      (drop l.at l.text) ≡ spelt false l.letters l.place (drop l.place l.text);
}
