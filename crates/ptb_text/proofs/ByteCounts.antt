-- This file proves how the counts of bytes add up while a reader is read in pieces.
-- Main lemma: `IsCounted_more`.
use Rattle.std.proofs.Common.{ℕ, zero, suc, ◌+◌, arith}
use Rattle.ptb_text.specs.Device.{IsCounted}

-- what is counted in parts is counted in the whole
pub IsCounted_none : (a : ℕ) → IsCounted a a 0
IsCounted_none a = record { at_most = (omega arith, omega arith); exactly = λ some. absurd (omega arith) }

pub IsCounted_more : (a b c n k : ℕ) → IsCounted a b n → IsCounted b c k → IsCounted a c (n + k)
IsCounted_more a b c zero zero first second = record {
  at_most = (omega (arith, first.at_most.0, second.at_most.0), omega (arith, first.at_most.1, second.at_most.1));
  exactly = λ some. absurd (omega arith);
}
IsCounted_more a b c zero (suc k) first second = record {
  at_most = (omega (arith, first.at_most.0, second.at_most.0), omega (arith, first.at_most.1, second.at_most.1));
  exactly = λ _. omega (arith, first.at_most.0, first.at_most.1, second.exactly (omega arith));
}
IsCounted_more a b c (suc n) zero first second = record {
  at_most = (omega (arith, first.at_most.0, second.at_most.0), omega (arith, first.at_most.1, second.at_most.1));
  exactly = λ _. omega (arith, first.exactly (omega arith), second.at_most.0, second.at_most.1);
}
IsCounted_more a b c (suc n) (suc k) first second = record {
  at_most = (omega (arith, first.at_most.0, second.at_most.0), omega (arith, first.at_most.1, second.at_most.1));
  exactly = λ _. omega (arith, first.exactly (omega arith), second.exactly (omega arith));
}
