-- This file says what the loops of `Write::write_all` keep.
use Rattle.std.proofs.Common.{◌≡◌, ◌-◌, ◌≤◌, ℕ, length}
use Rattle.ptb_text.specs.Device.{Gathers}
use Rattle.ptb_text.proofs.device.Write.write_all.Given as goal

-- no write failed, the bytes before the rest were taken, and of those that are taken without failing so many are left
abbrev pub invariant-loop-rest : goal.invariant-loop-rest
invariant-loop-rest g l = record {
  unfailed : g.Self.Write.failures l.self ≡ g.Self.Write.failures l.initial.self;
  taken : Gathers (g.Self.Write.contents l.initial.self) (g.Self.Write.contents l.self) l.bytes l.rest;
  sure : (k : ℕ) → length l.bytes ≤ k → g.Self.Write.takes l.initial.self k
      → g.Self.Write.takes l.self (k - (length l.bytes - length l.rest));
}

abbrev pub decreases-loop-rest : goal.decreases-loop-rest
decreases-loop-rest g l = length l.rest
