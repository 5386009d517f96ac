-- This file says what the loops of `list` keep.
use Rattle.std.proofs.Common.{◌≡◌, [], drop}
use Rattle.ptb_text.specs.Device.{Gathers}
use Rattle.ptb_text.specs.Statements.{listing}
use Rattle.ptb_text.proofs.listing.list.Given as goal

-- the lines so far were written, and no write failed
abbrev pub invariant-loop-at : goal.invariant-loop-at
invariant-loop-at g l = record {
  unfailed : g.W.Write.failures l.writer ≡ g.W.Write.failures l.initial.writer;
  taken : Gathers (g.W.Write.contents l.initial.writer) (g.W.Write.contents l.writer) (listing l.program.lines)
      (listing (drop l.at l.program.lines));
  empty : l.line ≡ [];
}
