-- This file says what is gathered after some of the pieces.
use Rattle.std.proofs.Common.{◌≡◌, ◌++◌, take}
use Rattle.std.specs.List.{flat_map}
use Rattle.ptb_text.specs.Device.{Gathers}
use Rattle.ptb_text.proofs.output_buffer.OutputBuffer.put_all.Given as goal

abbrev pub invariant-loop-piece : goal.invariant-loop-piece
invariant-loop-piece g l = record {
  unfailed : g.W.Write.failures l.writer ≡ g.W.Write.failures l.initial.writer;
  gathered : Gathers (g.W.Write.contents l.initial.writer) (g.W.Write.contents l.writer)
      (l.initial.self ++ flat_map (λ p. p.now) (take l.piece-index l.pieces)) l.self;
}
