-- This file answers that pieces are gathered one after the other.
use Rattle.std.proofs.Common.{◌∙◌, arith, refl}
use Rattle.ptb_text.proofs.GatheredBytes.{gathers_piece, gathers_pieces, some_piece}
use Rattle.ptb_text.proofs.WrittenTexts.{failed_after, fails}
use Rattle.ptb_text.proofs.output_buffer.OutputBuffer.put_all.Goals as goal

pub returns-in_err-put : goal.returns-in_err-put
returns-in_err-put g c =
    let failed = c.in_err-put.ensures.gathers in
    fails _ _ _ c.from_residual.result _ c.from_residual.ensures.1
    (some_piece (λ p. p.now) c.args.pieces.now c.loop-piece.piece-index _ c.loop-piece-test.true _ refl _ _ _
    c.args.self.now c.loop-piece.self c.loop-piece.invariant.gathered failed.fault)
    (failed_after _ _ _ c.loop-piece.invariant.unfailed failed.failed) failed.kind

pub loop-piece-preserved : goal.loop-piece-preserved
loop-piece-preserved g c = record {
  unfailed = c.in_ok-put.ensures.gathers.unfailed ∙ c.loop-piece.invariant.unfailed;
  gathered = gathers_piece (λ p. p.now) c.args.pieces.now c.loop-piece.piece-index _ c.loop-piece-test.true _ refl _ _ _
      c.args.self.now c.loop-piece.self c.loop-piece.invariant.gathered _ c.in_ok-put.ensures.gathers.ok;
}

pub returns : goal.returns
returns g c = record {
  ok = gathers_pieces (λ p. p.now) c.args.pieces.now c.loop-piece.piece-index _ _ c.args.self.now c.loop-piece.self
      (omega (arith, c.loop-piece-test.false)) c.loop-piece.invariant.gathered;
  fault = tt;
  failed = tt;
  kind = tt;
  unfailed = c.loop-piece.invariant.unfailed;
}
