-- This file answers that the line of a fault is shown, and then one piece after the other.
use Rattle.std.proofs.Common.{Err, Ok, append-nil, arith, sym}
use Rattle.std.specs.List.{flat_map}
use Rattle.ptb_command.specs.Devices.{screen_state, with_screen}
use Rattle.ptb_command.specs.Traces.{trace}
use Rattle.ptb_command.proofs.GatheredBytes.{gathered}
use Rattle.ptb_command.proofs.ShownPieces.{first_fails, piece_fails, piece_shown, pieces_shown, shown_err, shown_then}
use Rattle.ptb_command.proofs.fault_words.put_fault.Goals as goal

pub returns-in_err-put : goal.returns-in_err-put
returns-in_err-put g c d cells =
    shown_err _ _ _ _ _ c.from_residual.ensures.1
    (first_fails _ _ _ _ _ _ (flat_map (λ p. p.now) c.args.pieces.now) _
    (rw c.fault_line.ensures at rw c.new-pending.ensures at (c.in_err-put.ensures d cells)))

pub loop-piece-init : goal.loop-piece-init
loop-piece-init g c = record {
  shown = λ d cells.
      gathered (trace (with_screen (screen_state g.S.Screen c.put.new.screen) d) c.put.new.fresh cells) _ _ _
      (sym (append-nil c.put.new.self));
}

pub loop-piece-preserved : goal.loop-piece-preserved
loop-piece-preserved g c = record {
  shown = λ d cells.
      piece_shown (λ p. p.now) c.args.pieces.now c.loop-piece.piece-index _ c.loop-piece-test.true
      (c.loop-piece.invariant.shown d cells) _ (Ok tt) (c.in_ok-put-2.ensures d cells);
}

pub returns-in_err-put-2 : goal.returns-in_err-put-2
returns-in_err-put-2 g c d cells =
    shown_err _ _ _ _ _ c.from_residual-in_err-put-2.ensures.1
    (shown_then (trace _ _ _) _ _ (Err _)
    (rw c.fault_line.ensures at rw c.new-pending.ensures at (c.in_ok-put.ensures d cells))
    (piece_fails (λ p. p.now) c.args.pieces.now c.loop-piece.piece-index _ c.loop-piece-test.true
    (c.loop-piece.invariant.shown d cells) _ _ _ c.put-in-loop-piece.new.self _ (c.in_err-put-2.ensures d cells)))

pub returns : goal.returns
returns g c d cells =
    shown_then _ _ _ c.flush.result
    (rw c.fault_line.ensures at rw c.new-pending.ensures at (c.in_ok-put.ensures d cells))
    (pieces_shown (λ p. p.now) c.args.pieces.now c.loop-piece.piece-index _ (omega (arith, c.loop-piece-test.false))
    (c.loop-piece.invariant.shown d cells) c.flush.result (c.flush.ensures.comes d cells))
