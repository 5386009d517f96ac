-- This file says what is shown or gathered after some of the pieces.
use Rattle.std.proofs.Common.{Ok, take}
use Rattle.std.specs.List.{flat_map}
use Rattle.ptb_expr.specs.Store.{Cells}
use Rattle.ptb_command.specs.Devices.{Devices, screen_state, with_screen}
use Rattle.ptb_command.specs.Traces.{trace, with_pending}
use Rattle.ptb_command.specs.ShowResults.{IsShown}
use Rattle.ptb_command.proofs.fault_words.put_fault.Given as goal

abbrev pub invariant-loop-piece : goal.invariant-loop-piece
invariant-loop-piece g l = record {
  shown : (d : Devices) (cells : Cells) → IsShown
      (with_pending l.initial.pending
      (trace (with_screen (screen_state g.S.Screen l.initial.screen) d) l.initial.fresh cells))
      (with_pending l.pending (trace (with_screen (screen_state g.S.Screen l.screen) d) l.fresh cells))
      (flat_map (λ p. p.now) (take l.piece-index l.pieces)) (Ok tt);
}
