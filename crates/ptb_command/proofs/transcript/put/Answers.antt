-- This file answers what is left to prove of `put`.
use Rattle.std.proofs.Common.{refl}
use Rattle.ptb_command.proofs.ShownBytes.{shown, not_shown}
use Rattle.ptb_command.proofs.ShownPieces.{shown_err}
use Rattle.ptb_command.proofs.transcript.put.Goals as goal

pub returns-in_err-put : goal.returns-in_err-put
returns-in_err-put g c d cells =
    shown_err _ _ _ _ _ c.from_residual.ensures.1
    (not_shown _ _ d _ cells _ c.in_err-put.ensures.fault c.in_err-put.ensures.later c.in_err-put.ensures.same_borrow
    refl _ c.in_err-put.ensures.kind c.in_err-put.ensures.write c.in_err-put.ensures.unfailed
    c.in_err-put.ensures.memory)

pub returns : goal.returns
returns g c d cells =
    shown _ _ d _ cells _
    (record { shown = c.in_ok-put.ensures.ok; same_borrow = c.in_ok-put.ensures.same_borrow; same_memory = refl })
    (c.in_ok-put.ensures.unfailed (λ e. cc)) _ c.fresh_after.ensures
