-- This file answers what is left to prove of `PendingOutput::put`.
use Rattle.std.proofs.Common.{refl}
use Rattle.ptb_command.specs.declared.stop.CommandStop.TheVariants as stops
use Rattle.ptb_command.specs.Devices.{screen_state, with_screen}
use Rattle.ptb_command.specs.Stops.{as_stop}
use Rattle.ptb_command.specs.Traces.{trace}
use Rattle.ptb_command.proofs.GatheredBytes.{gathered, unflushed, flushed_gathered, flushed_shown}
use Rattle.ptb_command.proofs.ShownPieces.{shown_err}
use Rattle.ptb_command.proofs.pending_output.PendingOutput.put.Goals as goal

pub returns-then-try_append : goal.returns-then-try_append
returns-then-try_append g c d cells =
    gathered (trace (with_screen (screen_state g.S.Screen c.args.screen.now) d) c.args.fresh.now cells) _ _ _
    (c.if-try_append.ensures.taken refl)

-- there was no room
pub returns-in_err-flush : goal.returns-in_err-flush
returns-in_err-flush g c d cells =
    let stop = stops.Device c.in_err-flush.field-0.0 in
    shown_err _ _ _ _ _ c.from_residual.ensures.1
    (unflushed _ _ _ _ _ _ c.flush.ensures.empty stop
    (rw (c.if-try_append.ensures.full refl) at (c.in_err-flush.ensures.comes d cells)))

pub returns-then-try_append-2 : goal.returns-then-try_append-2
returns-then-try_append-2 g c d cells =
    flushed_gathered _ _ _ _ _ _ c.flush.ensures.empty _ (c.if-try_append-2.ensures.taken refl)
    (rw (c.if-try_append.ensures.full refl) at (c.in_ok-flush.ensures.comes d cells))

pub returns : goal.returns
returns g c d cells =
    flushed_shown _ _ _ _ _ _ c.flush.ensures.empty _ (c.if-try_append-2.ensures.full refl) _ _
    (as_stop c.put.result) (rw (c.if-try_append.ensures.full refl) at (c.in_ok-flush.ensures.comes d cells))
    (c.put.ensures d cells)
