-- This file answers what is left to prove of `PendingOutput::show`.
use Rattle.std.proofs.Common.{refl}
use Rattle.ptb_command.specs.Devices.{screen_state, with_screen}
use Rattle.ptb_command.specs.Traces.{trace}
use Rattle.ptb_command.proofs.GatheredBytes.{gathered}
use Rattle.ptb_command.proofs.pending_output.PendingOutput.show.Goals as goal

pub returns-then-try_append-clause-comes : goal.returns-then-try_append-clause-comes
returns-then-try_append-clause-comes g c d cells =
    gathered (trace (with_screen (screen_state g.S.Screen c.args.screen.now) d) c.args.fresh.now cells) _ _ _
    (c.if-try_append.ensures.taken refl)

pub returns-clause-comes : goal.returns-clause-comes
returns-clause-comes g c d cells = rw (c.if-try_append.ensures.full refl) at (c.flush_and_append.ensures d cells)
