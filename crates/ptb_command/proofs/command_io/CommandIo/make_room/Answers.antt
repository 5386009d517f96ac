-- This file answers what is left to prove of `CommandIo::make_room`.
use Rattle.ptb_command.proofs.PartRefinement.{refines_part_refl}
use Rattle.ptb_command.proofs.Stops.{comes_err}
use Rattle.ptb_command.proofs.command_io.CommandIo.make_room.Goals as goal

pub returns-in_err-flush-clause-comes : goal.returns-in_err-flush-clause-comes
returns-in_err-flush-clause-comes g c given cells =
    comes_err _ _ _ _ _ _ _ c.from_residual.ensures.1
    (rw c.flush.ensures.empty (c.in_err-flush.ensures.comes given cells))

pub returns-in_ok-flush-clause-comes : goal.returns-in_ok-flush-clause-comes
returns-in_ok-flush-clause-comes g c given cells =
    rw c.flush.ensures.empty (c.in_ok-flush.ensures.comes given cells)

pub returns-else-room-count-clause-comes : goal.returns-else-room-count-clause-comes
returns-else-room-count-clause-comes g c given cells = refines_part_refl _ _
