-- This file answers what is left to prove of `PendingOutput::flush`.
use Rattle.ptb_command.specs.Stops.{as_stop}
use Rattle.ptb_command.proofs.GatheredBytes.{flush_comes}
use Rattle.ptb_command.proofs.ShownBytes.{shown_as}
use Rattle.ptb_command.proofs.pending_output.PendingOutput.flush.Goals as goal

pub returns-clause-comes : goal.returns-clause-comes
returns-clause-comes g c d cells =
    flush_comes _ _ _ c.args.self.now _ (as_stop c.put-result.result)
    (shown_as _ _ _ _ _ c.as_slice.ensures (c.put-result.ensures d cells))
