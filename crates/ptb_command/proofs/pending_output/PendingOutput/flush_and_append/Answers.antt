-- This file answers what is left to prove of `PendingOutput::flush_and_append`.
use Rattle.ptb_command.proofs.Stops.{comes_err}
use Rattle.ptb_command.proofs.pending_output.PendingOutput.flush_and_append.Goals as goal

pub returns-in_err-put : goal.returns-in_err-put
returns-in_err-put g c d cells = comes_err _ _ _ _ _ _ _ c.from_residual.ensures.1 (c.in_err-put.ensures d cells)

pub returns : goal.returns
returns g c d cells = c.in_ok-put.ensures d cells
