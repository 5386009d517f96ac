-- This file proves goals of `put` by short searches, so that a planted bug is refused soon.
use Rattle.std.proofs.Common.{rules}
use Rattle.ptb_devices.proofs.screen.TextScreenScreen.put.Goals as goal

pub returns-in_err-extend_from_slice-clause-fault :
    goal.returns-in_err-extend_from_slice-clause-fault
returns-in_err-extend_from_slice-clause-fault c = search rules fits 50 depth 2

pub returns-clause-ok : goal.returns-clause-ok
returns-clause-ok c = search rules fits 50 depth 2
