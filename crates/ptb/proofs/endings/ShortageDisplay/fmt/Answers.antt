-- This file proves that the limit is written.
use Rattle.std.proofs.Common.{append_assoc}
use Rattle.std.proofs.Output.{has_written_of_eq}
use Rattle.ptb.proofs.endings.ShortageDisplay.fmt.Goals as goal

pub returns-in-Commands-clause-writes : goal.returns-in-Commands-clause-writes
returns-in-Commands-clause-writes g c plain ok =
    rw c.in-Commands.is (has_written_of_eq _ _ _ _ _ (simp (append_assoc, c.plural-plural.ensures))
    (c.write.ensures.writes plain ok))
