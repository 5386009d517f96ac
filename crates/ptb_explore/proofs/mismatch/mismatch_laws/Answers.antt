-- This file answers that every reader of answers has the laws of mismatches.
use Rattle.ptb_explore.proofs.Misfits.{mismatch_laws}
use Rattle.ptb_explore.proofs.mismatch.mismatch_laws.Goals as goal

pub returns : goal.returns
returns g c = λ play most reads. mismatch_laws play most reads
