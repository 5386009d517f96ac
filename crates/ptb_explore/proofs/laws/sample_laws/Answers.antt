-- This file answers that the samples of every reader have their laws.
use Rattle.ptb_explore.proofs.Samples.{sample_laws}
use Rattle.ptb_explore.proofs.laws.sample_laws.Goals as goal

pub returns : goal.returns
returns g c = λ play most reads. sample_laws play most reads
