-- This file answers that the lists that split the runs of every reader have their laws.
use Rattle.ptb_explore.proofs.StoppedPlays.{beginning_laws}
use Rattle.ptb_explore.proofs.laws.beginning_laws.Goals as goal

pub returns : goal.returns
returns g c = λ play most n reads. beginning_laws play n most reads
