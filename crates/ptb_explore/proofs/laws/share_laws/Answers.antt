-- This file answers that the shares of every reader have their laws.
use Rattle.ptb_explore.proofs.Shares.{share_laws}
use Rattle.ptb_explore.proofs.laws.share_laws.Goals as goal

pub returns : goal.returns
returns g c = λ play most reads. share_laws play most reads
