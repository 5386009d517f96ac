-- This file answers that the tree of every reader has its laws.
use Rattle.ptb_explore.proofs.Tree.{tree_laws}
use Rattle.ptb_explore.proofs.laws.tree_laws.Goals as goal

pub returns : goal.returns
returns g c = λ play most reads. tree_laws play most reads
