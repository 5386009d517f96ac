-- This file answers that the chances of all runs of a reader add up to 1.
use Rattle.ptb_chances.proofs.ChanceSums.{whole_chance, sum_positive}
use Rattle.ptb_chances.proofs.laws.chance_laws.Goals as goal

pub returns-clause-sum : goal.returns-clause-sum
returns-clause-sum g c = λ play most reads. whole_chance play most reads

pub returns-clause-positive : goal.returns-clause-positive
returns-clause-positive g c = λ play most reads. sum_positive play most reads
