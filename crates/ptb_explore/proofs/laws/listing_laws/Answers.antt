-- This file answers that the listings of every reader have their laws.
use Rattle.ptb_explore.proofs.ListingLaws.{listing_laws}
use Rattle.ptb_explore.proofs.laws.listing_laws.Goals as goal

pub returns : goal.returns
returns g c = λ play most reads. listing_laws play most reads
