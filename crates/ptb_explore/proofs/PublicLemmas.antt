-- This file passes on the lemmas that proofs of the crates above may cite. It declares none.

pub use Rattle.ptb_explore.proofs.Order.{same_from}
pub use Rattle.ptb_explore.proofs.Lists.{IsIn, in_contained}
pub use Rattle.ptb_explore.proofs.Exits.{on_ok_both}
