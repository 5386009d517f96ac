-- This file passes on the lemmas that proofs of the crates above may cite. It declares none.

pub use Rattle.ptb_expr.proofs.ChooserStates.{with_answers_nil, with_answers_twice}
pub use Rattle.ptb_expr.proofs.ValueReads.{random_number_reader}
