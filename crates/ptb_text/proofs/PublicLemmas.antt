-- This file passes on the lemmas that proofs of the crates above may cite. It declares none.

pub use Rattle.ptb_text.proofs.Edits.{both}
pub use Rattle.ptb_text.proofs.GatheredBytes.{gathers_more, gathers_piece, gathers_same, some_after}
pub use Rattle.ptb_text.proofs.GatheredBytes.{some_more, some_piece}
pub use Rattle.ptb_text.proofs.SoundPrograms.{both_true}
pub use Rattle.ptb_text.proofs.WrittenTexts.{failed_after, fails, gathered_same, text_more, text_same}
pub use Rattle.ptb_text.proofs.ByteCounts.{IsCounted_more, IsCounted_none}
pub use Rattle.ptb_text.proofs.LimitedReads.{ReadsUpTo_after, TakesUpTo, TakesUpTo_more, TakesUpTo_none, all_taken}
pub use Rattle.ptb_text.proofs.LimitedReads.{falls, told_as}
