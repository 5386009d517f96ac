-- This file passes on the lemmas that proofs of the crates above may cite. It declares none.

pub use Rattle.ptb_options.proofs.AnswerTexts.{SpellsItem-first, SpellsNumber-first, item_is_number}
pub use Rattle.ptb_options.proofs.AnswerTexts.{item_is_numbers, one_item, word_of_items, word_of_list}
pub use Rattle.ptb_options.proofs.OptionReads.{first_of-get_str}
