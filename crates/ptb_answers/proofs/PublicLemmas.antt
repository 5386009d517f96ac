-- This file passes on the lemmas that proofs of the crates above may cite. It declares none.

pub use Rattle.ptb_answers.proofs.Seeds.{after_sum, drawn_append, length-drawn, same_generator}
pub use Rattle.ptb_answers.proofs.DrawnAnswers.{Few, answers_by-drawn, drawn_alone, few_after}
pub use Rattle.ptb_answers.proofs.Readers.{Asked, Came, Gave, Refused, answer_reader, bind_reader}
pub use Rattle.ptb_answers.proofs.Readers.{bind_reader_alone, came, closed_is, done_reader, failure_reader}
pub use Rattle.ptb_answers.proofs.Readers.{map_reader, open_is, success_reader, then_reader, then_reader_by}
pub use Rattle.ptb_answers.proofs.Readers.{whole_is, wider_reader}
