-- This file passes on the lemmas that proofs of the crates above may cite. It declares none.

pub use Rattle.ptb_machine.proofs.ProgramCodes.{next_ahead}
pub use Rattle.ptb_machine.proofs.WriterRuns.{takes_prefix}
pub use Rattle.ptb_machine.proofs.RunStart.{fits_at_first}
pub use Rattle.ptb_machine.proofs.AnswerBounds.{bounds-append, is_answer_from, length-bounds}
pub use Rattle.ptb_machine.proofs.EveryEnding.{every_ending, of_turn}
pub use Rattle.ptb_machine.proofs.MemoryFaults.{fault_in_memory}
