-- This file passes on the lemmas that proofs of the crates above may cite. It declares none.

pub use Rattle.ptb_command.proofs.ReadItems.{is_whole, item_in_front}
pub use Rattle.ptb_command.proofs.NextCommands.{next_here, next_last, next_later, placed}
pub use Rattle.ptb_command.proofs.MachinePlaces.{is_placed, not_placed}
pub use Rattle.ptb_command.proofs.Sameness.{same_loop}
pub use Rattle.ptb_command.proofs.FirstParts.{next_letter}
pub use Rattle.ptb_command.proofs.FoundLoops.{found_letter, same_pair, some_none}
pub use Rattle.ptb_command.proofs.Borrows.{borrows_on, borrows_then}
pub use Rattle.ptb_command.proofs.Assignments.{assign_refines_part, store_refines_part}
pub use Rattle.ptb_command.proofs.Dispatch.{begun_next}
pub use Rattle.ptb_command.proofs.CommandResults.{Alike, refines_by_part, refines_then, refines_turns, trace_of}
pub use Rattle.ptb_command.proofs.Effects.{act_keeps, begins_itself, begins_joined, command_change, finish_end}
pub use Rattle.ptb_command.proofs.Effects.{input_part, parts_part, takes_itself, takes_joined}
pub use Rattle.ptb_command.proofs.Evaluations.{element_there, evaluated, never_valued, plain_refines, plain_valued}
pub use Rattle.ptb_command.proofs.Exchanges.{exchanges_none, exchanges_then, has_broken_from, no_lines, shows_then}
pub use Rattle.ptb_command.proofs.LastOperations.{gosub_done, goto_done, if_continues, return_done, turn_begun}
pub use Rattle.ptb_command.proofs.LastOperations.{turn_done, turn_next}
pub use Rattle.ptb_command.proofs.PartRefinement.{leaves_at, leaves_itself, leaves_then, leaves_to, leaves_under}
pub use Rattle.ptb_command.proofs.PartRefinement.{refines_part_into}
pub use Rattle.ptb_command.proofs.PlainCommands.{EndsPlainly, begins_with, does_plainly, done_ends, drop_here}
pub use Rattle.ptb_command.proofs.PlainCommands.{last_completes, set_completes, variable_set, variable_valued}
pub use Rattle.ptb_command.proofs.Stops.{asks_before, wants_before}
pub use Rattle.ptb_command.proofs.Calls.{called}
pub use Rattle.ptb_command.proofs.MissedLines.{err_then, miss_unmissed, missed_from, not_missed, not_missed_then}
