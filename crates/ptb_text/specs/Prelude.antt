-- This file passes on the definitions that the clauses of this crate cite most. It declares nothing.
pub use Rattle.std.specs.List.{prefix_len, splice}
pub use Rattle.std.specs.Option.{option_copied}
pub use Rattle.ptb_text.specs.CursorState.{CursorState, bytes_left}
pub use Rattle.ptb_text.specs.Device.{CountsFaults, HasFailed, TakesSome, TakesSurely, CountsBytes, DeviceTakes}
pub use Rattle.ptb_text.specs.Device.{IsReliableDevice, device_inner, failure_count, given_count}
pub use Rattle.ptb_text.specs.Digits.{is_digit, digits_value, number_limit}
pub use Rattle.ptb_text.specs.EnteredLines.{IsLineFault, Enters}
pub use Rattle.ptb_text.specs.FoundParts.{past_byte, IsNextToken}
pub use Rattle.ptb_text.specs.Lines.{lines, tab_as_space}
pub use Rattle.ptb_text.specs.ProgramTexts.{FailsToLoad, HasTextAt, Loads, ReadsProgram}
pub use Rattle.ptb_text.specs.NumberOrder.{IsAt, IsGapFor, statement_at}
pub use Rattle.ptb_text.specs.Program.{laid_out, lengths, texts_length}
pub use Rattle.ptb_text.specs.Statements.{IsMemorySize, after_lines, program_limit, HasText, IsSound, IsText}
pub use Rattle.ptb_text.specs.Statements.{after_line, cost, first_number, if_room, is_statement, number_above, size_of}
pub use Rattle.ptb_text.specs.Statements.{text_limit, text_of_number, with_text, without_number}
pub use Rattle.ptb_text.specs.Streams.{WritesText, reads_of, writes_of}
pub use Rattle.ptb_text.specs.Words.{past_blanks, next_byte_at, is_over, token_at, pair_at, letter_at, number_at}
pub use Rattle.ptb_text.specs.Words.{is_number, quotation_at, quotation_of, is_text, IsPieceFrom, word_at, IsWordOf}
