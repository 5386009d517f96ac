-- This file passes on the definitions that the clauses of this crate cite most. It declares nothing.
pub use Rattle.ptb_expr.specs.WrittenExpressions.{first_fail, only_number}
pub use Rattle.ptb_command.specs.Act.{newline, report_bytes}
pub use Rattle.ptb_command.specs.Code.{steps_at}
pub use Rattle.ptb_command.specs.Commands.{command_at, commands_from}
pub use Rattle.ptb_command.specs.Translation.{IsTranslated}
pub use Rattle.ptb_text.specs.Device.{HasFailed}
pub use Rattle.ptb_text.specs.FoundParts.{LiesAhead}
pub use Rattle.ptb_text.specs.Statements.{text_limit}
pub use Rattle.ptb_text.specs.Streams.{WritesText, writes_of}
pub use Rattle.ptb_text.specs.Words.{is_over}
pub use Rattle.ptb_check.specs.CodeMistakes.{code_mistake, destination_fail, part_fail}
pub use Rattle.ptb_check.specs.Mistakes.{command_mistake, jump_mistake, mistake_in, mistakes, statement_mistakes}
pub use Rattle.ptb_check.specs.WrittenMistakes.{WritesMistakes}
