-- This file passes on the definitions that the clauses of this crate cite most. It declares nothing.
pub use Rattle.std.specs.IoError.{error_kind}
pub use Rattle.clap.specs.Words.{first_of, kind_of}
pub use Rattle.ptb_machine.specs.Streams.{reads_of, writes_of}
pub use Rattle.ptb_options.specs.Options.{HasBound, HasMemorySize, RefusesOptions, entries_of, options_of}
pub use Rattle.ptb_options.specs.Statuses.{usage_status}
pub use Rattle.ptb_serve.specs.Statuses.{note_status}
pub use Rattle.ptb_serve.specs.declared.note.Note.{Note as NoteValue}
pub use Rattle.ptb.specs.Exits.{AnswersOptions, AsksAt, ExitsBy, IsRefusedStatus, IsUnreadStatus, by_seed, draws_seed}
pub use Rattle.ptb.specs.Exits.{shown_status, unread_status}
pub use Rattle.ptb.specs.Messages.{shortage_of}
pub use Rattle.ptb.specs.OpenedPrograms.{ServesOpened, ServesTask, exit_status, no_lines}
