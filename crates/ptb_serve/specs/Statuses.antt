-- This file defines the status that the program exits with where a request isn't served, or not to its end.
-- Main definition: `note_status`.
--     note_status note
use Rattle.std.specs.Prelude.{ℕ}
use Rattle.ptb_serve.specs.declared.note.Note.{Note}
use Rattle.ptb_serve.specs.declared.note.Note.TheVariants as notes

abbrev pub note_status : Note → ℕ
note_status (notes.Load line fault) = 65
note_status notes.ProgramUnread = 66
note_status notes.InputUnread = 66
note_status notes.NoBeginning = 67
note_status notes.NoRun = 67
note_status notes.OutOfMemory = 71
note_status notes.Unwritten = 74
