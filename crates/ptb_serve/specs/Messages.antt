-- This file defines the line of a note.
-- Main definition: `note_line`.
--     note_line note     the line, except where a program's text is refused: that line ends with the text of the fault
use Rattle.std.specs.Prelude.{List, ℕ, Option, None, Some, codes}
use Rattle.ptb_serve.specs.declared.note.Note.{Note}
use Rattle.ptb_serve.specs.declared.note.Note.TheVariants as notes

abbrev pub note_line : Note → Option (List ℕ)
note_line (notes.Load line fault) = None
note_line notes.ProgramUnread = Some (codes "ptb: cannot read the program")
note_line notes.InputUnread = Some (codes "ptb: cannot read the input")
note_line notes.NoBeginning = Some (codes "ptb: no run begins so")
note_line notes.NoRun = Some (codes "ptb: not a run")
note_line notes.OutOfMemory = Some (codes "ptb: out of memory")
note_line notes.Unwritten = Some (codes "ptb: cannot write")
