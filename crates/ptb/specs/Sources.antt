-- This file defines where the text of a program comes from.
-- Main definition: `MayOpen`.
--     open_note kind                 the note of a program that can't be opened, by the kind of the error
--     source_bytes file input s      the bytes of a source, by those of a file and of standard input
--     kept_inner w                   the reader whose errors are kept
--     MayOpen path opened            what may be opened at a path, or without one
use Rattle.std.specs.Prelude.{◌≡◌, ℕ, List, Option, Some, None, Result, Ok, Err}
use Rattle.std.specs.declared.io.ErrorKind.{ErrorKind}
use Rattle.std.specs.declared.io.ErrorKind.TheVariants as kinds
use Rattle.ptb_serve.specs.declared.note.Note.{Note}
use Rattle.ptb_serve.specs.declared.note.Note.TheVariants as notes
use Rattle.ptb.specs.declared.readers.Source.{Source}
use Rattle.ptb.specs.declared.readers.Source.TheVariants.{File, Input}
use Rattle.ptb.specs.declared.readers.ErrorKeeping.{ErrorKeeping}

abbrev pub open_note : ErrorKind → Note
open_note kinds.OutOfMemory = notes.OutOfMemory
open_note _ = notes.ProgramUnread

abbrev pub source_bytes : {F I : Type 0} → (F → Option (List ℕ)) → (I → Option (List ℕ)) → Source F I → Option (List ℕ)
source_bytes file input (File f) = file f
source_bytes file input (Input i) = input i

abbrev pub kept_inner : {T : Type 0} → ErrorKeeping T → T
kept_inner w = w.inner

pub record IsOpenNote (note : Note) : Type 0 where
  pub kind : ErrorKind
  pub is : note ≡ open_note kind

abbrev pub IsSourceOf : {F I : Type 0} → Option (List ℕ) → Source F I → Type 0
IsSourceOf (Some path) (File f) = Unit {0}
IsSourceOf (Some path) (Input i) = ⊥
IsSourceOf None (File f) = ⊥
IsSourceOf None (Input i) = Unit {0}

-- a file is opened where a path is given, or there is the note of an error; otherwise it is standard input
abbrev pub MayOpen : {F I : Type 0} → Option (List ℕ) → Result (Source F I) Note → Type 0
MayOpen path (Ok source) = IsSourceOf path source
MayOpen (Some path) (Err note) = IsOpenNote note
MayOpen None (Err note) = ⊥
