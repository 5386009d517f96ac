-- This file defines how a request is served for a program that was opened, or was not.
-- Main definition: `ServesOpened`.
--     IsUntouched input out                       nothing was read of the input, and nothing was written
--     KeepsPromises text request input out result     `serve` kept its promises
--     ServesOpened text request opened input out result     for a program that was opened; the note of one that was not
--     ServesBeside path text request opened input out result     beside a program at a path, or beside standard input
--     exit_status result                          the status of either
--     no_lines                                    what is read of an input without lines
--     ServesTask opens text path request input out n     the request is served for the program at the path, with the
--                                                        status n
use Rattle.std.specs.Prelude.{◌≡◌, ℕ, List, [], Option, Some, None, Result, Ok, Err}
use Rattle.ptb_options.specs.declared.request.Request.{Request}
use Rattle.ptb_serve.specs.declared.note.Note.{Note}
use Rattle.ptb_serve.specs.declared.service.Outcome.{Outcome}
use Rattle.ptb_machine.specs.Streams.{Reads, Writes, reads_of}
use Rattle.ptb_serve.specs.Promises.{FailsLoudly, ReadsOnlyWhatIsAsked, Served}
use Rattle.ptb_serve.specs.Statuses.{note_status}
use Rattle.ptb.specs.declared.no_lines.NoLines.{NoLines}

pub record IsUntouched {R : Type 0} (input : Reads R) (out : Writes) : Type 0 where
  pub unread : input.new ≡ input.old
  pub silent : out.after ≡ out.before
  pub unfailed : out.fails ≡ out.failed

-- all that `serve` promises, of a program's reader with what it has left
pub record KeepsPromises {P R : Type 0} (text : P → Reads P) (request : Request) (input : Reads R) (out : Writes)
    (result : Result Outcome Note) : Type 0 where
  pub left : P
  pub outcome : Outcome
  pub is : result ≡ Ok outcome
  pub served : Served request (text left) input out outcome
  pub reads : ReadsOnlyWhatIsAsked request (text left) input outcome
  pub fails : FailsLoudly (text left) input out outcome

-- for a program that is not opened nothing is read and nothing is written
pub record NotesUnopened {R : Type 0} (note : Note) (input : Reads R) (out : Writes)
    (result : Result Outcome Note) : Type 0 where
  pub noted : result ≡ Err note
  pub untouched : IsUntouched input out

abbrev pub ServesOpened : {P R : Type 0} → (P → P → Reads P) → Request → Result P Note → Reads R → Writes
    → Result Outcome Note → Type 0
ServesOpened text request (Ok program) input out result = KeepsPromises (text program) request input out result
ServesOpened text request (Err note) input out result = NotesUnopened note input out result

-- the status of what was served, or of the note
abbrev pub exit_status : Result Outcome Note → ℕ
exit_status (Ok outcome) = outcome.status
exit_status (Err note) = note_status note

-- an input without lines gives no byte, and never fails
abbrev pub no_lines : Reads NoLines
no_lines = reads_of (λ _. Some []) (λ _. 0) (λ _. 0) (record {}) (record {})

-- where standard input is the program, the request is served without lines, and no more is read of standard input
abbrev pub ServesBeside : {P R : Type 0} → Option (List ℕ) → (P → P → Reads P) → Request → Result P Note → Reads R
    → Writes → Result Outcome Note → Type 0
ServesBeside (Some path) text request opened input out result = ServesOpened text request opened input out result
ServesBeside None text request opened input out result =
    ServesOpened text request opened no_lines out result × (input.new ≡ input.old)

-- what is opened at the path is served, and the program exits with the status of that
pub record ServesTask {P R : Type 0} (opens : Option (List ℕ) → Result P Note → Type 0) (text : P → P
    → Reads P) (path : Option (List ℕ)) (request : Request) (input : Reads R) (out : Writes) (n : ℕ) : Type 0 where
  pub opened : Result P Note
  pub at_path : opens path opened
  pub result : Result Outcome Note
  pub serves : ServesBeside path text request opened input out result
  pub status : n ≡ exit_status result
