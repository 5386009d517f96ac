-- This file proves goals of `from` by short searches, so that a planted bug is refused soon.
use Rattle.std.proofs.Common.{rules}
use Rattle.ptb_serve.proofs.note.NoteFromTuple2U32LoadFault.from.Goals as goal

pub returns-in_default-Memory : goal.returns-in_default-Memory
returns-in_default-Memory c = search rules fits 50 depth 2

pub returns-in_default-Read : goal.returns-in_default-Read
returns-in_default-Read c = search rules fits 50 depth 2

pub returns-in_default : goal.returns-in_default
returns-in_default c = search rules fits 50 depth 2
