-- This file proves goals of `from` by short searches, so that a planted bug is refused soon.
use Rattle.std.proofs.Common.{rules}
use Rattle.ptb_serve.proofs.note.NoteFromDeviceFault.from.Goals as goal

pub returns-in-Read : goal.returns-in-Read
returns-in-Read c = search rules fits 50 depth 2
