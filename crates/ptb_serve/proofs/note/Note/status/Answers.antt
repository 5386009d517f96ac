-- This file proves goals of `status` by short searches, so that a planted bug is refused soon.
use Rattle.std.proofs.Common.{rules}
use Rattle.ptb_serve.proofs.note.Note.status.Goals as goal

pub returns-in-NoBeginning : goal.returns-in-NoBeginning
returns-in-NoBeginning c = search rules fits 50 depth 2

pub returns-in-NoBeginning-2 : goal.returns-in-NoBeginning-2
returns-in-NoBeginning-2 c = search rules fits 50 depth 2
