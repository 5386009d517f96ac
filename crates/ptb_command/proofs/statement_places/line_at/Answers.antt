-- This file proves goals of `line_at` by short searches, so that a planted bug is refused soon.
use Rattle.std.proofs.Common.{rules}
use Rattle.ptb_command.proofs.statement_places.line_at.Goals as goal

pub returns-in-Some-clause-there : goal.returns-in-Some-clause-there
returns-in-Some-clause-there c = search rules fits 50 depth 2

pub returns-in-None-clause-absent : goal.returns-in-None-clause-absent
returns-in-None-clause-absent c = search rules fits 50 depth 2
