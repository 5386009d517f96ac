-- This file proves goals of `place_after` by short searches, so that a planted bug is refused soon.
use Rattle.std.proofs.Common.{rules}
use Rattle.ptb_command.proofs.statement_places.place_after.Goals as goal

pub returns-then-statement-count-clause-absent : goal.returns-then-statement-count-clause-absent
returns-then-statement-count-clause-absent c = search rules fits 50 depth 2
