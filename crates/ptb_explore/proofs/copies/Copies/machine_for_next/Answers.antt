-- This file proves goals of `machine_for_next` by short searches, so that a planted bug is refused soon.
use Rattle.std.proofs.Common.{rules}
use Rattle.ptb_explore.proofs.copies.Copies.machine_for_next.Goals as goal

pub returns-then-is_full : goal.returns-then-is_full
returns-then-is_full c = search rules fits 50 depth 2
