-- This file proves goals of `still_shows` by short searches, so that a planted bug is refused soon.
use Rattle.std.proofs.Common.{rules}
use Rattle.ptb_command.proofs.stop.still_shows.Goals as goal

pub returns : goal.returns
returns g c = search rules fits 50 depth 2
