-- This file proves goals of `go` by short searches, so that a planted bug is refused soon.
use Rattle.std.proofs.Common.{rules}
use Rattle.ptb_devices.proofs.lines.Lines.go.Goals as goal

pub returns : goal.returns
returns c = search rules fits 50 depth 2
