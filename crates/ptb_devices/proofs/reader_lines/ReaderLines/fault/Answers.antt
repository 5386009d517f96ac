-- This file proves goals of `fault` by short searches, so that a planted bug is refused soon.
use Rattle.std.proofs.Common.{rules}
use Rattle.ptb_devices.proofs.reader_lines.ReaderLines.fault.Goals as goal

pub returns : goal.returns
returns g c = search rules fits 50 depth 2
