-- This file proves goals of `new` by short searches, so that a planted bug is refused soon.
use Rattle.std.proofs.Common.{rules}
use Rattle.ptb_devices.proofs.reader_lines.ReaderLines.new.Goals as goal

pub returns-clause-reader : goal.returns-clause-reader
returns-clause-reader g c = search rules fits 50 depth 2

pub returns-clause-input : goal.returns-clause-input
returns-clause-input g c = search rules fits 50 depth 2
