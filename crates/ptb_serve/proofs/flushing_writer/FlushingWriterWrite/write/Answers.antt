-- This file proves goals of `write` by short searches, so that a planted bug is refused soon.
use Rattle.std.proofs.Common.{rules}
use Rattle.ptb_serve.proofs.flushing_writer.FlushingWriterWrite.write.Goals as goal

pub returns-clause-count : goal.returns-clause-count
returns-clause-count g c = search rules fits 50 depth 2

pub returns-clause-bytes : goal.returns-clause-bytes
returns-clause-bytes g c = search rules fits 50 depth 2
