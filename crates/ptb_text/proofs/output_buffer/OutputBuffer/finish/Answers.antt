-- This file answers that what waits is written after the last pieces are added.
use Rattle.ptb_text.proofs.WrittenTexts.{fails, text_after}
use Rattle.ptb_text.proofs.output_buffer.OutputBuffer.finish.Goals as goal

pub returns-in_err-put_all-clause-writes : goal.returns-in_err-put_all-clause-writes
returns-in_err-put_all-clause-writes g c =
    let failed = c.in_err-put_all.ensures in
    fails _ _ _ c.from_residual.result _ c.from_residual.ensures.1 failed.fault failed.failed failed.kind

pub returns-clause-writes : goal.returns-clause-writes
returns-clause-writes g c =
    let first = c.in_ok-put_all.ensures in
    text_after _ _ _ _ _ _ first.unfailed c.flush.result _ _ first.ok c.flush.ensures.writes
