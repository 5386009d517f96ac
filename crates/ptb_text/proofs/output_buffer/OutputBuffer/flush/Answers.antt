-- This file answers that what waits is written.
use Rattle.std.proofs.Common.{◌∙◌, rules}
use Rattle.ptb_text.proofs.WrittenTexts.{fails, text_same}
use Rattle.ptb_text.proofs.output_buffer.OutputBuffer.flush.Goals as goal

pub returns-in_err-write_all-clause-writes : goal.returns-in_err-write_all-clause-writes
returns-in_err-write_all-clause-writes g c =
    let failed = text_same _ _ c.args.self.now _ (c.as_slice.ensures ∙ search rules)
    c.in_err-write_all.ensures.writes in
    fails _ _ _ c.from_residual.result _ c.from_residual.ensures.1 failed.fault failed.failed failed.kind

pub returns-clause-writes : goal.returns-clause-writes
returns-clause-writes g c =
    let whole = text_same _ _ c.args.self.now _ (c.as_slice.ensures ∙ search rules)
    c.in_ok-write_all.ensures.writes in
    record { ok = whole.ok; fault = tt; failed = tt; kind = tt; unfailed = whole.unfailed }
