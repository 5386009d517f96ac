-- This file answers that the text of a report is written if there was room for it.
use Rattle.std.proofs.Common.{◌∙◌, refl}
use Rattle.ptb_text.proofs.PublicLemmas.{text_same}
use Rattle.ptb_explore.proofs.report_writer.ReportWriter.write.Goals as goal

pub returns-then-gather : goal.returns-then-gather
returns-then-gather g c =
    text_same _ _ _ c.write_all.result (c.as_slice.ensures ∙ c.if-gather.ensures refl) c.write_all.ensures.writes
