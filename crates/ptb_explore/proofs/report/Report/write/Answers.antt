-- This file answers that the text of a report is written.
use Rattle.ptb_explore.proofs.report.Report.write.Goals as goal

pub returns : goal.returns
returns g c = record {
  ok = rw (c.deref.ensures.value, c.ending_word.ensures, c.deref-2.ensures.value) at c.write.ensures.ok;
  fault = rw (c.deref.ensures.value, c.ending_word.ensures, c.deref-2.ensures.value) at c.write.ensures.fault;
  failed = c.write.ensures.failed;
  kind = c.write.ensures.kind;
  unfailed = c.write.ensures.unfailed;
}
