-- This file answers that the text of a report is its header and what comes after it.
use Rattle.std.proofs.Common.{arith, ◌∙◌, ◌<◌, ◌++◌, ap, length, refl}
use Rattle.ptb_explore.specs.ReportHeaders.{header_prefix, marked_items}
use Rattle.ptb_explore.specs.ReportText.{asked_items, report_ending}
use Rattle.ptb_explore.proofs.HeaderPrefixes.{begins_longer, report_from_begun}
use Rattle.ptb_explore.proofs.AskedLists.{length-asked_items}
use Rattle.ptb_explore.proofs.report_writer.ReportWriter.gather.Goals as goal

pub invariant_of-self : goal.invariant_of-self
invariant_of-self c = record {
  begins = begins_longer c.add_ending.new.text c.add_items-listed.new.text (header_prefix
      (marked_items c.add_items-listed.new.kept)) c.add_ending.ensures.longer c.add_items-listed.ensures.begins;
  ends = c.add_items-listed.ensures.ends;
}

pub returns-then-listed : goal.returns-then-listed
returns-then-listed c added =
    let r = c.args.report.now in
    let items = asked_items r.form r.asked.now in
    let some : 0 < length r.asked.now = grind (arith, c.if-is_empty.ensures) in
    c.add_ending.ensures.added added
    ∙ ap (λ z. z ++ report_ending r.word.now r.steps r.transcript.now) (c.if-listed.ensures.all refl)
    ∙ report_from_begun items r.word.now r.steps r.transcript.now
    (omega (arith, some, length-asked_items r.form r.asked.now))
