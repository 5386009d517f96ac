-- This file answers that the pieces of a report are written one after the other, and that at a fault a prefix of it
-- was.
use Rattle.std.proofs.Common.{◌∙◌}
use Rattle.ptb_explore.specs.ReportText.{asked_items}
use Rattle.ptb_text.proofs.PublicLemmas.{failed_after, fails}
use Rattle.ptb_explore.proofs.WrittenTexts.{all_written, answers_fail, first_fails}
use Rattle.ptb_explore.proofs.report_text.write_in_pieces.Goals as goal

pub returns-in_err-put : goal.returns-in_err-put
returns-in_err-put g c =
    let r = c.args.report.now in
    let failed = c.in_err-put.ensures.gathers in
    fails _ _ _ c.from_residual.result _ c.from_residual.ensures.1
    (first_fails (asked_items r.form r.asked.now) r.word.now r.steps r.transcript.now _ _ c.new-pending.ensures _
    failed.fault) failed.failed failed.kind

pub returns-in_err-put_answers : goal.returns-in_err-put_answers
returns-in_err-put_answers g c =
    let r = c.args.report.now in
    let first = c.in_ok-put.ensures.gathers in
    let failed = c.in_err-put_answers.ensures in
    fails _ _ _ c.from_residual-in_err-put_answers.result _ c.from_residual-in_err-put_answers.ensures.1
    (answers_fail (asked_items r.form r.asked.now) r.word.now r.steps r.transcript.now _ _ c.new-pending.ensures _ _
    first.ok _ failed.fault) (failed_after _ _ _ first.unfailed failed.failed) failed.kind

pub returns : goal.returns
returns g c =
    let r = c.args.report.now in
    let first = c.in_ok-put.ensures.gathers in
    let second = c.in_ok-put_answers.ensures in
    all_written (asked_items r.form r.asked.now) r.word.now r.steps r.transcript.now _ _ c.new-pending.ensures _ _
    first.ok _ _ second.ok _ (c.as_bytes-steps.ensures.value ∙ c.format.ensures.text) _
    (c.as_bytes-size.ensures.value ∙ c.format-2.ensures.text) _ _ _ _ (second.unfailed ∙ first.unfailed)
    c.finish.result c.finish.ensures.writes
