-- This file answers that a list is written, and then a newline, and that at a fault a prefix of the line was.
use Rattle.std.proofs.Common.{codes}
use Rattle.ptb_explore.specs.ReportText.{asked_items}
use Rattle.ptb_text.proofs.PublicLemmas.{fails, text_more}
use Rattle.ptb_explore.proofs.WrittenTexts.{answers_gathered, list_fails}
use Rattle.ptb_explore.proofs.report_text.write_list.Goals as goal

pub returns-in_err-put_answers : goal.returns-in_err-put_answers
returns-in_err-put_answers g c =
    let failed = c.in_err-put_answers.ensures in
    fails _ _ _ c.from_residual.result _ c.from_residual.ensures.1
    (list_fails (asked_items c.args.form c.args.asked.now) _ _ c.new-pending.ensures _ failed.fault)
    failed.failed failed.kind

pub returns : goal.returns
returns g c =
    let first = c.in_ok-put_answers.ensures in
    text_more _ _ _ _ _ _ first.unfailed c.finish.result _ _ (codes "\n") (answers_gathered
    (asked_items c.args.form c.args.asked.now) _ _ c.new-pending.ensures _ _ first.ok) c.finish.ensures.writes
