-- This file answers what is left to prove of `report_fault`: its pieces are the report.
use Rattle.std.proofs.Common.{◌∙◌}
use Rattle.ptb_machine.proofs.ReportPieces.{report_shown}
use Rattle.ptb_machine.proofs.fault_report.report_fault.Goals as goal

pub returns : goal.returns
returns g c d cells =
    report_shown _ _ c.args.fresh.now c.args.number c.args.text.now c.args.fault _ _
    (c.as_bytes-digits.ensures.value ∙ c.format.ensures.text) _ c.text_before-before.ensures _
    c.text_after-following.ensures (c.put_fault.ensures d cells)
