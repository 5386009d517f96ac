-- This file answers that the reports of every reader of answers have their laws.
use Rattle.ptb_explore.proofs.ReportAnswers.{report_laws}
use Rattle.ptb_explore.proofs.laws.report_laws.Goals as goal

pub returns : goal.returns
returns c = λ play most reads. report_laws play most reads
