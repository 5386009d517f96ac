-- This file proves the laws of marks.
use Rattle.ptb_expr.proofs.Marks.{expression_marks, variable_marks, value_faults, target_faults}
use Rattle.ptb_expr.proofs.laws.mark_laws.Goals as goal

pub returns : goal.returns
returns c = record {
  expression_marks = expression_marks c.finding_laws.ensures;
  variable_marks = variable_marks c.finding_laws.ensures;
  value_faults = value_faults;
  target_faults = target_faults;
}
