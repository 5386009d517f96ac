-- This file proves the laws of the grammar.
use Rattle.std.proofs.Common.{subst}
use Rattle.ptb_expr.specs.Reading.{Whole, expr, expression}
use Rattle.ptb_expr.specs.Spells.{Expr, Variable, Spells}
use Rattle.ptb_expr.proofs.SpelledTrees.{ahead, expr_spelled, expression_spelled, variable_tree_spelled}
use Rattle.ptb_expr.proofs.Uniqueness.{unique}
use Rattle.ptb_expr.proofs.laws.spelling_laws.Goals as goal

pub returns : goal.returns
returns c =
    let laws = c.finding_laws.ensures in record {
      expression_spelled = expression_spelled laws;
      variable_spelled = variable_tree_spelled laws;
      unique = unique laws;
      expression_ahead = λ t i j x e. ahead laws t Expr i (Whole x j)
          (subst (Spells t Expr i) e (expression_spelled laws t i));
      variable_ahead = λ t i j x e. ahead laws t Variable i (Whole x j)
          (subst (Spells t Variable i) e (variable_tree_spelled laws t i));
      deep_enough = λ t n i h. unique laws t Expr i (expr t n i) (expression t i) (expr_spelled laws t n i h)
          (expression_spelled laws t i);
    }
