-- This file proves goals of `divide` that the prover finds late by itself.
use Rattle.std.proofs.Common.{arith, rules}
use Rattle.std.proofs.lemmas.Grind.{common_steps}
use Rattle.ptb_expr.proofs.operator.divide.Goals as goal

pub returns-then-right-eq0-clause-none : goal.returns-then-right-eq0-clause-none
returns-then-right-eq0-clause-none c = search rules fits 50 depth 2

pub overflow_cast-left : goal.overflow_cast-left
overflow_cast-left c = search rules fits 50 depth 2

pub overflow_cast-right : goal.overflow_cast-right
overflow_cast-right c = search rules fits 50 depth 2

pub nonzero_div-left : goal.nonzero_div-left
nonzero_div-left c = search rules fits 50 depth 2

pub returns-clause-value : goal.returns-clause-value
returns-clause-value c = grind (arith, common_steps)

pub returns-clause-none : goal.returns-clause-none
returns-clause-none c = search rules
