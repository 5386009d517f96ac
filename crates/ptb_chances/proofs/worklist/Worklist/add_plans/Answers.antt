-- This file proves goals of `add_plans` by short searches, which the prover finds late by itself.
use Rattle.std.proofs.Common.{arith, rules}
use Rattle.std.proofs.lemmas.Grind.{common_steps}
use Rattle.ptb_chances.proofs.worklist.Worklist.add_plans.Goals as goal

pub loop-answer-init : goal.loop-answer-init
loop-answer-init c = search rules fits 50 depth 2

pub overflow_add-answer : goal.overflow_add-answer
overflow_add-answer c = search rules fits 50 depth 2

pub add_plan-requires : goal.add_plan-requires
add_plan-requires c = search rules fits 50 depth 2

pub loop-answer-smaller : goal.loop-answer-smaller
loop-answer-smaller c = search rules fits 50 depth 2

pub loop-answer-preserved : goal.loop-answer-preserved
loop-answer-preserved c = grind (arith, common_steps)

pub returns-in_err-add_plan : goal.returns-in_err-add_plan
returns-in_err-add_plan c = search rules fits 50 depth 2

pub returns : goal.returns
returns c = search rules fits 50 depth 2
