-- This file proves goals of `add_figures` by short searches, which the prover finds late by itself.
use Rattle.std.proofs.Common.{arith, rules}
use Rattle.std.proofs.lemmas.Grind.{common_steps}
use Rattle.ptb_explore.proofs.report_writer.add_figures.Goals as goal

pub push-requires : goal.push-requires
push-requires c = search rules fits 50 depth 2

pub add_word-requires : goal.add_word-requires
add_word-requires c = grind (arith, common_steps)

pub push-requires-2 : goal.push-requires-2
push-requires-2 c = grind (arith, common_steps)

pub add_count-requires : goal.add_count-requires
add_count-requires c = grind (arith, common_steps)

pub push-requires-3 : goal.push-requires-3
push-requires-3 c = grind (arith, common_steps)

pub add_count-requires-2 : goal.add_count-requires-2
add_count-requires-2 c = grind (arith, common_steps)

pub push-requires-4 : goal.push-requires-4
push-requires-4 c = grind (arith, common_steps)

pub returns-clause-text : goal.returns-clause-text
returns-clause-text c = grind (arith, common_steps)

pub returns-clause-length : goal.returns-clause-length
returns-clause-length c = grind (arith, common_steps)
