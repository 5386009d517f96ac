-- This file proves goals of `add_item` by short searches, which the prover finds late by itself.
use Rattle.std.proofs.Common.{arith, rules}
use Rattle.std.proofs.lemmas.Grind.{common_steps}
use Rattle.ptb_explore.proofs.report_writer.add_item.Goals as goal

pub push-requires : goal.push-requires
push-requires c = search rules fits 50 depth 2

pub add_number-requires : goal.add_number-requires
add_number-requires c = grind (arith, common_steps)

pub push-requires-in-Some : goal.push-requires-in-Some
push-requires-in-Some c = grind (arith, common_steps)

pub add_number-requires-in-Some : goal.add_number-requires-in-Some
add_number-requires-in-Some c = grind (arith, common_steps)

pub returns-in-Some : goal.returns-in-Some
returns-in-Some c = grind (arith, common_steps)

pub returns-in_default : goal.returns-in_default
returns-in_default c = grind (arith, common_steps)
