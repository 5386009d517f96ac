-- This file proves goals of `write_decimal` by short searches, which the prover finds late by itself.
use Rattle.std.proofs.Common.{arith, rules}
use Rattle.std.proofs.lemmas.Grind.{common_steps}
use Rattle.ptb_command.proofs.execution.decimals.write_decimal.Goals as goal

pub write_digits-start-requires : goal.write_digits-start-requires
write_digits-start-requires c = search rules fits 50 depth 2

pub returns-then-value-ge0 : goal.returns-then-value-ge0
returns-then-value-ge0 c = search rules fits 50 depth 2

pub overflow_sub-bytes : goal.overflow_sub-bytes
overflow_sub-bytes c = search rules fits 50 depth 2

pub bounds-bytes-start : goal.bounds-bytes-start
bounds-bytes-start c = search rules fits 50 depth 2

pub overflow_sub-result : goal.overflow_sub-result
overflow_sub-result c = search rules fits 50 depth 2

pub returns-clause-start : goal.returns-clause-start
returns-clause-start c = search rules fits 50 depth 2

pub returns-clause-written : goal.returns-clause-written
returns-clause-written c = grind (arith, common_steps)
