-- This file proves goals of `write_row` by short searches, which the prover finds late by itself.
use Rattle.std.proofs.Common.{arith, rules}
use Rattle.std.proofs.lemmas.Grind.{common_steps}
use Rattle.ptb_chances.proofs.table.write_row.Goals as goal

pub returns-in_err-write_total : goal.returns-in_err-write_total
returns-in_err-write_total c = search rules fits 50 depth 2

pub returns : goal.returns
returns c = grind (arith, common_steps)
