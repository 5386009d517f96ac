-- This file proves goals of `write_result` by short searches, which the prover finds late by itself.
use Rattle.std.proofs.Common.{arith, rules}
use Rattle.std.proofs.lemmas.Grind.{common_steps}
use Rattle.ptb_chances.proofs.table.write_result.Goals as goal

pub returns-in_err-extend_from_slice : goal.returns-in_err-extend_from_slice
returns-in_err-extend_from_slice c = search rules fits 50 depth 2

pub returns-in_err-extend_from_slice-2 : goal.returns-in_err-extend_from_slice-2
returns-in_err-extend_from_slice-2 c = search rules fits 50 depth 2

pub returns-in_err-natural : goal.returns-in_err-natural
returns-in_err-natural c = search rules fits 50 depth 2

pub returns-in_err-write_number : goal.returns-in_err-write_number
returns-in_err-write_number c = search rules fits 50 depth 2

pub returns-in_err-extend_from_slice-3 : goal.returns-in_err-extend_from_slice-3
returns-in_err-extend_from_slice-3 c = search rules fits 100

pub returns-in_err-extend_from_slice-4 : goal.returns-in_err-extend_from_slice-4
returns-in_err-extend_from_slice-4 c = search rules fits 100

pub returns : goal.returns
returns c = grind (arith, common_steps)
