-- This file proves goals of `newest_loop` that the prover finds late by itself.
use Rattle.std.proofs.Common.{arith}
use Rattle.std.proofs.lemmas.Grind.{common_steps}
use Rattle.ptb_command.proofs.stack.newest_loop.Goals as goal

pub levels-init : goal.levels-init
levels-init c = grind (arith, common_steps)

pub returns-in_default : goal.returns-in_default
returns-in_default c = record { found = grind (arith, common_steps); there = tt }

pub returns-then-eq : goal.returns-then-eq
returns-then-eq c = record { found = grind (arith, common_steps); there = grind (arith, common_steps) }

pub levels-preserved : goal.levels-preserved
levels-preserved c = grind (arith, common_steps)
