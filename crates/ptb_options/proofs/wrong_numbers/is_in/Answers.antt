-- This file proves goals of `is_in` by short searches, which the prover finds late by itself.
use Rattle.std.proofs.Common.{rules}
use Rattle.ptb_options.proofs.wrong_numbers.is_in.Goals as goal

pub returns-then-low-number : goal.returns-then-low-number
returns-then-low-number c = search rules fits 50 depth 2

pub returns-else-low-number : goal.returns-else-low-number
returns-else-low-number c = search rules fits 50 depth 2

pub returns-in-Err : goal.returns-in-Err
returns-in-Err c = search rules fits 50 depth 2

pub returns-then-low-number-2 : goal.returns-then-low-number-2
returns-then-low-number-2 c = search rules fits 50 depth 2

pub returns-else-low-number-2 : goal.returns-else-low-number-2
returns-else-low-number-2 c = search rules fits 50 depth 2

pub returns-in-Err-parse : goal.returns-in-Err-parse
returns-in-Err-parse c = search rules fits 50 depth 2

pub returns-in_default : goal.returns-in_default
returns-in_default c = search rules fits 50 depth 2
