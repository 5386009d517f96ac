-- This file answers what is left to prove of `run_given`.
use Rattle.std.proofs.Common.{inl}
use Rattle.ptb.proofs.arguments.run_given.Goals as goal

pub returns-in-Ok : goal.returns-in-Ok
returns-in-Ok g c = record {
  exits = inl (c.in-Ok.ensures.kinds, rw c.in-Ok.ensures.entries at c.run_matches.ensures);
}
