-- This file answers what is left to prove of `run_arguments`.
use Rattle.ptb.proofs.arguments.run_arguments.Goals as goal

pub returns-in-Ok-clause-read : goal.returns-in-Ok-clause-read
returns-in-Ok-clause-read g c = rw (c.in-Ok.is, ← c.as_slice.ensures.value) c.run_given.ensures
