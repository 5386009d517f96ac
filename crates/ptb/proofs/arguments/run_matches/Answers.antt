-- This file answers that the request of the options is served, for the program at the path that they name.
use Rattle.std.proofs.Common.{inl}
use Rattle.ptb.proofs.arguments.run_matches.Goals as goal

pub returns-in-Ok : goal.returns-in-Ok
returns-in-Ok g c = inl (record {
  drawn = c.in-Ok.task.drawn;
  request = c.in-Ok.task.request;
  asks = c.in-Ok.ensures.asks;
  serves = rw c.in-Ok.ensures.path at c.serve_task.ensures;
})
