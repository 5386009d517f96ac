-- This file answers that the lists that are left are written.
use Rattle.ptb_serve.proofs.shares.write_lists.Goals as goal

pub returns-clause-writes : goal.returns-clause-writes
returns-clause-writes g c = (c.write_beginnings.new.beginnings.front, c.write_beginnings.ensures.writes)
