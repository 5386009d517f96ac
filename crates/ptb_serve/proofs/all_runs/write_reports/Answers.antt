-- This file answers that the reports that are left are written.
use Rattle.ptb_serve.proofs.all_runs.write_reports.Goals as goal

pub returns-clause-writes : goal.returns-clause-writes
returns-clause-writes g c = (c.write_all_runs.new.explorer.front, c.write_all_runs.ensures.writes)
