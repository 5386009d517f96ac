-- This file answers that what was counted is the account of all runs.
use Rattle.ptb_chances.proofs.PassedResults.{if_ok}
use Rattle.ptb_chances.proofs.SettledPlays.{accounted_last}
use Rattle.ptb_chances.proofs.count.count_runs.Goals as goal

pub returns : goal.returns
returns g c =
    let b = c.in_ok-counting.ensures in
    if_ok c.finish.result (rw (b.program, b.lines, b.rules) at c.finish.ensures) (λ tally. accounted_last _ _ _ _ tally)
