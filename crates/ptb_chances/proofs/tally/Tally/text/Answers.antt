-- This file answers that the rows rise.
use Rattle.std.proofs.Common.{subst, List}
use Rattle.ptb_chances.specs.Chances.{Row}
use Rattle.ptb_chances.specs.Accounts.{ResultsRise}
use Rattle.ptb_chances.proofs.Texts.{rows_rise}
use Rattle.ptb_chances.proofs.tally.Tally.text.Goals as goal

pub returns-in_err-write_row-clause-rising : goal.returns-in_err-write_row-clause-rising
returns-in_err-write_row-clause-rising c = subst (λ (ws : List Row). ResultsRise ws) c.self.view_is
    (rows_rise c.self.inside.totals.entries c.iter-key-items.ensures.ordered)

pub returns-clause-rising : goal.returns-clause-rising
returns-clause-rising c = subst (λ (ws : List Row). ResultsRise ws) c.self.view_is
    (rows_rise c.self.inside.totals.entries c.iter-key-items.ensures.ordered)
