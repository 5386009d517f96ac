-- This file answers that no more was played than the run has that is no longer left, and by a short search what was
-- written, so that a planted bug is refused soon.
use Rattle.std.proofs.Common.{◌≡◌, Option, Ok, rules}
use Rattle.std.specs.Borrow.{Bor}
use Rattle.ptb_explore.specs.declared.report.Report.{Report}
use Rattle.ptb_explore.specs.Explorations.{PlaysOneMore, PlaysRuns}
use Rattle.ptb_explore.proofs.PlayedRuns.{next_once, next_played}
use Rattle.ptb_explore.proofs.listing.write_next.Goals as goal
use Rattle.ptb_explore.proofs.listing.write_next.Goals.{After-next}

-- where a run was found, or the last one is past
played : (g : _) (c : After-next g) (found : Option (Bor Report)) → c.next.result ≡ Ok found
    → PlaysRuns c.args.explorer.now c.next.follows.lender-at-none
played g c found is =
    let e = c.args.explorer.now in
    next_played e c.next.follows.lender-at-none (c.run_laws.ensures.reads e.program e.input e.rules) c.next.result
    c.next.follows.holds-at-none c.next.ensures.report c.next.ensures.next found is

-- and where memory was refused, too
once : (g : _) (c : After-next g) → PlaysOneMore c.args.explorer.now c.next.follows.lender-at-none
once g c =
    let e = c.args.explorer.now in
    next_once e c.next.follows.lender-at-none (c.run_laws.ensures.reads e.program e.input e.rules) c.next.result
    c.next.follows.holds-at-none c.next.ensures.report c.next.ensures.next

pub returns-in-Ok-None-clause-played : goal.returns-in-Ok-None-clause-played
returns-in-Ok-None-clause-played g c =
    λ _. played g (goal.at.returns-in-Ok-None-clause-played g c).After-next _ c.in-Ok-None.is

pub returns-in-Ok-None-clause-once : goal.returns-in-Ok-None-clause-once
returns-in-Ok-None-clause-once g c = once g (goal.at.returns-in-Ok-None-clause-once g c).After-next

pub returns-in-Ok-clause-played : goal.returns-in-Ok-clause-played
returns-in-Ok-clause-played g c =
    λ _. played g (goal.at.returns-in-Ok-clause-played g c).After-next _ c.in-Ok-Some.is

pub returns-in-Ok-clause-once : goal.returns-in-Ok-clause-once
returns-in-Ok-clause-once g c = once g (goal.at.returns-in-Ok-clause-once g c).After-next

pub returns-in-Ok-clause-writes : goal.returns-in-Ok-clause-writes
returns-in-Ok-clause-writes g c = search rules fits 50 depth 2

pub returns-in-Err-write-clause-played : goal.returns-in-Err-write-clause-played
returns-in-Err-write-clause-played g c =
    λ _. played g (goal.at.returns-in-Err-write-clause-played g c).After-next _ c.in-Ok-Some.is

pub returns-in-Err-write-clause-once : goal.returns-in-Err-write-clause-once
returns-in-Err-write-clause-once g c = once g (goal.at.returns-in-Err-write-clause-once g c).After-next
