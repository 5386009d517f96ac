-- This file answers that the copies that are kept are of the run at which the explorer is.
use Rattle.std.proofs.Common.{arith, subst}
use Rattle.std.proofs.lemmas.Grind.{common_steps}
use Rattle.ptb_explore.specs.Copies.{ArePlaces}
use Rattle.ptb_explore.specs.Explorations.{Exploration, AreKeptAt}
use Rattle.ptb_explore.proofs.ContinuedCopies.{kept_at, places_at}
use Rattle.ptb_explore.proofs.explorer.Explorer.kept.Goals as goal

pub returns-clause-front : goal.returns-clause-front
returns-clause-front c =
    let e = c.self.inside in
    subst (λ (x : Exploration). AreKeptAt x.front x.kept) c.self.view_is (kept_at e.runner.player e.runner.lines.now
    e.runner.rules e.position e.runner.report e.runner.copies.kept.items c.self.invariant.1)

pub returns-clause-places : goal.returns-clause-places
returns-clause-places c =
    let e = c.self.inside in
    subst (λ (x : Exploration). ArePlaces x.program x.input x.rules x.kept) c.self.view_is (places_at e.runner.player
    e.runner.lines.now e.runner.rules e.position e.runner.report e.runner.copies.kept.items c.self.invariant.1)

pub returns-clause-number : goal.returns-clause-number
returns-clause-number c = grind (arith, common_steps)
