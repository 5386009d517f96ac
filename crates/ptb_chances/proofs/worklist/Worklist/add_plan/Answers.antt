-- This file answers that the plays were put in.
use Rattle.std.proofs.Common.{rules, ◌++◌, map, subst, FitsSigned, w16, to_z-of_z}
use Rattle.ptb_chances.specs.WaitingPlays.{WaitingPlay, Takes, planned, waiting_plays, states_left}
use Rattle.ptb_chances.proofs.Worklists.{takes_last}
use Rattle.ptb_chances.proofs.worklist.Worklist.add_plan.Goals as goal

pub returns-clause-added : goal.returns-clause-added
returns-clause-added c =
    let self = c.args.self.now in
    let bound : FitsSigned w16 c.args.bound = search rules in
    let answer : FitsSigned w16 c.args.answer = search rules in
    let same = rw (to_z-of_z bound, to_z-of_z answer) at (c.in_ok-answered.ensures self.state) in
    subst (λ (w : WaitingPlay). Takes (map (planned self.state) c.push.new.self.items ++ states_left self) w
    (waiting_plays self)) same
    (takes_last (planned self.state) self.plans.items c.push.new.self.items c.in_ok-answered.answered
    (states_left self) c.in_ok-push.ensures.items)
