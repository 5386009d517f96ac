-- This file answers that all runs stay accounted for, up to the last.
use Rattle.std.proofs.Common.{rules, ◌≡◌, List, [], subst, ◌∙◌}
use Rattle.ptb_chances.specs.CountedRuns.{IsTallied}
use Rattle.ptb_chances.specs.WaitingPlays.{WaitingPlay, planned, waiting_plays}
use Rattle.ptb_chances.proofs.WorkLeft.{less_there}
use Rattle.ptb_chances.proofs.SettledPlays.{accounted_next}
use Rattle.ptb_chances.proofs.count.Count.finish.Goals as goal

pub settle-requires : goal.settle-requires
settle-requires g c =
    let i = c.plans.invariant in
    rw (i.player, i.lines, i.rules) (accounted_next _ _ _ _ _ _ _ _ c.in-Some.ensures.some i.accounted)

pub plans-smaller : goal.plans-smaller
plans-smaller g c =
    let s = c.args.self.now.stage in
    let l = c.plans in
    let i = l.invariant in
    less_there s.player l.self.stage.player s.devices.source.lines l.self.stage.devices.source.lines s.rules
    l.self.stage.rules (waiting_plays l.self.work) (waiting_plays c.next.new.self)
    (waiting_plays c.settle.new.self.work)
    (planned c.next.new.self.state c.in-Some.plan) i.player i.lines i.rules c.in-Some.ensures.some
    c.in_ok-settle.ensures.less

pub plans-preserved : goal.plans-preserved
plans-preserved g c =
    let l = c.plans in
    let i = l.invariant in
    record {
      player = c.settle.ensures.player ∙ i.player;
      lines = c.settle.ensures.lines ∙ i.lines;
      rules = c.settle.ensures.rules ∙ i.rules;
      accounted = rw (i.player, i.lines, i.rules) at c.in_ok-settle.ensures.counted;
    }

pub returns-in_default : goal.returns-in_default
returns-in_default g c =
    let none : waiting_plays c.plans.self.work ≡ [] = search rules in
    rw c.replace.ensures.value (subst (λ (ws : List WaitingPlay). IsTallied c.args.self.now.stage c.plans.self.tally ws)
    none c.plans.invariant.accounted)
