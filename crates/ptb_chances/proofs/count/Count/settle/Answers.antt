-- This file answers that all runs stay accounted for, and that less is left to be done.
use Rattle.std.proofs.Common.{rules, ◌<◌, w16, FitsSigned, to_z-of_z}
use Rattle.std.specs.Prelude.{unsigned_abs}
use Rattle.ptb_machine.specs.Questions.{most_answers}
use Rattle.ptb_chances.specs.WaitingPlays.{Puts, gone_to, planned, waiting_plays}
use Rattle.ptb_chances.proofs.PassedResults.{on_ok}
use Rattle.ptb_chances.proofs.WorkLeft.{work_asked, work_gone, work_some}
use Rattle.ptb_chances.proofs.SettledPlays.{asked_positive, one_opens, planned_less, settled_asked}
use Rattle.ptb_chances.proofs.SettledPlays.{settled_gone, settled_over}
use Rattle.ptb_chances.proofs.count.Count.settle.Goals as goal

pub play-requires : goal.play-requires
play-requires c = record {
  unspent = search rules;
  within = search rules;
  opens = one_opens _ _ _ _ _ _ _ c.requires;
}

pub add_plans-requires : goal.add_plans-requires
add_plans-requires c =
    let plays = rw c.in-Asks.is at c.in_ok-played.ensures.plays.1 in
    let fits : FitsSigned w16 c.in-Asks.bound = search rules in
    rw (to_z-of_z fits)
    (asked_positive _ _ _ _ _ _ _ c.requires (c.run_laws.ensures.reads _ _ _) c.in-Asks.bound plays)

pub returns-in-Over-clause-counted : goal.returns-in-Over-clause-counted
returns-in-Over-clause-counted c =
    let plays = rw c.in-Over.is at c.in_ok-played.ensures.plays.1 in
    on_ok c.add_over.result c.add_over.ensures (λ added. settled_over _ _ _ _ _ _ _ c.requires
    c.in_ok-played.ensures.plays.0 c.in-Over.ending c.play.new.self.devices.screen c.add_over.new.tally plays
    (rw c.bytes-shown.ensures at added))

pub returns-in-Over-clause-less : goal.returns-in-Over-clause-less
returns-in-Over-clause-less c =
    let s = c.args.self.now in
    on_ok c.add_over.result c.add_over.ensures (λ _. work_some s.stage.rules.limit
    (most_answers s.stage.player s.stage.devices.source.lines s.stage.rules.limit) (planned s.work.state c.args.plan)
    (waiting_plays s.work))

pub returns-in-Asks-clause-counted : goal.returns-in-Asks-clause-counted
returns-in-Asks-clause-counted c =
    let plays = rw c.in-Asks.is at c.in_ok-played.ensures.plays.1 in
    let fits : FitsSigned w16 c.in-Asks.bound = search rules in
    on_ok c.add_plans.result c.add_plans.ensures (λ put. settled_asked _ _ _ _ _ _ _ c.requires
    (c.run_laws.ensures.reads _ _ _) c.in-Asks.bound plays (waiting_plays c.add_plans.new.self)
    (rw (to_z-of_z fits) at put))

pub returns-in-Asks-clause-less : goal.returns-in-Asks-clause-less
returns-in-Asks-clause-less c =
    let plays = rw c.in-Asks.is at c.in_ok-played.ensures.plays.1 in
    let fits : FitsSigned w16 c.in-Asks.bound = search rules in
    let few : unsigned_abs c.in-Asks.bound < 65536 = search rules in
    on_ok c.add_plans.result c.add_plans.ensures (λ put. work_asked c.args.self.now.stage.rules.limit _ _
    c.in-Asks.bound (planned_less _ _ _ _ _ _ _ c.requires (c.run_laws.ensures.reads _ _ _) c.in-Asks.bound plays)
    (unsigned_abs c.in-Asks.bound) _ (waiting_plays c.add_plans.new.self) few (rw (to_z-of_z fits) at put))

pub returns-in-Goes-clause-counted : goal.returns-in-Goes-clause-counted
returns-in-Goes-clause-counted c =
    let plays = rw c.in-Goes.is at c.in_ok-played.ensures.plays.1 in
    let goes = c.in_ok-played.ensures.goes c.in-Goes.is in
    on_ok c.add.result c.add.ensures (λ there.
    let before = c.play.new.self.before in
    let put : Puts (waiting_plays c.args.self.now.work) (gone_to before.machine before.taken before.shown.items
    c.args.plan.chance c.args.plan.runs) (waiting_plays c.add.new.self) =
    rw (c.at.ensures, c.replace-state.ensures.value) at there in
    settled_gone _ _ _ _ _ _ _ c.requires _ _ _ _ plays goes.0 goes.2 put)

pub returns-in-Goes-clause-less : goal.returns-in-Goes-clause-less
returns-in-Goes-clause-less c =
    let s = c.args.self.now in
    let goes = c.in_ok-played.ensures.goes c.in-Goes.is in
    on_ok c.add.result c.add.ensures (λ there.
    let before = c.play.new.self.before in
    let put : Puts (waiting_plays s.work) (gone_to before.machine before.taken before.shown.items c.args.plan.chance
    c.args.plan.runs) (waiting_plays c.add.new.self) = rw (c.at.ensures, c.replace-state.ensures.value) at there in
    work_gone s.stage.rules.limit (most_answers s.stage.player s.stage.devices.source.lines s.stage.rules.limit)
    (waiting_plays s.work) _ (planned s.work.state c.args.plan) _ put goes.1)
