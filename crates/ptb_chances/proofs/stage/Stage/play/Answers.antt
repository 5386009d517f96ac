-- This file answers that a plan is played up to the command that asks next.
use Rattle.std.proofs.Common.{rules, ap, drop, length, FitsSigned, w16, to_z-of_z}
use Rattle.ptb_chances.proofs.Continuations.{named, plan_opens, plan_over, plan_waits}
use Rattle.ptb_chances.proofs.stage.Stage.play.Goals as goal

pub play_to_question-requires-clause-opens : goal.play_to_question-requires-clause-opens
play_to_question-requires-clause-opens c =
    let e = c.start.ensures in
    let o = c.requires.opens in
    let plays = (rw c.in-Goes.is at c.in_ok-played.ensures.plays).1 in
    let lines_are = ap (drop c.start.new.self.devices.source.taken) e.same_lines in
    let came = plays o.0 o.1 in
    let x = named _ _ _ _ e.player e.rules o.0 c.args.plan.now.answers.items _ _ _ lines_are _ came in (
      x.state,
      x.stands,
      plan_opens _ _ _ _ e.player e.rules o.0 c.args.plan.now.answers.items _ _ _ lines_are _ came
          o.2,
    )

pub returns-in-Some-clause-plays : goal.returns-in-Some-clause-plays
returns-in-Some-clause-plays c = (
  length c.args.plan.now.answers.items,
  λ S h.
      let e = c.start.ensures in
      let lines_are = ap (drop c.start.new.self.devices.source.taken) e.same_lines in
      let came = (rw c.in-Goes.is at c.in_ok-played.ensures.plays).1 S h in
      plan_over _ _ _ _ e.player e.rules S c.args.plan.now.answers.items _ _ _ lines_are _ came _ _
      (rw c.in-Some.is at c.in_ok-over.ensures.goes),
)

pub returns-in-None-clause-plays : goal.returns-in-None-clause-plays
returns-in-None-clause-plays c = (
  0,
  λ S h.
      let e = c.start.ensures in
      let lines_are = ap (drop c.start.new.self.devices.source.taken) e.same_lines in
      let came = (rw c.in-Goes.is at c.in_ok-played.ensures.plays).1 S h in
      plan_waits _ _ _ _ e.player e.rules S c.args.plan.now.answers.items _ _ _ lines_are _ came _ _ _ _
      (ap (drop c.play_to_question.new.self.before.taken) e.same_lines) (rw c.in-None.is at c.in_ok-over.ensures.goes),
)

pub returns-in-Over-clause-plays : goal.returns-in-Over-clause-plays
returns-in-Over-clause-plays c = rw c.in-Over.is at c.in_ok-played.ensures.plays

pub returns-in-Asks-clause-plays : goal.returns-in-Asks-clause-plays
returns-in-Asks-clause-plays c =
    let fits : FitsSigned w16 c.in-Asks.bound = search rules in
    rw (to_z-of_z fits) (rw c.in-Asks.is at c.in_ok-played.ensures.plays)
