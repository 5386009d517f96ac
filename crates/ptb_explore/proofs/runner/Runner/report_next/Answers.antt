-- This file answers that the run of the next plan is the next run.
use Rattle.std.proofs.Common.{◌≡◌, ◌∙◌, Some, None, arith, refl, take}
use Rattle.std.proofs.lemmas.Result.{IfOk-from_err}
use Rattle.ptb_answers.specs.AnswerText.{answers_of}
use Rattle.ptb_machine.specs.Play.{play}
use Rattle.ptb_machine.specs.Questions.{most_answers}
use Rattle.ptb_answers.specs.AskedQuestions.{answers_in, bounds_in}
use Rattle.ptb_explore.specs.Recorders.{recorded}
use Rattle.ptb_machine.specs.RunTree.{IsLast}
use Rattle.ptb_explore.specs.Plans.{front_at, HasPlan, PlansNext}
use Rattle.ptb_explore.proofs.WrittenTexts.{on_err_always}
use Rattle.ptb_explore.proofs.Exits.{on_some_at}
use Rattle.ptb_explore.proofs.ContinuedCopies.{next_agrees, next_played, position_copies}
use Rattle.ptb_explore.proofs.Mismatches.{if_some_at}
use Rattle.ptb_explore.proofs.NextRuns.{IsPlan}
use Rattle.ptb_explore.proofs.RaisedAnswers.{next_plan, last_plan, plan_ends}
use Rattle.ptb_explore.proofs.Shares.{plan_left}
use Rattle.ptb_explore.proofs.runner.Runner.report_next.Goals as goal
use Rattle.ptb_explore.proofs.runner.Runner.report_next.Goals.{In-Some}

pub returns-in-None-clause-next : goal.returns-in-None-clause-next
returns-in-None-clause-next c =
    let p = c.args.self.now.player in
    let input = c.args.self.now.lines.now in
    let rules = c.args.self.now.rules in
    let report = c.args.self.now.report in
    let plans : PlansNext (answers_of c.args.prefix.now) c.args.position (answers_in report.asked.items)
    (bounds_in report.asked.items) (recorded c.plan_next.new.chooser) None =
    rw (← c.deref.ensures.value, ← c.in-None.is) c.in_ok-plan_next.ensures.plan in
    last_plan (play p input rules) (most_answers p input rules.limit) (c.run_laws.ensures.reads p input rules)
    (answers_of c.args.prefix.now) c.args.position (answers_in report.asked.items) (recorded c.plan_next.new.chooser)
    (bounds_in report.asked.items) c.requires.position plans

-- the plan that comes next
planned : (c : In-Some) → PlansNext (answers_of c.args.prefix.now) c.args.position
    (answers_in c.args.self.now.report.asked.items) (bounds_in c.args.self.now.report.asked.items)
    (recorded c.plan_next.new.chooser) (Some c.in-Some.common)
planned c = rw (← c.deref.ensures.value, ← c.in-Some.is) c.in_ok-plan_next.ensures.plan

next_is : (c : In-Some)
    → IsPlan (play c.args.self.now.player c.args.self.now.lines.now c.args.self.now.rules)
    (answers_of c.args.prefix.now)
    (front_at c.args.position (answers_in c.args.self.now.report.asked.items)) (recorded c.plan_next.new.chooser)
next_is c =
    let p = c.args.self.now.player in
    let input = c.args.self.now.lines.now in
    let rules = c.args.self.now.rules in
    let report = c.args.self.now.report in
    next_plan (play p input rules) (most_answers p input rules.limit) (c.run_laws.ensures.reads p input rules)
    (answers_of c.args.prefix.now) c.args.position (answers_in report.asked.items) (recorded c.plan_next.new.chooser)
    (bounds_in report.asked.items) c.in-Some.common c.requires.position (planned c)

-- so some run is left
none_last : {P : Type 0} (c : In-Some)
    → IsLast (play c.args.self.now.player c.args.self.now.lines.now c.args.self.now.rules)
    (answers_of c.args.prefix.now)
    (front_at c.args.position (answers_in c.args.self.now.report.asked.items)) → P
none_last c last =
    let p = c.args.self.now.player in
    let input = c.args.self.now.lines.now in
    let rules = c.args.self.now.rules in
    let report = c.args.self.now.report in
    plan_left (play p input rules) (most_answers p input rules.limit) (c.run_laws.ensures.reads p input rules)
    (answers_of c.args.prefix.now) (front_at c.args.position (answers_in report.asked.items))
    (recorded c.plan_next.new.chooser) (next_is c) last

pub report_plan-requires-clause-opens : goal.report_plan-requires-clause-opens
report_plan-requires-clause-opens c = (next_is (goal.at.report_plan-requires-clause-opens c).In-Some).opens

pub returns-in_ok-report_plan-in-Some-clause-next : goal.returns-in_ok-report_plan-in-Some-clause-next
returns-in_ok-report_plan-in-Some-clause-next c =
    let p = c.args.self.now.player in
    let input = c.args.self.now.lines.now in
    let rules = c.args.self.now.rules in
    let report = c.args.self.now.report in
    let next = next_is (goal.at.returns-in_ok-report_plan-in-Some-clause-next c).In-Some in
    let run = c.in_ok-report_plan-in-Some.ensures.ends in (
      record { outcome = run.outcome; bounds_are = run.bounds_are },
      plan_ends (play p input rules) (most_answers p input rules.limit) (c.run_laws.ensures.reads p input rules)
          (answers_of c.args.prefix.now) (front_at c.args.position (answers_in report.asked.items))
          (recorded c.plan_next.new.chooser) _ _ _ next run,
    )

pub report_plan-requires-clause-resumes : goal.report_plan-requires-clause-resumes
report_plan-requires-clause-resumes c =
    let report = c.args.self.now.report in
    let plan = recorded c.plan_next.new.chooser in
    let plans = planned (goal.at.report_plan-requires-clause-resumes c).In-Some in
    let near = next_agrees (play c.args.self.now.player c.args.self.now.lines.now c.args.self.now.rules)
    (answers_of c.args.prefix.now) c.args.position (answers_in report.asked.items) plan
    (bounds_in report.asked.items) c.in-Some.common c.requires.position plans in
    let bounds : take c.in-Some.common (bounds_in c.plan_next.new.chooser.asked.items)
    ≡ take c.in-Some.common (bounds_in report.asked.items) =
    rw (← c.deref.ensures.value) (if_some_at _ c.in-Some.is c.in_ok-plan_next.ensures.bounds) in
    record {
      fresh = on_some_at c.in-Some.is c.in_ok-plan_next.ensures.fresh;
      agrees = (near.0, near.1, bounds ∙ near.2);
      copies = position_copies c.args.self.now.player c.args.self.now.lines.now c.args.self.now.rules c.args.position
          c.args.self.now.report c.args.self.now.copies.kept.items c.requires.copies;
    }

pub returns-in_ok-report_plan-in-Some-clause-played : goal.returns-in_ok-report_plan-in-Some-clause-played
returns-in_ok-report_plan-in-Some-clause-played c =
    let report = c.args.self.now.report in
    let plan = recorded c.plan_next.new.chooser in
    let plans = planned (goal.at.returns-in_ok-report_plan-in-Some-clause-played c).In-Some in
    let run = c.in_ok-report_plan-in-Some.ensures.ends in
    next_played c.args.self.now.player c.args.self.now.lines.now c.args.self.now.rules (answers_of c.args.prefix.now)
    c.args.position report plan run.ones _ c.in-Some.common c.args.self.now.copies.kept.items _ _ _ plans
    c.requires.copies run.answers_are c.in_ok-report_plan-in-Some.ensures.played

pub returns-in_err-plan_next : goal.returns-in_err-plan_next
returns-in_err-plan_next c = record {
  same = refl;
  next = IfOk-from_err _ _ c.from_residual.ensures.0;
  asked = on_err_always _ refl;
  ended = λ last.
      let p = c.args.self.now.player in
      let input = c.args.self.now.lines.now in
      let rules = c.args.self.now.rules in
      let report = c.args.self.now.report in
      let has : HasPlan (answers_of c.args.prefix.now) c.args.position (answers_in report.asked.items)
      (bounds_in report.asked.items) = rw (← c.deref.ensures.value) c.in_err-plan_next.ensures.refused in
      let next = next_plan (play p input rules) (most_answers p input rules.limit)
      (c.run_laws.ensures.reads p input rules) (answers_of c.args.prefix.now) c.args.position
      (answers_in report.asked.items) has.0 (bounds_in report.asked.items) has.1 c.requires.position has.2 in
      plan_left (play p input rules) (most_answers p input rules.limit) (c.run_laws.ensures.reads p input rules)
      (answers_of c.args.prefix.now) (front_at c.args.position (answers_in report.asked.items)) has.0 next last;
  copies = IfOk-from_err _ _ c.from_residual.ensures.0;
  played = IfOk-from_err _ _ c.from_residual.ensures.0;
  rises = omega arith;
  once = omega arith;
}

pub returns-in_err-report_plan-in-Some : goal.returns-in_err-report_plan-in-Some
returns-in_err-report_plan-in-Some c = record {
  same = c.report_plan.ensures.same;
  next = IfOk-from_err _ _ c.from_residual-in_err-report_plan-in-Some.ensures.0;
  asked = on_err_always _ c.in_err-report_plan-in-Some.ensures.asked;
  ended = λ last. none_last (goal.at.returns-in_err-report_plan-in-Some c).In-Some last;
  copies = IfOk-from_err _ _ c.from_residual-in_err-report_plan-in-Some.ensures.0;
  played = IfOk-from_err _ _ c.from_residual-in_err-report_plan-in-Some.ensures.0;
  rises = c.report_plan.ensures.rises;
  once = c.report_plan.ensures.once;
}

pub returns-in_ok-report_plan-in-Some-clause-ended : goal.returns-in_ok-report_plan-in-Some-clause-ended
returns-in_ok-report_plan-in-Some-clause-ended c = λ last.
    none_last (goal.at.returns-in_ok-report_plan-in-Some-clause-ended c).In-Some last

pub returns-in_ok-report_plan-in-Some-clause-copies : goal.returns-in_ok-report_plan-in-Some-clause-copies
returns-in_ok-report_plan-in-Some-clause-copies c = λ _. c.in_ok-report_plan-in-Some.ensures.copies
