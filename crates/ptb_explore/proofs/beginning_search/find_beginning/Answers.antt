-- This file answers that the list of the next plan is the next list.
use Rattle.std.proofs.Common.{◌≡◌, ◌∙◌, [], Some, None, arith, refl, take}
use Rattle.std.proofs.lemmas.Result.{IfOk-from_err}
use Rattle.ptb_machine.specs.Play.{play}
use Rattle.ptb_machine.specs.Questions.{most_answers}
use Rattle.ptb_answers.specs.AskedQuestions.{answers_in, bounds_in}
use Rattle.ptb_explore.specs.Recorders.{recorded}
use Rattle.ptb_explore.specs.Beginnings.{stopped}
use Rattle.ptb_machine.specs.RunTree.{IsLast}
use Rattle.ptb_explore.specs.Plans.{front_at, HasPlan, PlansNext}
use Rattle.ptb_explore.proofs.WrittenTexts.{on_err_always}
use Rattle.ptb_explore.proofs.Exits.{on_some_at}
use Rattle.ptb_explore.proofs.ContinuedCopies.{next_played, position_copies}
use Rattle.ptb_explore.proofs.Mismatches.{if_some_at}
use Rattle.ptb_explore.proofs.NextRuns.{IsPlan}
use Rattle.ptb_explore.proofs.RaisedAnswers.{next_plan, last_plan, plan_ends}
use Rattle.ptb_explore.proofs.Shares.{plan_left}
use Rattle.ptb_explore.proofs.StoppedPlays.{stopped_reads}
use Rattle.ptb_explore.proofs.StoppedPlans.{beginning_agrees, plan_fits}
use Rattle.ptb_explore.proofs.beginning_search.find_beginning.Goals as goal
use Rattle.ptb_explore.proofs.beginning_search.find_beginning.Goals.{In-Some}

pub returns-in-None-clause-next : goal.returns-in-None-clause-next
returns-in-None-clause-next c =
    let game = play c.args.runner.now.player c.args.runner.now.lines.now c.args.runner.now.rules in
    let reads = c.run_laws.ensures.reads c.args.runner.now.player c.args.runner.now.lines.now c.args.runner.now.rules in
    let most = most_answers c.args.runner.now.player c.args.runner.now.lines.now c.args.runner.now.rules.limit in
    let report = c.args.runner.now.report in
    let plans : PlansNext [] c.args.position (answers_in report.asked.items)
    (bounds_in report.asked.items) (recorded c.plan_next.new.chooser) None =
    rw (← c.deref.ensures.value, ← c.in-None.is) c.in_ok-plan_next.ensures.plan in
    last_plan (stopped c.args.most game) c.args.most (stopped_reads game c.args.most most reads)
    [] c.args.position (answers_in report.asked.items) (recorded c.plan_next.new.chooser)
    (bounds_in report.asked.items) c.requires.position plans

-- the plan that comes next
planned : (c : In-Some) → PlansNext [] c.args.position (answers_in c.args.runner.now.report.asked.items)
    (bounds_in c.args.runner.now.report.asked.items) (recorded c.plan_next.new.chooser) (Some c.in-Some.common)
planned c = rw (← c.deref.ensures.value, ← c.in-Some.is) c.in_ok-plan_next.ensures.plan

next_is : (c : In-Some) → IsPlan (stopped c.args.most (play c.args.runner.now.player c.args.runner.now.lines.now
    c.args.runner.now.rules)) [] (front_at c.args.position (answers_in c.args.runner.now.report.asked.items))
    (recorded c.plan_next.new.chooser)
next_is c =
    let game = play c.args.runner.now.player c.args.runner.now.lines.now c.args.runner.now.rules in
    let reads = c.run_laws.ensures.reads c.args.runner.now.player c.args.runner.now.lines.now c.args.runner.now.rules in
    let most = most_answers c.args.runner.now.player c.args.runner.now.lines.now c.args.runner.now.rules.limit in
    let report = c.args.runner.now.report in
    next_plan (stopped c.args.most game) c.args.most (stopped_reads game c.args.most most reads)
    [] c.args.position (answers_in report.asked.items) (recorded c.plan_next.new.chooser) (bounds_in report.asked.items)
    c.in-Some.common c.requires.position (planned c)

-- so some list is left
none_last : {P : Type 0} (c : In-Some) → IsLast (stopped c.args.most (play c.args.runner.now.player
    c.args.runner.now.lines.now c.args.runner.now.rules)) []
    (front_at c.args.position (answers_in c.args.runner.now.report.asked.items)) → P
none_last c last =
    let game = play c.args.runner.now.player c.args.runner.now.lines.now c.args.runner.now.rules in
    let reads = c.run_laws.ensures.reads c.args.runner.now.player c.args.runner.now.lines.now c.args.runner.now.rules in
    let most = most_answers c.args.runner.now.player c.args.runner.now.lines.now c.args.runner.now.rules.limit in
    let report = c.args.runner.now.report in
    plan_left (stopped c.args.most game) c.args.most (stopped_reads game c.args.most most reads) []
    (front_at c.args.position (answers_in report.asked.items)) (recorded c.plan_next.new.chooser) (next_is c) last

pub play_beginning-requires : goal.play_beginning-requires
play_beginning-requires c =
    let game = play c.args.runner.now.player c.args.runner.now.lines.now c.args.runner.now.rules in
    let reads = c.run_laws.ensures.reads c.args.runner.now.player c.args.runner.now.lines.now c.args.runner.now.rules in
    let most = most_answers c.args.runner.now.player c.args.runner.now.lines.now c.args.runner.now.rules.limit in
    let report = c.args.runner.now.report in
    let plan = recorded c.plan_next.new.chooser in
    let plans = planned (goal.at.play_beginning-requires c).In-Some in
    let near = beginning_agrees game most reads c.args.most c.args.position (answers_in report.asked.items) plan
    (bounds_in report.asked.items) c.in-Some.common c.requires.position plans in
    let bounds : take c.in-Some.common (bounds_in c.plan_next.new.chooser.asked.items)
    ≡ take c.in-Some.common (bounds_in report.asked.items) =
    rw (← c.deref.ensures.value) (if_some_at _ c.in-Some.is c.in_ok-plan_next.ensures.bounds) in
    let fits = plan_fits game most reads c.args.most c.args.position (answers_in report.asked.items) plan
    (bounds_in report.asked.items) c.in-Some.common c.requires.position plans in
    record {
      resumes = record {
        fresh = on_some_at c.in-Some.is c.in_ok-plan_next.ensures.fresh;
        agrees = (near.0, near.1, bounds ∙ near.2);
        copies = position_copies c.args.runner.now.player c.args.runner.now.lines.now c.args.runner.now.rules
            c.args.position c.args.runner.now.report c.args.runner.now.copies.kept.items c.requires.copies;
      };
      within = fits.0;
      common = fits.1;
      opens = (next_is (goal.at.play_beginning-requires c).In-Some).opens;
    }

pub returns-in_ok-play_beginning-in-Some-clause-next : goal.returns-in_ok-play_beginning-in-Some-clause-next
returns-in_ok-play_beginning-in-Some-clause-next c =
    let game = play c.args.runner.now.player c.args.runner.now.lines.now c.args.runner.now.rules in
    let reads = c.run_laws.ensures.reads c.args.runner.now.player c.args.runner.now.lines.now c.args.runner.now.rules in
    let most = most_answers c.args.runner.now.player c.args.runner.now.lines.now c.args.runner.now.rules.limit in
    let report = c.args.runner.now.report in
    let next = next_is (goal.at.returns-in_ok-play_beginning-in-Some-clause-next c).In-Some in
    let run = c.in_ok-play_beginning-in-Some.ensures.ends in (
      plan_ends (stopped c.args.most game) c.args.most (stopped_reads game c.args.most most reads) []
          (front_at c.args.position (answers_in report.asked.items)) (recorded c.plan_next.new.chooser) _ _ _ next run,
      run.bounds_are,
    )

pub returns-in_ok-play_beginning-in-Some-clause-ended : goal.returns-in_ok-play_beginning-in-Some-clause-ended
returns-in_ok-play_beginning-in-Some-clause-ended c = λ last.
    none_last (goal.at.returns-in_ok-play_beginning-in-Some-clause-ended c).In-Some last

pub returns-in_ok-play_beginning-in-Some-clause-played : goal.returns-in_ok-play_beginning-in-Some-clause-played
returns-in_ok-play_beginning-in-Some-clause-played c =
    let report = c.args.runner.now.report in
    let plan = recorded c.plan_next.new.chooser in
    let plans = planned (goal.at.returns-in_ok-play_beginning-in-Some-clause-played c).In-Some in
    let run = c.in_ok-play_beginning-in-Some.ensures.ends in
    next_played c.args.runner.now.player c.args.runner.now.lines.now c.args.runner.now.rules
    [] c.args.position report plan run.ones _ c.in-Some.common c.args.runner.now.copies.kept.items _ _ _ plans
    c.requires.copies run.answers_are c.in_ok-play_beginning-in-Some.ensures.played

pub returns-in_ok-play_beginning-in-Some-clause-copies : goal.returns-in_ok-play_beginning-in-Some-clause-copies
returns-in_ok-play_beginning-in-Some-clause-copies c = λ _. c.in_ok-play_beginning-in-Some.ensures.copies

pub returns-in_ok-play_beginning-in-Some-clause-begun : goal.returns-in_ok-play_beginning-in-Some-clause-begun
returns-in_ok-play_beginning-in-Some-clause-begun c = λ _. c.in_ok-play_beginning-in-Some.ensures.begun

pub returns-in_err-plan_next : goal.returns-in_err-plan_next
returns-in_err-plan_next c = record {
  same = refl;
  next = IfOk-from_err _ _ c.from_residual.ensures.0;
  asked = on_err_always _ refl;
  ended = λ last.
      let game = play c.args.runner.now.player c.args.runner.now.lines.now c.args.runner.now.rules in
      let reads = c.run_laws.ensures.reads c.args.runner.now.player c.args.runner.now.lines.now
      c.args.runner.now.rules in
      let most = most_answers c.args.runner.now.player c.args.runner.now.lines.now c.args.runner.now.rules.limit in
      let report = c.args.runner.now.report in
      let has : HasPlan [] c.args.position (answers_in report.asked.items) (bounds_in report.asked.items) =
      rw (← c.deref.ensures.value) c.in_err-plan_next.ensures.refused in
      let next = next_plan (stopped c.args.most game) c.args.most (stopped_reads game c.args.most most reads)
      [] c.args.position (answers_in report.asked.items) has.0 (bounds_in report.asked.items) has.1
      c.requires.position has.2 in
      plan_left (stopped c.args.most game) c.args.most (stopped_reads game c.args.most most reads) []
      (front_at c.args.position (answers_in report.asked.items)) has.0 next last;
  copies = IfOk-from_err _ _ c.from_residual.ensures.0;
  begun = IfOk-from_err _ _ c.from_residual.ensures.0;
  played = IfOk-from_err _ _ c.from_residual.ensures.0;
  rises = omega arith;
  once = omega arith;
}

pub returns-in_err-play_beginning-in-Some : goal.returns-in_err-play_beginning-in-Some
returns-in_err-play_beginning-in-Some c = record {
  same = c.play_beginning.ensures.same;
  next = IfOk-from_err _ _ c.from_residual-in_err-play_beginning-in-Some.ensures.0;
  asked = on_err_always _ c.in_err-play_beginning-in-Some.ensures.asked;
  ended = λ last. none_last (goal.at.returns-in_err-play_beginning-in-Some c).In-Some last;
  copies = IfOk-from_err _ _ c.from_residual-in_err-play_beginning-in-Some.ensures.0;
  begun = IfOk-from_err _ _ c.from_residual-in_err-play_beginning-in-Some.ensures.0;
  played = IfOk-from_err _ _ c.from_residual-in_err-play_beginning-in-Some.ensures.0;
  rises = c.play_beginning.ensures.rises;
  once = c.play_beginning.ensures.once;
}
