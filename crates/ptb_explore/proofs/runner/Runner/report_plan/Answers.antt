-- This file answers that a plan that is open ends at a run, whose report is made, and that the copies that are kept
-- are of it.
use Rattle.std.proofs.Common.{◌∙◌, ap, refl, sym}
use Rattle.std.proofs.lemmas.Result.{IfOk-from_err}
use Rattle.ptb_answers.specs.AskedQuestions.{answers_in}
use Rattle.ptb_machine.specs.Play.{play}
use Rattle.ptb_machine.specs.Questions.{most_answers}
use Rattle.ptb_explore.specs.Plans.{PlanEndsWith}
use Rattle.ptb_explore.specs.Recorders.{recorder_choices, given_bounds, recorded}
use Rattle.ptb_explore.proofs.WrittenTexts.{on_err_always}
use Rattle.ptb_explore.proofs.KeptCopies.{kept_same}
use Rattle.ptb_explore.proofs.Runners.{changed}
use Rattle.ptb_explore.proofs.PlayedRecorders.{all_bounds, all_given, open_ends}
use Rattle.ptb_explore.proofs.runner.Runner.report_plan.Goals as goal

-- the plan was played to the end of a run
ended : (c : goal.After-exchange_answers)
    → PlanEndsWith (play c.args.self.now.player c.args.self.now.lines.now c.args.self.now.rules)
    (recorded c.args.self.now.chooser) (recorded c.play_plan.new.self.chooser)
    (given_bounds c.play_plan.new.self.chooser) (record {
      ending = c.play_plan.new.self.report.ending;
      steps = c.play_plan.new.self.report.steps;
      shown = c.play_plan.new.self.report.transcript.items;
    })
ended c =
    let p = c.args.self.now.player in
    let input = c.args.self.now.lines.now in
    let rules = c.args.self.now.rules in
    let report = c.play_plan.new.self.report in
    open_ends (play p input rules) c.play_plan.new.self.chooser report.steps report.transcript.items
    (most_answers p input rules.limit) (c.run_laws.ensures.reads p input rules) (recorded c.args.self.now.chooser)
    c.in_ok-play_plan.ensures.plan c.requires.opens report.ending c.in_ok-play_plan.ensures.ends

pub returns-clause-ends : goal.returns-clause-ends
returns-clause-ends c =
    let run = ended c in
    rw (
      c.exchange_answers.ensures.asked,
      all_bounds (play c.args.self.now.player c.args.self.now.lines.now
          c.args.self.now.rules) c.play_plan.new.self.chooser run.bounds_are,
    ) run

pub returns-clause-copies : goal.returns-clause-copies
returns-clause-copies c =
    let old = c.args.self.now in
    let new = c.play_plan.new.self in
    let run = ended c in
    kept_same old.player old.player old.lines.now old.lines.now old.rules (recorder_choices new.chooser).taken _
    new.report.transcript.items _ new.copies.kept.items _ refl refl (ap answers_in c.exchange_answers.ensures.asked
    ∙ sym (all_given (play old.player old.lines.now old.rules) new.chooser run.bounds_are)) refl refl
    c.in_ok-play_plan.ensures.copies

pub returns-in_err-play_plan : goal.returns-in_err-play_plan
returns-in_err-play_plan c = record {
  same = c.play_plan.ensures.same;
  ends = IfOk-from_err _ _ c.from_residual.ensures.0;
  asked = on_err_always _ c.play_plan.ensures.asked;
  copies = IfOk-from_err _ _ c.from_residual.ensures.0;
  played = IfOk-from_err _ _ c.from_residual.ensures.0;
  rises = c.play_plan.ensures.rises;
  once = c.play_plan.ensures.once;
}

pub returns-clause-same : goal.returns-clause-same
returns-clause-same c = changed c.play_plan.new.self c.args.self.now _ _ _ c.play_plan.ensures.same
