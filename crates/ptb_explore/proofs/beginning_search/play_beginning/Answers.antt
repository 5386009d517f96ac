-- This file answers that a plan that stops is played to the next list, and that the copies that are kept are of its
-- play.
use Rattle.std.proofs.Common.{◌∙◌, ◌≤◌, arith, ap, refl, sym, vec_len}
use Rattle.std.proofs.lemmas.Result.{IfOk-from_err}
use Rattle.ptb_machine.specs.Play.{play}
use Rattle.ptb_machine.specs.Questions.{most_answers}
use Rattle.ptb_answers.specs.AskedQuestions.{answers_in, bounds_in}
use Rattle.ptb_explore.specs.Explorations.{game_of}
use Rattle.ptb_explore.specs.PlannedPlays.{play_steps}
use Rattle.ptb_explore.specs.Recorders.{recorder_choices, recorded}
use Rattle.ptb_explore.proofs.WrittenTexts.{on_err_always}
use Rattle.ptb_explore.proofs.KeptCopies.{kept_same}
use Rattle.ptb_explore.proofs.RecordedAnswers.{given_answers, recorded_len, same_bounds}
use Rattle.ptb_explore.proofs.Runners.{changed}
use Rattle.ptb_explore.proofs.StoppedPlans.{beginning_ends, stopping_agrees}
use Rattle.ptb_explore.proofs.beginning_search.play_beginning.Goals as goal

pub stop_after-requires : goal.stop_after-requires
stop_after-requires c = record {
  fresh = c.requires.resumes.fresh.none_given;
  planned = c.requires.resumes.fresh.all_planned;
  within = omega (arith, c.requires.within, recorded_len c.args.runner.now.chooser);
}

pub play_plan-requires : goal.play_plan-requires
play_plan-requires c =
    let old = c.args.runner.now.chooser in
    let new = c.stop_after.new.self in
    let few : c.args.common ≤ vec_len old.asked = omega (arith, c.requires.common, recorded_len old) in
    let near = stopping_agrees (play c.args.runner.now.player c.args.runner.now.lines.now c.args.runner.now.rules)
    c.args.most c.args.common (recorded old) (answers_in c.args.runner.now.report.asked.items) _
    (bounds_in old.asked.items) c.requires.common
    c.in_ok-stop_after.ensures.answers c.requires.resumes.agrees in
    record {
      fresh = record {
        none_given = c.in_ok-stop_after.ensures.given;
        all_planned = c.in_ok-stop_after.ensures.planned;
      };
      agrees = (near.0, near.1, same_bounds old new c.args.common few c.in_ok-stop_after.ensures.front ∙ near.2);
      copies = c.requires.resumes.copies;
    }

pub returns-clause-ends : goal.returns-clause-ends
returns-clause-ends c =
    let old = c.args.runner.now in
    let new = c.play_plan.new.self in
    let run = beginning_ends (game_of old) (most_answers old.player old.lines.now old.rules.limit)
    (c.run_laws.ensures.reads old.player old.lines.now old.rules) c.args.most (recorded old.chooser) c.requires.within
    c.requires.opens new.chooser (c.in_ok-play_plan.ensures.plan ∙ c.in_ok-stop_after.ensures.answers) new.report.steps
    new.report.transcript.items new.report.ending c.in_ok-play_plan.ensures.ends in
    rw (c.exchange_answers.ensures.asked, c.keep_given.ensures.asked, given_answers new.chooser) run

pub returns-clause-copies : goal.returns-clause-copies
returns-clause-copies c =
    let old = c.args.runner.now in
    let new = c.play_plan.new.self in
    kept_same old.player old.player old.lines.now old.lines.now old.rules (recorder_choices new.chooser).taken _
    new.report.transcript.items _ new.copies.kept.items _ refl refl
    (ap answers_in (c.exchange_answers.ensures.asked ∙ c.keep_given.ensures.asked) ∙ given_answers new.chooser) refl
    refl c.in_ok-play_plan.ensures.copies

pub returns-clause-begun : goal.returns-clause-begun
returns-clause-begun c =
    let old = c.args.runner.now in
    let taken = ap answers_in (c.exchange_answers.ensures.asked ∙ c.keep_given.ensures.asked)
    ∙ given_answers c.play_plan.new.self.chooser in
    c.in_ok-play_plan.ensures.begun ∙ ap (play_steps old.player old.lines.now old.rules) (sym taken)

pub returns-in_err-stop_after : goal.returns-in_err-stop_after
returns-in_err-stop_after c = record {
  same = refl;
  ends = IfOk-from_err _ _ c.from_residual.ensures.0;
  asked = on_err_always _ refl;
  copies = IfOk-from_err _ _ c.from_residual.ensures.0;
  begun = IfOk-from_err _ _ c.from_residual.ensures.0;
  played = IfOk-from_err _ _ c.from_residual.ensures.0;
  rises = omega arith;
  once = omega arith;
}

pub returns-in_err-play_plan : goal.returns-in_err-play_plan
returns-in_err-play_plan c = record {
  same = c.play_plan.ensures.same;
  ends = IfOk-from_err _ _ c.from_residual-in_err-play_plan.ensures.0;
  asked = on_err_always _ c.play_plan.ensures.asked;
  copies = IfOk-from_err _ _ c.from_residual-in_err-play_plan.ensures.0;
  begun = IfOk-from_err _ _ c.from_residual-in_err-play_plan.ensures.0;
  played = IfOk-from_err _ _ c.from_residual-in_err-play_plan.ensures.0;
  rises = c.play_plan.ensures.rises;
  once = c.play_plan.ensures.once;
}

pub returns-clause-same : goal.returns-clause-same
returns-clause-same c = changed c.play_plan.new.self c.args.runner.now _ _ _ c.play_plan.ensures.same
