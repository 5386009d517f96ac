-- This file answers that answers are a run exactly where all of them are taken, and nothing more.
use Rattle.std.proofs.Common.{◌≡◌, ◌∙◌, ◌<◌, [], length, refl, ap, sym, subst}
use Rattle.ptb_answers.specs.AnswerText.{answers_of}
use Rattle.ptb_answers.specs.Outcome.{bounds}
use Rattle.ptb_answers.specs.AskedQuestions.{answers_in, bounds_in}
use Rattle.ptb_machine.specs.Play.{Finish}
use Rattle.ptb_machine.specs.Questions.{most_answers}
use Rattle.ptb_explore.specs.Copies.{more_played, play_limit}
use Rattle.ptb_explore.specs.Explorations.{game_of}
use Rattle.ptb_explore.specs.MarkedRuns.{states_bounds}
use Rattle.ptb_explore.specs.Mismatch.{IsRunMismatch}
use Rattle.ptb_explore.specs.Recorders.{recorder_choices, given_bounds, recorded}
use Rattle.ptb_machine.specs.RunTree.{IsRun}
use Rattle.ptb_explore.proofs.Exits.{ok_no_err, same_reason}
use Rattle.ptb_explore.proofs.KeptCopies.{kept_same}
use Rattle.ptb_explore.proofs.Mismatches.{answers_length, if_none_at, if_some_at}
use Rattle.ptb_explore.proofs.RecordedAnswers.{fresh_from}
use Rattle.ptb_explore.proofs.Runners.{changed}
use Rattle.ptb_explore.proofs.PlayedRecorders.{all_bounds, all_given, result_is, whole_plan}
use Rattle.ptb_explore.proofs.runner.Runner.check_run.Goals as goal

pub play_from_start-requires-clause-fresh : goal.play_from_start-requires-clause-fresh
play_from_start-requires-clause-fresh c = fresh_from _ c.in_ok-replay.ensures.given c.in_ok-replay.ensures.planned

pub run_mismatch-requires : goal.run_mismatch-requires
run_mismatch-requires c = c.in_ok-ending.ensures.plan ∙ c.in_ok-replay.ensures.answers

pub returns : goal.returns
returns c =
    let old = c.args.self.now in
    let game = game_of old in
    let most = most_answers old.player old.lines.now old.rules.limit in
    let reads = c.run_laws.ensures.reads old.player old.lines.now old.rules in
    let plan = (recorded c.replay.new.self) in
    let are = c.in_ok-replay.ensures.answers in
    let new = c.play_from_start.new.self.chooser in
    let shown = c.play_from_start.new.self.report.transcript.items in
    let is = if_none_at c.in_default.is c.run_mismatch.ensures.taken in
    let count : length plan ≡ length c.args.list.now = ap length are ∙ answers_length c.args.list.now in
    let taken : length (given_bounds new) ≡ length plan = is.taken ∙ sym count in
    let alone : length (recorded new) ≡ length plan = is.alone ∙ sym count in
    let whole = whole_plan game new _ shown most reads plan c.in_ok-ending.ensures.plan taken alone _
    c.in_ok-ending.ensures.ends in
    let their = whole.2 ∙ ap (bounds game) are in
    record {
      same = changed c.play_from_start.new.self old _ _ _ c.play_from_start.ensures.same;
      run = (subst (IsRun game) are whole.0, ap (states_bounds c.args.list.now) (sym their) ∙ is.states);
      answers = ap answers_in c.exchange_answers.ensures.asked ∙ whole.1 ∙ are;
      bounds = ap bounds_in c.exchange_answers.ensures.asked ∙ all_bounds game new
          (whole.2 ∙ sym (ap (bounds game) whole.1)) ∙ their;
      copies = kept_same old.player old.player old.lines.now old.lines.now old.rules (recorder_choices new).taken
          (answers_of c.args.list.now) shown _ _ _
          refl refl (sym (all_given game new (whole.2 ∙ sym (ap (bounds game) whole.1)) ∙ whole.1 ∙ are)) refl refl
          c.in_ok-ending.ensures.copies;
      played = λ f over.
          let same : _ ≡ f = result_is _ f [] [] (sym whole.3 ∙ ap game are ∙ over) in (
            c.in_ok-ending.ensures.played ∙ ap (λ (x : Finish). more_played old.played x.steps) same,
            subst (λ (x : Finish). x.steps < play_limit) same c.in_ok-ending.ensures.few,
          );
      mismatch = λ _ fault. ok_no_err fault;
      kind = λ _ fault. ok_no_err fault;
      memory = ok_no_err;
    }

pub returns-in-Some-clause-mismatch : goal.returns-in-Some-clause-mismatch
returns-in-Some-clause-mismatch c = λ m fault.
    let old = c.args.self.now in
    let game = game_of old in
    let reads = c.run_laws.ensures.reads old.player old.lines.now old.rules in
    same_reason (IsRunMismatch game [] c.args.list.now) _ m fault
    (if_some_at _ c.in-Some.is
    (c.run_mismatch.ensures.mismatch game (most_answers old.player old.lines.now old.rules.limit) _
    c.play_from_start.new.self.report.transcript.items reads c.in_ok-ending.ensures.ends))
