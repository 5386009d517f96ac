-- This file answers how a plan ends that is played on from a copy, and that the copies that are kept are of its run.
use Rattle.std.proofs.Common.{◌≡◌, ℕ, ◌+◌, ◌-◌, ◌<◌, ◌≤◌, List, ◌∙◌, ap, arith, refl, sym, subst}
use Rattle.std.proofs.lemmas.Result.{IfOk-from_err}
use Rattle.ptb_answers.specs.Outcome.{Answers, Outcome}
use Rattle.ptb_command.specs.Configuration.{Configuration}
use Rattle.ptb_devices.specs.Sources.{LineList}
use Rattle.ptb_machine.specs.Play.{Finish}
use Rattle.ptb_explore.specs.declared.runner.Runner.{Runner}
use Rattle.ptb_explore.specs.Copies.{last_steps, more_played, play_limit}
use Rattle.ptb_explore.specs.PlannedPlays.{PlayEnds}
use Rattle.ptb_explore.specs.Recorders.{recorder_choices}
use Rattle.ptb_explore.proofs.RestoredCopies.{agrees_same, prefix_of_same}
use Rattle.ptb_explore.proofs.KeptCopies.{kept_same}
use Rattle.ptb_explore.proofs.Runners.{copies_stay, counted, game_is, steps_are, still_same}
use Rattle.ptb_explore.proofs.runner.Runner.play_plan.Goals as goal
use Rattle.ptb_explore.proofs.runner.Runner.play_plan.Goals.{After-go_back-machine}

pub returns-clause-same : goal.returns-clause-same
returns-clause-same c = counted c.play_counted-ending.new.self c.go_back-machine.new.self c.args.self.now _ _ _
    c.play_counted-ending.ensures.same c.go_back-machine.ensures.same

pub returns-clause-asked : goal.returns-clause-asked
returns-clause-asked c =
    ap (λ (r : Runner). r.report.asked.items) c.play_counted-ending.ensures.same
    ∙ ap (λ (r : Runner). r.report.asked.items) c.go_back-machine.ensures.same

pub returns-clause-plan : goal.returns-clause-plan
returns-clause-plan c = c.in_ok-self.ensures.plan ∙ c.in_ok-machine.ensures.plan

-- ---- it went back in the same game

module _ (c : After-go_back-machine) where
  same_player : c.go_back-machine.new.self.player ≡ c.args.self.now.player
  same_player = ap (λ (r : Runner). r.player) c.go_back-machine.ensures.same

  same_rules : c.go_back-machine.new.self.rules ≡ c.args.self.now.rules
  same_rules = ap (λ (r : Runner). r.rules) c.go_back-machine.ensures.same

  same_lines : c.go_back-machine.new.source.lines ≡ c.args.self.now.lines.now
  same_lines = c.go_back-machine.ensures.same_lines ∙ ap (λ (s : LineList). s.lines) c.new-source.ensures

pub returns-clause-ends : goal.returns-clause-ends
returns-clause-ends c =
    let old = c.args.self.now in
    let back = c.go_back-machine.new.self in
    let on = (goal.at.returns-clause-ends c).After-go_back-machine in
    let chooser = c.play_counted-ending.new.self.chooser in
    let steps = c.play_counted-ending.new.machine.steps in
    let shown = c.play_counted-ending.new.screen in
    let game = game_is old.player back.player old.lines.now c.go_back-machine.new.source.lines old.rules back.rules
    (same_player on) (same_lines on) (same_rules on) in
    let ends = subst (λ (g : Answers → Outcome Finish (List ℕ)). PlayEnds g
    (recorder_choices chooser) chooser.refused_bound steps shown c.in_ok-self.field-0) game c.in_ok-self.ensures.ends in
    rw (c.into_vec.ensures, c.steps-steps.ensures, c.deref.ensures) ends

pub returns-clause-begun : goal.returns-clause-begun
returns-clause-begun c =
    let old = c.args.self.now in
    let back = c.go_back-machine.new.self in
    let on = (goal.at.returns-clause-begun c).After-go_back-machine in
    let begun = c.in_ok-self.ensures.begun ∙ steps_are old.player back.player old.lines.now
    c.go_back-machine.new.source.lines old.rules back.rules (same_player on) (same_lines on) (same_rules on)
    (recorder_choices c.play_counted-ending.new.self.chooser).taken in
    rw (c.steps-steps.ensures, c.deref.ensures) begun

pub returns-clause-copies : goal.returns-clause-copies
returns-clause-copies c =
    let old = c.args.self.now in
    let back = c.go_back-machine.new.self in
    let on = (goal.at.returns-clause-copies c).After-go_back-machine in
    copies_stay back.player old.player c.go_back-machine.new.source.lines old.lines.now back.rules old.rules
    (sym (same_player on)) (sym (same_lines on)) (sym (same_rules on))
    (recorder_choices c.play_counted-ending.new.self.chooser).taken _ c.play_counted-ending.new.screen _
    c.play_counted-ending.new.self.copies.kept.items _
    refl c.into_vec.ensures (ap (λ k. k.items) c.recycle.ensures) c.in_ok-self.ensures.copies

pub returns-clause-played : goal.returns-clause-played
returns-clause-played c =
    let left = c.go_back-machine.new.self.copies.kept.items in
    let first = ap (λ (m : Configuration). m.steps) c.deref_mut.ensures.value ∙ c.in_ok-machine.ensures.steps in
    let steps = c.steps-steps.ensures ∙ ap (λ (m : Configuration). m.steps) c.deref.ensures in
    let before = ap (λ (r : Runner). r.played) c.go_back-machine.ensures.same in (
      left,
      c.in_ok-machine.ensures.back,
      c.play_counted-ending.ensures.played
          ∙ ap (λ k. more_played k (c.play_counted-ending.new.machine.steps - c.deref_mut.result.now.steps)) before
          ∙ ap (λ n. more_played c.args.self.now.played (c.play_counted-ending.new.machine.steps - n)) first
          ∙ ap (λ n. more_played c.args.self.now.played (n - last_steps left)) (sym steps),
    )

pub returns-clause-rises : goal.returns-clause-rises
returns-clause-rises c = subst (λ n. n ≤ c.play_counted-ending.new.self.played)
    (ap (λ (r : Runner). r.played) c.go_back-machine.ensures.same) c.play_counted-ending.ensures.rises

pub returns-clause-once : goal.returns-clause-once
returns-clause-once c = subst (λ n. c.play_counted-ending.new.self.played < n + play_limit)
    (ap (λ (r : Runner). r.played) c.go_back-machine.ensures.same) c.play_counted-ending.ensures.once

pub returns-in_err-machine : goal.returns-in_err-machine
returns-in_err-machine c =
    let same = c.go_back-machine.ensures.same in
    let played = ap (λ (r : Runner). r.played) same in
    record {
      same = still_same c.go_back-machine.new.self c.args.self.now _ same;
      plan = IfOk-from_err _ _ c.from_residual.ensures.0;
      ends = IfOk-from_err _ _ c.from_residual.ensures.0;
      begun = IfOk-from_err _ _ c.from_residual.ensures.0;
      asked = ap (λ (r : Runner). r.report.asked.items) same;
      copies = IfOk-from_err _ _ c.from_residual.ensures.0;
      played = IfOk-from_err _ _ c.from_residual.ensures.0;
      rises = omega (arith, played);
      once = omega (arith, played);
    }

pub returns-in_err-self : goal.returns-in_err-self
returns-in_err-self c =
    let same = c.go_back-machine.ensures.same in
    let more = c.play_counted-ending.ensures.same in
    let played = ap (λ (r : Runner). r.played) same in
    record {
      same = counted c.play_counted-ending.new.self c.go_back-machine.new.self c.args.self.now _ _ _ more same;
      plan = IfOk-from_err _ _ c.from_residual-in_err-self.ensures.0;
      ends = IfOk-from_err _ _ c.from_residual-in_err-self.ensures.0;
      begun = IfOk-from_err _ _ c.from_residual-in_err-self.ensures.0;
      asked = ap (λ (r : Runner). r.report.asked.items) more ∙ ap (λ (r : Runner). r.report.asked.items) same;
      copies = IfOk-from_err _ _ c.from_residual-in_err-self.ensures.0;
      played = IfOk-from_err _ _ c.from_residual-in_err-self.ensures.0;
      rises = omega (arith, played, c.play_counted-ending.ensures.rises);
      once = omega (arith, played, c.play_counted-ending.ensures.once);
    }

pub go_back-machine-requires : goal.go_back-machine-requires
go_back-machine-requires c =
    let old = c.args.self.now in
    let lines = ap (λ (s : LineList). s.lines) c.new-source.ensures in record {
      fresh = c.requires.fresh;
      begins = ap (λ (s : LineList). s.taken) c.new-source.ensures;
      agrees = agrees_same old.player old.rules c.args.common _ _ _ old.lines.now _ lines c.requires.agrees;
      copies = kept_same old.player old.player old.lines.now _ old.rules _ _ _ _ _ _ refl lines refl
          (c.from_vec-screen.ensures ∙ ap (λ v. v.items) c.replace-transcript.ensures.value) refl c.requires.copies;
    }

pub play_counted-ending-requires : goal.play_counted-ending-requires
play_counted-ending-requires c =
    let old = c.args.self.now in
    let back = c.go_back-machine.new.self in
    let player = ap (λ (r : Runner). r.player) c.go_back-machine.ensures.same in
    let rules = ap (λ (r : Runner). r.rules) c.go_back-machine.ensures.same in
    record {
      unspent = ap (λ (m : Configuration). m.spent) c.deref_mut.ensures.value ∙ c.in_ok-machine.ensures.unspent;
      within = c.in_ok-machine.ensures.within;
      run_prefix = rw rules (prefix_of_same old.player back.player player _ _ c.go_back-machine.ensures.same_lines
          old.rules _ _ _ _ _ c.deref_mut.ensures.value c.in_ok-machine.ensures.run_prefix);
      copies = copies_stay old.player back.player _ _ old.rules back.rules player c.go_back-machine.ensures.same_lines
          rules _ _ _ _ _ _ refl refl refl c.in_ok-machine.ensures.copies;
    }
