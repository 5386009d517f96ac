-- This file answers that a run is played from its beginning.
use Rattle.std.proofs.Common.{◌≡◌, List, ℕ, [], ◌∙◌, take, Some, length, ap, arith, subst}
use Rattle.std.specs.Prelude.{ℤ}
use Rattle.ptb_devices.specs.Sources.{LineList}
use Rattle.ptb_machine.specs.Play.{play}
use Rattle.ptb_explore.specs.Copies.{AreCopies}
use Rattle.ptb_explore.specs.PlannedPlays.{PlayEnds}
use Rattle.ptb_explore.specs.Recorders.{recorder_choices, recorded}
use Rattle.ptb_explore.proofs.KeptCopies.{kept_none}
use Rattle.ptb_explore.proofs.RecordedAnswers.{fresh_bounds}
use Rattle.ptb_explore.proofs.RunPrefix.{run_prefix_at_first}
use Rattle.ptb_explore.proofs.Runners.{reported}
use Rattle.ptb_explore.proofs.PlayedRecorders.{fresh_plan}
use Rattle.ptb_explore.proofs.runner.Runner.play_from_start.Goals as goal

pub play_on-requires : goal.play_on-requires
play_on-requires c =
    let old = c.args.self.now in
    let input = old.lines.now in
    let choices = recorder_choices old.chooser in
    let taken : choices.taken ≡ [] =
    ap (λ (bs : List ℤ). take (length bs) (recorded old.chooser)) (fresh_bounds old.chooser c.requires.fresh) in
    let kept : choices.kept ≡ Some [] = ap Some (fresh_bounds old.chooser c.requires.fresh) in
    record {
      unspent = c.in_ok-machine.ensures.unspent;
      within = omega (arith, ap (λ (s : LineList). s.taken) c.new-source.ensures);
      run_prefix = rw (c.new-source.ensures, c.new-screen.ensures) (run_prefix_at_first old.player input old.rules
          choices c.in_ok-machine.machine taken kept (c.in_ok-machine.ensures.represents input old.rules.choose));
      copies = kept_none old.player _ old.rules choices.taken _ old.copies.kept.items c.requires.none;
    }

pub returns-clause-plan : goal.returns-clause-plan
returns-clause-plan c = c.in_ok-ending.ensures.plan ∙ fresh_plan c.args.self.now.chooser c.requires.fresh

pub returns-clause-ends : goal.returns-clause-ends
returns-clause-ends c =
    let p = c.args.self.now.player in
    let new = recorder_choices c.play_on.new.self.chooser in
    let lines : c.new-source.result.lines ≡ c.args.self.now.lines.now =
    ap (λ (s : LineList). s.lines) c.new-source.ensures in
    let ends = subst (λ (ls : List (List ℕ)). PlayEnds (play p ls c.args.self.now.rules) new
    c.play_on.new.self.chooser.refused_bound c.play_on.new.machine.steps c.play_on.new.screen
    c.in_ok-ending.ending) lines c.in_ok-ending.ensures.ends in
    rw (c.into_vec.ensures, c.steps-steps.ensures) ends

pub returns-clause-copies : goal.returns-clause-copies
returns-clause-copies c =
    let new = recorder_choices c.play_on.new.self.chooser in
    let lines : c.new-source.result.lines ≡ c.args.self.now.lines.now =
    ap (λ (s : LineList). s.lines) c.new-source.ensures in
    let copies = subst (λ (ls : List (List ℕ)). AreCopies c.args.self.now.player ls c.args.self.now.rules new.taken
    c.play_on.new.screen c.play_on.new.self.copies.kept.items) lines c.in_ok-ending.ensures.copies in
    rw c.into_vec.ensures copies

pub returns-clause-same : goal.returns-clause-same
returns-clause-same c = reported c.play_on.new.self c.args.self.now _ _ _ _ c.play_on.ensures.same
