-- This file answers that a run is played step by step with the answers that are drawn, and how it ends.
use Rattle.std.proofs.Common.{◌≡◌, ◌∙◌, [], drop, refl, ap, sym, false, Ok, Some, None}
use Rattle.std.proofs.lemmas.Bool.{false≢true}
use Rattle.ptb_answers.specs.Seeds.{RefusedForMemory, drawn_from, seeded_choices}
use Rattle.ptb_command.specs.State.{first_state}
use Rattle.ptb_devices.specs.Sources.{LineList}
use Rattle.ptb_machine.specs.Play.{play}
use Rattle.ptb_explore.specs.PlannedPlays.{IsRunPrefix}
use Rattle.ptb_explore.proofs.RunPrefix.{advanced, step_goes, run_prefix_at_first, none_follow}
use Rattle.ptb_explore.proofs.RunPrefix.{only_memory}
use Rattle.ptb_explore.proofs.DrawnRuns.{drawn_ends, plays_drawn}
use Rattle.ptb_explore.proofs.sampler.play_drawn.Goals as goal
use Rattle.ptb_explore.proofs.sampler.play_drawn.Goals.{After-advance}

pub steps-init : goal.steps-init
steps-init c =
    let chooser = c.args.chooser.now in
    let input = c.args.lines.now in
    let taken : (seeded_choices chooser).taken ≡ [] = ap (drawn_from chooser.first) c.requires.fresh in
    let kept : (seeded_choices chooser).kept ≡ Some [] = ap Some c.requires.fresh in
    record {
      plan = refl;
      same_lines = ap (λ (s : LineList). s.lines) c.new-source.ensures;
      unspent = c.requires.first.unspent;
      fits = record {
        state = first_state c.args.player.now input c.args.rules.choose;
        represents = c.requires.first.represents input c.args.rules.choose;
      };
      run_prefix = rw (c.new-source.ensures, c.requires.shown) (run_prefix_at_first c.args.player.now input c.args.rules
          (seeded_choices chooser) c.args.machine.now taken kept
          (c.requires.first.represents input c.args.rules.choose));
    }

-- the machine is where the play is, after it advanced
advances : (c : After-advance)
    → IsRunPrefix c.args.player.now c.args.lines.now c.args.rules (seeded_choices c.steps.chooser) c.steps.screen
    (drop c.steps.source.taken c.steps.source.lines) c.advance.new.machine
advances c =
    let turns = c.advance.ensures.turns in
    advanced c.run_laws.ensures c.args.player.now c.args.lines.now c.args.rules turns.0 c.steps.machine
    c.advance.new.machine (seeded_choices c.steps.chooser) c.steps.screen _ c.steps.invariant.run_prefix turns.1.1

pub step-requires : goal.step-requires
step-requires c = record { fits = c.advance.ensures.fits }

pub steps-preserved : goal.steps-preserved
steps-preserved c =
    let l = c.steps in
    let i = l.invariant in
    let turn = c.step.ensures.turn in
    let is : c.step.result ≡ Ok None = c.in-Ok-None.is ∙ ap Ok c.in-Ok-None.field-0-is in
    let u = advances (goal.at.steps-preserved c).After-advance in
    let x = step_goes c.run_laws.ensures c.args.player.now c.args.lines.now c.args.rules _ _
    (seeded_choices l.chooser) (seeded_choices c.step.new.chooser) _ _ turn.given _ _ _ _ _ _ is u turn.gives.first
    (none_follow c.step.new.source) turn.steps in
    record {
      plan = x.0 ∙ i.plan;
      same_lines = turn.gives.same_lines ∙ i.same_lines;
      unspent = c.step.ensures.spends.0 is;
      fits = c.step.ensures.fits;
      run_prefix = x.1;
    }

pub returns-in-Ok-Some : goal.returns-in-Ok-Some
returns-in-Ok-Some c =
    let l = c.steps in
    let i = l.invariant in
    let input = c.args.lines.now in
    let turn = c.step.ensures.turn in
    let is = c.in-Ok-Some.is ∙ ap Ok (c.in-Ok-Some.field-0-is ∙ ap Some c.in-Ok-Some.ending-is) in
    let u = advances (goal.at.returns-in-Ok-Some c).After-advance in
    let x = drawn_ends c.run_laws.ensures c.args.player.now input c.args.rules _ _ (seeded_choices l.chooser)
    (seeded_choices c.step.new.chooser) _ _ turn.given _ _ _ _ u c.in-Ok-Some.ending _ is turn.gives.first
    (none_follow c.step.new.source) turn.steps in
    plays_drawn (play c.args.player.now input c.args.rules) c.args.chooser.now c.step.new.chooser _ (x.0 ∙ i.plan) x.1

pub memory_refusal-requires : goal.memory_refusal-requires
memory_refusal-requires c =
    let turn = c.step.ensures.turn in
    let u = advances (goal.at.memory_refusal-requires c).After-advance in
    let going : c.advance.new.machine.spent ≡ false = c.advance.ensures.spent ∙ c.steps.invariant.unspent in
    only_memory c.run_laws.ensures c.args.player.now c.args.lines.now c.args.rules RefusedForMemory
    _ _ _ _ _ _ turn.given _ _ _ _ _ u turn.gives.first (none_follow c.step.new.source) turn.steps
    (λ over. false≢true (sym going ∙ c.step.ensures.spent.0 over)) c.in-Err.fault c.in-Err.is
