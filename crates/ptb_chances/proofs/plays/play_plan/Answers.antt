-- This file answers that a plan is played step by step, and what comes of it.
use Rattle.std.proofs.Common.{◌≡◌, take, drop, length, refl, rules, sym, ap, ◌∙◌, arith, false, true, Ok}
use Rattle.std.proofs.Common.{Some, None, FitsSigned, w16, to_z-of_z}
use Rattle.std.proofs.lemmas.Bool.{false≢true}
use Rattle.ptb_answers.specs.Outcome.{is_open}
use Rattle.ptb_command.specs.State.{State}
use Rattle.ptb_machine.specs.Play.{run_from}
use Rattle.ptb_chances.specs.PlanChoosers.{PlanAnswers, plan_choices}
use Rattle.ptb_chances.specs.StagePlays.{Came}
use Rattle.ptb_chances.proofs.PlaySteps.{advanced, came_by, came_first, none_follow, never_out, only_memory}
use Rattle.ptb_chances.proofs.PlaySteps.{plays_by, step_came, step_plays}
use Rattle.ptb_chances.proofs.PlaySteps.{step_plan, taken_within}
use Rattle.ptb_chances.proofs.PickedAnswers.{whole}
use Rattle.ptb_chances.proofs.plays.play_plan.Goals as goal
use Rattle.ptb_chances.proofs.plays.play_plan.Goals.{After-advance}

-- what came before still holds after the machine advanced
advances : (c : After-advance) (S : State)
    → Came c.args.player.now c.args.rules S (plan_choices c.commands.plan).taken c.commands.machine
    (drop c.commands.devices.source.taken c.commands.devices.source.lines) c.commands.devices.screen
    → Came c.args.player.now c.args.rules S (plan_choices c.commands.plan).taken c.advance.new.machine
    (drop c.commands.devices.source.taken c.commands.devices.source.lines) c.commands.devices.screen
advances c S came =
    let turns = c.advance.ensures.turns in
    advanced c.run_laws.ensures c.args.player.now c.args.rules turns.0 S c.commands.machine c.advance.new.machine
    (plan_choices c.commands.plan).taken c.commands.devices.screen _ came turns.1.1

pub commands-init : goal.commands-init
commands-init c =
    let given : c.new-plan.result.given ≡ 0 = ap (λ (l : PlanAnswers). l.given) c.new-plan.ensures in
    record {
      answers = ap (λ (l : PlanAnswers). l.answers) c.new-plan.ensures;
      same_lines = refl;
      within = c.requires.within;
      unspent = c.requires.unspent;
      steps = omega arith;
      came = λ S h. came_first _ _ S _ _ _ _ (ap (λ n. take n c.new-plan.result.answers) given) h;
    }

pub commands-preserved : goal.commands-preserved
commands-preserved c =
    let l = c.commands in
    let i = l.invariant in
    let is : c.step.result ≡ Ok None = c.in-Ok-None.is ∙ ap Ok c.in-Ok-None.field-0-is in
    let turn = c.step.ensures.turn in
    let turns = c.advance.ensures.turns in
    let o = c.requires.opens in
    let u = advances (goal.at.commands-preserved c).After-advance o.0 (i.came o.0 o.1) in
    record {
      answers = step_plan c.run_laws.ensures c.args.player.now c.args.rules o.0 _ _
          (plan_choices l.plan) c.step.new.chooser _ _ turn.given _ _ _ _ _ u turn.gives.first
          (none_follow c.step.new.source) turn.steps None is ∙ i.answers;
      same_lines = turn.gives.same_lines ∙ i.same_lines;
      within = rw (← i.same_lines) (taken_within l.devices.source c.step.new.source turn.given turn.gives
          (rw i.same_lines i.within));
      unspent = c.step.ensures.spends.0 is;
      steps = omega (arith, i.steps, turns.1.0, (c.step.ensures.begun is).1);
      came = λ S h.
          let v = advances (goal.at.commands-preserved c).After-advance S (i.came S h) in
          step_came c.run_laws.ensures c.args.player.now c.args.rules S _ _ (plan_choices l.plan)
          (plan_choices c.step.new.chooser) _ _ turn.given _ _ _ _ _ _ is v turn.gives.first
          (none_follow c.step.new.source) turn.steps;
    }

pub ended-requires : goal.ended-requires
ended-requires c = λ bad.
    let l = c.commands in
    let i = l.invariant in
    let is : c.step.result ≡ Ok (Some c.in-Ok-Some.ending) =
    c.in-Ok-Some.is ∙ ap Ok (c.in-Ok-Some.field-0-is ∙ ap Some c.in-Ok-Some.ending-is) in
    let turn = c.step.ensures.turn in
    let o = c.requires.opens in
    let u = advances (goal.at.ended-requires c).After-advance o.0 (i.came o.0 o.1) in
    let plan = step_plan c.run_laws.ensures c.args.player.now c.args.rules o.0 _ _
    (plan_choices l.plan) c.step.new.chooser _ _ turn.given _ _ _ _ _ u turn.gives.first
    (none_follow c.step.new.source) turn.steps (Some c.in-Ok-Some.ending) is in
    let opens : is_open (run_from c.args.player.now c.args.rules o.0 c.step.new.chooser.answers) ≡ true =
    rw (plan ∙ i.answers) o.2 in
    never_out c.run_laws.ensures c.args.player.now c.args.rules o.0 _ _ (plan_choices l.plan) c.step.new.chooser
    _ _ turn.given _ _ _ _ _ u turn.gives.first (none_follow c.step.new.source) turn.steps opens
    (is ∙ ap (λ e. Ok (Some e)) bad)

pub returns-in-Ok-Some-clause-plays : goal.returns-in-Ok-Some-clause-plays
returns-in-Ok-Some-clause-plays c = (
  c.step.new.chooser.given,
  λ S h.
      let l = c.commands in
      let i = l.invariant in
      let is : c.step.result ≡ Ok (Some c.in-Ok-Some.ending) =
      c.in-Ok-Some.is ∙ ap Ok (c.in-Ok-Some.field-0-is ∙ ap Some c.in-Ok-Some.ending-is) in
      let turn = c.step.ensures.turn in
      let v = advances (goal.at.returns-in-Ok-Some-clause-plays c).After-advance S (i.came S h) in
      let plan = step_plan c.run_laws.ensures c.args.player.now c.args.rules S _ _
      (plan_choices l.plan) c.step.new.chooser _ _ turn.given _ _ _ _ _ v turn.gives.first
      (none_follow c.step.new.source) turn.steps (Some c.in-Ok-Some.ending) is in
      let o = c.requires.opens in
      let u = advances (goal.at.returns-in-Ok-Some-clause-plays c).After-advance o.0 (i.came o.0 o.1) in
      let opens : is_open (run_from c.args.player.now c.args.rules o.0 c.step.new.chooser.answers) ≡ true =
      rw (plan ∙ i.answers) o.2 in
      let fits : FitsSigned w16 c.step.new.chooser.refused_bound = search rules in
      let x = step_plays c.run_laws.ensures c.args.player.now c.args.rules S _ _ (plan_choices l.plan)
      c.step.new.chooser
      _ _ turn.given _ _ _ _ _ v turn.gives.first (none_follow c.step.new.source) turn.steps
      c.in-Ok-Some.ending c.args.answers.now _ (plan ∙ i.answers)
      (λ bad. never_out c.run_laws.ensures c.args.player.now c.args.rules o.0 _ _
      (plan_choices l.plan) c.step.new.chooser _ _ turn.given _ _ _ _ _ u turn.gives.first
      (none_follow c.step.new.source) turn.steps opens (is ∙ ap (λ e. Ok (Some e)) bad))
      is (rw (to_z-of_z fits) at (rw c.refused_bound.ensures at c.ended.ensures)) in
      plays_by _ _ _ _ _ _ _ _ _ _ (ap (drop c.step.new.source.taken) (turn.gives.same_lines ∙ i.same_lines)) x,
)

pub returns-in-Ok-Some-clause-within : goal.returns-in-Ok-Some-clause-within
returns-in-Ok-Some-clause-within c =
    let i = c.commands.invariant in
    let turn = c.step.ensures.turn in
    rw (← i.same_lines) (taken_within c.commands.devices.source c.step.new.source turn.given turn.gives
    (rw i.same_lines i.within))

pub returns-then-is_used_up-clause-within : goal.returns-then-is_used_up-clause-within
returns-then-is_used_up-clause-within c =
    let i = c.commands.invariant in
    let turn = c.step.ensures.turn in
    rw (← i.same_lines) (taken_within c.commands.devices.source c.step.new.source turn.given turn.gives
    (rw i.same_lines i.within))

pub returns-then-is_used_up-clause-plays : goal.returns-then-is_used_up-clause-plays
returns-then-is_used_up-clause-plays c = (
  c.step.new.chooser.given,
  λ S h.
      let l = c.commands in
      let i = l.invariant in
      let is : c.step.result ≡ Ok None = c.in-Ok-None.is ∙ ap Ok c.in-Ok-None.field-0-is in
      let turn = c.step.ensures.turn in
      let v = advances (goal.at.returns-then-is_used_up-clause-plays c).After-advance S (i.came S h) in
      let plan = step_plan c.run_laws.ensures c.args.player.now c.args.rules S _ _ (plan_choices l.plan)
      c.step.new.chooser _ _ turn.given _ _ _ _ _ v turn.gives.first (none_follow c.step.new.source) turn.steps None
      is in
      let given : c.step.new.chooser.given ≡ length c.step.new.chooser.answers = search rules in
      came_by c.args.player.now c.args.rules S _ _ _ _ _ _
      (ap (λ n. take n c.step.new.chooser.answers) given ∙ whole c.step.new.chooser.answers ∙ plan ∙ i.answers)
      (ap (drop c.step.new.source.taken) (turn.gives.same_lines ∙ i.same_lines))
      (step_came c.run_laws.ensures c.args.player.now c.args.rules S _ _ (plan_choices l.plan)
      (plan_choices c.step.new.chooser) _ _ turn.given _ _ _ _ _ _ is v turn.gives.first
      (none_follow c.step.new.source) turn.steps),
)

pub memory_refusal-requires : goal.memory_refusal-requires
memory_refusal-requires c =
    let turn = c.step.ensures.turn in
    let o = c.requires.opens in
    let u = advances (goal.at.memory_refusal-requires c).After-advance o.0 (c.commands.invariant.came o.0 o.1) in
    let going : c.advance.new.machine.spent ≡ false = c.advance.ensures.spent ∙ c.commands.invariant.unspent in
    only_memory c.run_laws.ensures c.args.player.now c.args.rules o.0 _ _
    (plan_choices c.commands.plan) c.step.new.chooser _ _ turn.given _ _ _ _ _ u turn.gives.first
    (none_follow c.step.new.source) turn.steps (λ over. false≢true (sym going ∙ c.step.ensures.spent.0 over))
    c.in-Err.fault c.in-Err.is
