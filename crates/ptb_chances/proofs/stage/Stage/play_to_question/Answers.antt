-- This file answers that a run continues command by command.
use Rattle.std.proofs.Common.{◌≡◌, List, ℕ, [], rules, refl, sym, ap, subst, ◌∙◌, arith, drop}
use Rattle.ptb_chances.specs.StagePlays.{SameEnd}
use Rattle.ptb_chances.specs.declared.plays.PlayDevices.{PlayDevices}
use Rattle.ptb_chances.proofs.PlaySteps.{came_first, fits_there}
use Rattle.ptb_chances.proofs.Continuations.{HasAdvanced, gone, gone_on, gone_opens, gone_over, gone_waits}
use Rattle.ptb_chances.proofs.Continuations.{turns_named}
use Rattle.ptb_chances.proofs.stage.Stage.play_to_question.Goals as goal
use Rattle.ptb_chances.proofs.stage.Stage.play_to_question.Goals.{After-advance}

pub commands-init : goal.commands-init
commands-init c = record {
  player = refl;
  rules = refl;
  same_lines = refl;
  within = c.requires.within;
  unspent = c.requires.unspent;
  steps = omega arith;
  came = λ S h. came_first _ _ S [] _ _ _ refl h;
}

pub advance-requires : goal.advance-requires
advance-requires c =
    let i = c.commands.invariant in
    let o = c.requires.opens in
    rw i.player (record { fits = fits_there _ _ o.0 [] _ _ _ (i.came o.0 o.1) })

-- the commands that ask nothing were done
has_advanced : (c : After-advance)
    → HasAdvanced c.args.self.now.player c.advance.new.self.player c.args.self.now.rules c.advance.new.self.rules
    c.commands.self.machine c.advance.new.self.machine
    (drop c.commands.self.devices.source.taken c.args.self.now.devices.source.lines)
    (drop c.advance.new.self.devices.source.taken c.advance.new.self.devices.source.lines)
    c.commands.self.devices.screen c.advance.new.self.devices.screen
has_advanced c =
    let l = c.commands in
    let i = l.invariant in
    let e = c.advance.ensures in
    record {
      program = e.player ∙ i.player;
      by = e.rules ∙ i.rules;
      lines_are = ap (λ (k : PlayDevices). drop k.source.taken k.source.lines) e.devices
          ∙ ap (drop l.self.devices.source.taken) i.same_lines;
      text_is = ap (λ (k : PlayDevices). k.screen) e.devices;
      count = e.turns.0;
      turns = turns_named _ _ _ _ _ _ _ (sym e.player) (sym e.rules) e.turns.1.1;
    }

pub play_plan-requires-clause-opens : goal.play_plan-requires-clause-opens
play_plan-requires-clause-opens c =
    let o = c.requires.opens in
    let a = has_advanced (goal.at.play_plan-requires-clause-opens c).After-advance in
    let came = c.commands.invariant.came o.0 o.1 in
    let x = gone c.run_laws.ensures _ _ _ _ o.0 _ _ _ _ _ _ a came in (
      x.state,
      x.stands,
      gone_opens c.run_laws.ensures _ _ _ _ o.0 _ _ _ _ _ _ a came [] refl o.2,
    )

pub commands-preserved : goal.commands-preserved
commands-preserved c =
    let i = c.commands.invariant in
    let e = c.advance.ensures in
    let a = has_advanced (goal.at.commands-preserved c).After-advance in
    let same_lines = ap (λ (k : PlayDevices). k.source.lines) e.devices ∙ i.same_lines in
    let plays = (rw c.in-Goes.is at c.in_ok-ending.ensures.plays).1 in
    let goes = c.in_ok-ending.ensures.goes c.in-Goes.is in
    record {
      player = a.program;
      rules = a.by;
      same_lines = c.play_plan.ensures.same_lines ∙ same_lines;
      within = rw same_lines at c.in_ok-ending.ensures.within;
      unspent = goes.0;
      steps = omega (arith, rw a.by at goes.1, e.turns.1.0, i.steps);
      came = λ S h. gone_on c.run_laws.ensures _ _ _ _ S _ _ _ _ _ _ a (i.came S h) []
          _ _ _ _ refl (ap (drop c.play_plan.new.devices.source.taken) same_lines) plays;
    }

pub returns-in-Over-clause-goes : goal.returns-in-Over-clause-goes
returns-in-Over-clause-goes c = λ S h.
    let a = has_advanced (goal.at.returns-in-Over-clause-goes c).After-advance in
    gone_over c.run_laws.ensures _ _ _ _ S _ _ _ _ _ _ a (c.commands.invariant.came S h) []
    _ _ _ refl (rw c.in-Over.is at c.in_ok-ending.ensures.plays).1

pub returns-in-Asks-clause-goes : goal.returns-in-Asks-clause-goes
returns-in-Asks-clause-goes c = λ S h.
    let noted = c.in_ok-advance.ensures in
    let a = has_advanced (goal.at.returns-in-Asks-clause-goes c).After-advance in
    let rest = a.lines_are ∙ ap (λ n. drop n c.args.self.now.devices.source.lines) (sym noted.taken) in
    let end = subst (λ (s : List ℕ). SameEnd s c.advance.new.self.before.shown.items) (sym a.text_is) noted.shown in
    gone_waits c.run_laws.ensures _ _ _ _ S _ _ _ _ _ _ a (c.commands.invariant.came S h) _ _ _ noted.machine rest end

pub returns-in_err-advance-clause-player : goal.returns-in_err-advance-clause-player
returns-in_err-advance-clause-player c = search rules fits 50 depth 2

pub returns-in_err-advance-clause-rules : goal.returns-in_err-advance-clause-rules
returns-in_err-advance-clause-rules c = search rules fits 50 depth 2

pub returns-in_err-advance-clause-same_lines : goal.returns-in_err-advance-clause-same_lines
returns-in_err-advance-clause-same_lines c = search rules fits 50 depth 2

pub returns-in_err-advance-clause-goes : goal.returns-in_err-advance-clause-goes
returns-in_err-advance-clause-goes c = search rules fits 50 depth 2

pub returns-in_err-advance-clause-waits : goal.returns-in_err-advance-clause-waits
returns-in_err-advance-clause-waits c = search rules fits 50 depth 2

pub play_plan-requires-clause-unspent : goal.play_plan-requires-clause-unspent
play_plan-requires-clause-unspent c = search rules fits 50 depth 2

pub play_plan-requires-clause-within : goal.play_plan-requires-clause-within
play_plan-requires-clause-within c = search rules fits 50 depth 2

pub returns-in_err-ending-clause-player : goal.returns-in_err-ending-clause-player
returns-in_err-ending-clause-player c = search rules fits 50 depth 2

pub returns-in_err-ending-clause-rules : goal.returns-in_err-ending-clause-rules
returns-in_err-ending-clause-rules c = search rules fits 50 depth 2

pub returns-in_err-ending-clause-same_lines : goal.returns-in_err-ending-clause-same_lines
returns-in_err-ending-clause-same_lines c = search rules fits 50 depth 2

pub returns-in_err-ending-clause-goes : goal.returns-in_err-ending-clause-goes
returns-in_err-ending-clause-goes c = search rules fits 50 depth 2

pub returns-in_err-ending-clause-waits : goal.returns-in_err-ending-clause-waits
returns-in_err-ending-clause-waits c = search rules fits 50 depth 2

pub returns-in-Over-clause-player : goal.returns-in-Over-clause-player
returns-in-Over-clause-player c = search rules fits 50 depth 2

pub returns-in-Over-clause-rules : goal.returns-in-Over-clause-rules
returns-in-Over-clause-rules c = search rules fits 50 depth 2

pub returns-in-Over-clause-same_lines : goal.returns-in-Over-clause-same_lines
returns-in-Over-clause-same_lines c = search rules fits 50 depth 2

pub returns-in-Over-clause-waits : goal.returns-in-Over-clause-waits
returns-in-Over-clause-waits c = search rules fits 50 depth 2

pub returns-in-Asks-clause-player : goal.returns-in-Asks-clause-player
returns-in-Asks-clause-player c = search rules fits 50 depth 2

pub returns-in-Asks-clause-rules : goal.returns-in-Asks-clause-rules
returns-in-Asks-clause-rules c = search rules fits 50 depth 2

pub returns-in-Asks-clause-same_lines : goal.returns-in-Asks-clause-same_lines
returns-in-Asks-clause-same_lines c = search rules fits 50 depth 2

pub returns-in-Asks-clause-waits : goal.returns-in-Asks-clause-waits
returns-in-Asks-clause-waits c = search rules fits 50 depth 2

pub commands-smaller : goal.commands-smaller
commands-smaller c = search rules fits 50 depth 2
