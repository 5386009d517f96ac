-- This file answers what is left to prove of `play`.
use Rattle.std.proofs.Common.{arith, refl, ap, ◌∙◌, Ok, Err}
use Rattle.ptb_command.proofs.PublicLemmas.{borrows_on}
use Rattle.ptb_machine.specs.RunDevices.{lent}
use Rattle.ptb_machine.proofs.Ends.{end_broken}
use Rattle.ptb_machine.proofs.RunStart.{fits_at_first}
use Rattle.ptb_machine.proofs.Runs.{not_spent}
use Rattle.ptb_machine.proofs.StepwiseRuns.{IsUnderway, underway_first, underway_advanced, underway_on}
use Rattle.ptb_machine.proofs.StepwiseRuns.{underway_falls, underway_broken, underway_ended}
use Rattle.ptb_machine.proofs.complete_run.play.Goals as goal
use Rattle.ptb_machine.proofs.complete_run.play.Goals.{After-advance}

pub steps-init : goal.steps-init
steps-init g c = (
  fits_at_first _ _ c.requires,
  c.requires.unspent,
  underway_first g.C.Chooser g.S.Screen g.L.LineSource c.args.io.now.rules _ c.args.player.now c.args.machine.now
      (g.met.L.LineSource.gives_none c.args.io.now.source.now)
      c.requires.represents,
  record { chooser = refl; screen = refl; source = refl; rules = refl },
)

pub advance-requires : goal.advance-requires
advance-requires g c = record { fits = c.steps.invariant.0 }

-- the run continues from where the machine is after it advanced
advanced : (g : _) (c : After-advance g)
    → IsUnderway g.C.Chooser g.S.Screen g.L.LineSource c.args.player.now c.args.io.now.rules c.advance.new.machine
    (lent c.args.io.now) (lent c.steps.io)
advanced g c =
    let turns = rw c.steps.invariant.3.rules at c.advance.ensures.turns in
    underway_advanced g.C.Chooser g.S.Screen g.L.LineSource c.args.io.now.rules _ c.args.player.now turns.0
    c.steps.machine c.advance.new.machine _ c.steps.invariant.2 turns.1.1

pub step_on-requires : goal.step_on-requires
step_on-requires g c = record { fits = c.advance.ensures.fits }

pub returns-in_err-ending-clause-same : goal.returns-in_err-ending-clause-same
returns-in_err-ending-clause-same g c = borrows_on c.steps.invariant.3 c.in_err-ending.ensures.same

pub returns-in_err-ending-clause-run : goal.returns-in_err-ending-clause-run
returns-in_err-ending-clause-run g c =
    let u = advanced g (goal.at.returns-in_err-ending-clause-run g c).After-advance in
    let step = rw c.steps.invariant.3.rules at c.in_err-ending.ensures.step in
    end_broken g.C.Chooser g.S.Screen g.L.LineSource c.args.player.now c.args.io.now.rules _ _ _
    c.in_err-ending.field-0.0 c.from_residual.ensures.1
    (underway_broken g.C.Chooser g.S.Screen g.L.LineSource c.args.io.now.rules _ c.args.player.now _ _ _ _ u _
    step.turn (g.met.L.LineSource.gives_more _ _ _ _ _ u.gives step.turn.gives)
    (g.met.L.LineSource.falls _ _ _ step.turn.gives) _ refl
    (not_spent _ _ (c.advance.ensures.spent ∙ c.steps.invariant.1) (λ k. step.spent.0 (ap Err k))))

pub end-requires : goal.end-requires
end-requires g c = record { fits = c.in_ok-ending.ensures.step.fits }

pub returns-in-Some-clause-same : goal.returns-in-Some-clause-same
returns-in-Some-clause-same g c = borrows_on c.steps.invariant.3 c.in_ok-ending.ensures.same

pub returns-in-Some-clause-run : goal.returns-in-Some-clause-run
returns-in-Some-clause-run g c =
    let u = advanced g (goal.at.returns-in-Some-clause-run g c).After-advance in
    let turn = (rw c.steps.invariant.3.rules at c.in_ok-ending.ensures.step).turn in
    underway_ended g.C.Chooser g.S.Screen g.L.LineSource c.args.io.now.rules _ c.args.player.now _ _ _ _ u _ turn
    (g.met.L.LineSource.gives_more _ _ _ _ _ u.gives turn.gives) (g.met.L.LineSource.falls _ _ _ turn.gives)
    c.end.result c.in-Some.ending c.end.ensures.ending (ap Ok c.in-Some.is) c.end.ensures.limit c.end.ensures.other

pub steps-smaller : goal.steps-smaller
steps-smaller g c =
    let turns = c.advance.ensures.turns in
    let u = advanced g (goal.at.steps-smaller g c).After-advance in
    let turn = (rw c.steps.invariant.3.rules at c.in_ok-ending.ensures.step).turn in
    let falls = underway_falls g.C.Chooser g.S.Screen g.L.LineSource c.args.io.now.rules _ c.args.player.now _ _ _ _ u
    _ turn (g.met.L.LineSource.gives_more _ _ _ _ _ u.gives turn.gives) (g.met.L.LineSource.falls _ _ _ turn.gives)
    (ap Ok c.in_default.is) in
    omega (arith, falls, turns.1.0)

pub steps-preserved : goal.steps-preserved
steps-preserved g c =
    let u = advanced g (goal.at.steps-preserved g c).After-advance in
    let step = c.in_ok-ending.ensures in
    let turn = (rw c.steps.invariant.3.rules at step.step).turn in (
      step.step.fits,
      step.step.spends.0 (ap Ok c.in_default.is),
      underway_on g.C.Chooser g.S.Screen g.L.LineSource c.args.io.now.rules _ c.args.player.now _ _ _ _ u _ turn
          (g.met.L.LineSource.gives_more _ _ _ _ _ u.gives turn.gives) (g.met.L.LineSource.falls _ _ _ turn.gives)
          (ap Ok c.in_default.is),
      borrows_on c.steps.invariant.3 step.same,
    )
