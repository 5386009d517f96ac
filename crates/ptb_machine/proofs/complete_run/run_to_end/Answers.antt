-- This file answers what is left to prove of `run_to_end`.
use Rattle.std.proofs.Common.{[], arith, inl, refl, rules}
use Rattle.ptb_command.proofs.PublicLemmas.{not_missed}
use Rattle.ptb_machine.specs.RunDevices.{run_devices}
use Rattle.ptb_machine.specs.Runs.{IsRunToEnd}
use Rattle.ptb_machine.proofs.Ends.{end_broken}
use Rattle.ptb_machine.proofs.Results.{at_lent}
use Rattle.ptb_machine.proofs.complete_run.run_to_end.Goals as goal

pub returns-in_err-player : goal.returns-in_err-player
returns-in_err-player g c =
    let d = run_devices c.args.chooser.now c.args.screen.now c.args.source.now in
    end_broken g.C.Chooser g.S.Screen g.L.LineSource c.args.program.now c.args.rules d d _ _ c.from_residual.ensures.1
    (record {
      given = [];
      gives = g.met.L.LineSource.gives_none c.args.source.now;
      runs = λ choose range rest _. inl refl;
      missed = inl (not_missed _ _ _ _ (omega arith));
    })

pub returns : goal.returns
returns g c =
    at_lent (λ k o n. IsRunToEnd g.C.Chooser g.S.Screen g.L.LineSource c.args.program.now k o n c.play.result)
    c.args.rules c.new-io.result c.play.new.io
    c.new-io.ensures.rules c.new-io.ensures.chooser_now c.new-io.ensures.screen_now c.new-io.ensures.source_now
    (search rules) (search rules) (search rules) (rw c.in_ok-player.ensures.player at c.play.ensures.run)
