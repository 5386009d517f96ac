-- This file answers that a run without the line of its end is one.
use Rattle.ptb_machine.specs.RunDevices.{run_devices}
use Rattle.ptb_machine.proofs.Ends.{run_broken}
use Rattle.ptb_machine.proofs.complete_run.run.Goals as goal

pub returns-in_err-end : goal.returns-in_err-end
returns-in_err-end g c =
    run_broken g.C.Chooser g.S.Screen g.L.LineSource c.args.program.now c.args.rules
    (run_devices c.args.chooser.now c.args.screen.now c.args.source.now)
    (run_devices c.run_to_end.new.chooser c.run_to_end.new.screen c.run_to_end.new.source) _ _ c.from_residual.ensures.1
    c.in_err-end.ensures

pub returns : goal.returns
returns g c = c.in_ok-end.ensures.run
