-- This file answers what is left to prove of `CommandIo::show`.
use Rattle.ptb_command.specs.CommandIo.{io_devices}
use Rattle.ptb_command.proofs.command_io.CommandIo.show.Goals as goal

pub returns-clause-comes : goal.returns-clause-comes
returns-clause-comes g c given cells =
    c.show-result.ensures.comes (io_devices g.C.Chooser.choices g.S.Screen g.L.LineSource.most c.args.self.now
    given) cells
