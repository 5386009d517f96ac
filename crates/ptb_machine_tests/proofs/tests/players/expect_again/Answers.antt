-- This file answers that a machine that was put back fits the program.
use Rattle.std.proofs.Common.{rules}
use Rattle.ptb_machine.specs.RunStart.{IsAtFirst}
use Rattle.ptb_machine.proofs.PublicLemmas.{fits_at_first}
use Rattle.ptb_machine_tests.proofs.tests.players.expect_again.Goals as goal

pub expect_rows-requires : goal.expect_rows-requires
expect_rows-requires g c =
    let first : IsAtFirst c.args.player.now c.restart.new.machine = search rules in fits_at_first _ _ first
