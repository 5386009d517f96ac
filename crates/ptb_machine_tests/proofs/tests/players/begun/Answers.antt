-- This file answers that a machine at the beginning of a run fits the program.
use Rattle.std.proofs.Common.{rules}
use Rattle.ptb_machine.specs.RunStart.{IsAtFirst}
use Rattle.ptb_machine.proofs.PublicLemmas.{fits_at_first}
use Rattle.ptb_machine_tests.proofs.tests.players.begun.Goals as goal

pub returns : goal.returns
returns g c = let first : IsAtFirst c.args.player.now c.expect.result = search rules in fits_at_first _ _ first
