-- This file answers that a machine at the beginning of a run fits the program.
use Rattle.ptb_machine.proofs.PublicLemmas.{fits_at_first}
use Rattle.ptb_machine_tests.proofs.tests.players.refused_players.Goals as goal

pub advance-requires : goal.advance-requires
advance-requires g c = record { fits = fits_at_first _ _ c.in-Ok-machine.ensures }
