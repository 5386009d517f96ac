-- This file answers what is left to prove of `fits_prints`.
use Rattle.ptb_machine_tests.proofs.SamePlaces.{fits_prints}
use Rattle.ptb_machine_tests.proofs.tests.machines.fits_prints.Goals as goal

pub returns : goal.returns
returns c = fits_prints c.args.counts.now c.args.prints.now c.args.machine.now c.requires.counts c.requires.prints
    c.requires.fits
