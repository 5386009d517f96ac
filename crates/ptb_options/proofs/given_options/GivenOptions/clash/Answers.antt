-- This file answers that the fault is that of the first row that holds.
use Rattle.std.proofs.Common.{◌∙◌, ap}
use Rattle.ptb_options.specs.Options.{first_fault}
use Rattle.ptb_options.proofs.given_options.GivenOptions.clash.Goals as goal

pub returns : goal.returns
returns c = c.first_fault.ensures ∙ ap first_fault c.clashes.ensures
