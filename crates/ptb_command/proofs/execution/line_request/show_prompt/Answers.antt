-- This file answers what is left to prove of `show_prompt`.
use Rattle.std.proofs.Common.{◌∷◌, []}
use Rattle.ptb_command.specs.Devices.{nothing_refused}
use Rattle.ptb_command.proofs.Borrows.{devices_then}
use Rattle.ptb_command.proofs.Pieces.{first_stops, second_comes}
use Rattle.ptb_command.proofs.Stops.{comes_err}
use Rattle.ptb_command.proofs.execution.line_request.show_prompt.Goals as goal

pub returns-in_err-show : goal.returns-in_err-show
returns-in_err-show g c = record {
  comes = λ given cells.
      comes_err _ _ _ _ _ _ _ c.from_residual.ensures.1
      (first_stops c.args.name.now (58 ∷ []) nothing_refused _ _ _ (c.in_err-show.ensures.comes given cells));
  same = c.show.ensures.same;
}

pub returns : goal.returns
returns g c = record {
  comes = λ given cells. second_comes c.args.name.now (58 ∷ []) nothing_refused _
      (c.in_ok-show.ensures.comes given cells) c.show-2.result (c.show-2.ensures.comes given cells);
  same = devices_then c.show.ensures.same c.show-2.ensures.same;
}
