-- This file answers what is left to prove of `show_expression`.
use Rattle.std.proofs.Common.{◌≡◌, refl, rules, to_z, of_z, w16}
use Rattle.ptb_command.specs.Commands.{Show}
use Rattle.ptb_command.specs.CommandIo.{io_devices}
use Rattle.ptb_command.proofs.Borrows.{devices_then}
use Rattle.ptb_command.proofs.PartResults.{show_comes}
use Rattle.ptb_command.proofs.Parts.{show_value_stops}
use Rattle.ptb_command.proofs.ShownParts.{ok_never}
use Rattle.ptb_command.proofs.Stops.{comes_err}
use Rattle.ptb_command.proofs.execution.print.show_expression.Goals as goal

pub returns-in_err-value : goal.returns-in_err-value
returns-in_err-value g c = record {
  comes = λ given x rest operands at.
      comes_err _ _ _ _ _ _ _ c.from_residual.ensures.1
      (show_value_stops rest c.args.output.now.width operands _ _ _ x _
      (c.in_err-value.ensures.comes x (io_devices g.C.Chooser.choices g.S.Screen g.L.LineSource.most c.args.io.now
      given) c.args.io.now.fresh c.args.output.now.pending at));
  valued = λ x at none. ok_never _ _ _ c.from_residual.ensures.1;
  same = record { chooser = refl; screen = refl; source = refl; rules = refl };
}

pub returns : goal.returns
returns g c = record {
  comes = λ given x rest operands at.
      let same : to_z w16 (of_z w16 c.in_ok-value.value) ≡ c.in_ok-value.value = search rules in
      show_comes _ _ _ rest c.args.output.now.width operands (Show x) _ x c.in_ok-value.value _ refl same
      (c.in_ok-value.ensures.comes x (io_devices g.C.Chooser.choices g.S.Screen g.L.LineSource.most c.args.io.now given)
      c.args.io.now.fresh c.args.output.now.pending at)
      c.show_value.result (c.show_value.ensures.comes given c.args.store.now);
  valued = λ x at none k. c.in_ok-value.ensures.valued x at none refl;
  same = devices_then (record { chooser = refl; screen = refl; source = refl; rules = refl }) c.show_value.ensures.same;
}
