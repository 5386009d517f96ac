-- This file answers what is left to prove of `new_width`.
use Rattle.std.proofs.Common.{◌≡◌, refl, rules, to_z, of_z, w16}
use Rattle.ptb_command.specs.Devices.{with_choices}
use Rattle.ptb_command.specs.Traces.{trace, with_pending}
use Rattle.ptb_command.proofs.Parts.{width_value_stops}
use Rattle.ptb_command.proofs.ShownParts.{ok_never, width_comes}
use Rattle.ptb_command.proofs.Stops.{comes_err}
use Rattle.ptb_command.proofs.execution.width.new_width.Goals as goal

pub returns-in_err-value : goal.returns-in_err-value
returns-in_err-value g c = record {
  comes = λ d fresh pending x rest w operands at.
      comes_err _ _ _ _ _ _ _ c.from_residual.ensures.1
      (width_value_stops rest w operands _ _ _ x c.args.mark _ (c.in_err-value.ensures.comes x d fresh pending at));
  valued = λ x at none. ok_never _ _ _ c.from_residual.ensures.1;
}

pub returns : goal.returns
returns g c = record {
  comes = λ d fresh pending x rest w operands at.
      let same : to_z w16 (of_z w16 c.in_ok-value.value) ≡ c.in_ok-value.value = search rules in
      let n = with_pending pending
      (trace (with_choices (g.C.Chooser.choices c.long_value.new.chooser) d) fresh c.args.store.now) in
      width_comes _ _ n rest w operands n x c.args.mark c.in_ok-value.value _ same
      (c.in_ok-value.ensures.comes x d fresh pending at)
      c.width_of.result (rw c.from.ensures at (c.width_of.ensures n));
  valued = λ x at none k. c.in_ok-value.ensures.valued x at none refl;
}
