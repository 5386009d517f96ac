-- This file answers what is left to prove of `width_of`.
use Rattle.std.proofs.Common.{◌≡◌, ◌∙◌, ap, rules, sym, to_z, of_z, w16}
use Rattle.ptb_command.specs.Act.{width_of}
use Rattle.ptb_command.proofs.Actions.{known_value, known_fault, stops_fault}
use Rattle.ptb_command.proofs.ShownBytes.{wide_enough, too_wide}
use Rattle.ptb_command.proofs.execution.width.width_of.Goals as goal

pub returns-in-Ok : goal.returns-in-Ok
returns-in-Ok c o =
    let v : to_z w16 (of_z w16 c.args.value) ≡ c.args.value = search rules in
    known_value o _ c.args.mark c.in-Ok.width
    (ap width_of (sym v) ∙ wide_enough _ _ c.in-Ok.ensures.0 c.in-Ok.ensures.1)

pub returns-in-Err : goal.returns-in-Err
returns-in-Err c o =
    let v : to_z w16 (of_z w16 c.args.value) ≡ c.args.value = search rules in
    stops_fault _ o o _ _ _ c.fault.ensures
    (known_fault o _ c.args.mark _ (ap width_of (sym v) ∙ too_wide _ c.in-Err.ensures))
