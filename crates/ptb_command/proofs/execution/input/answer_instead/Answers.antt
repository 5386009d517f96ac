-- This file answers what is left to prove of `answer_instead`.
use Rattle.std.proofs.Common.{◌≡◌, ◌∙◌, ℕ, List, Err, ℤ, ap, refl, subst, rules, to_z, of_z, w16}
use Rattle.std.specs.Fmt.{signed_decimal}
use Rattle.ptb_expr.specs.Evaluation.{WorkComes}
use Rattle.ptb_expr.specs.Value.{chosen}
use Rattle.ptb_command.specs.Devices.{refused_answers, with_choices}
use Rattle.ptb_command.specs.Act.{store}
use Rattle.ptb_command.specs.Actions.{goes_on}
use Rattle.ptb_command.specs.CommandIo.{io_devices, pending_trace}
use Rattle.ptb_command.specs.Traces.{trace, with_pending, RefinesPart}
use Rattle.ptb_command.proofs.Actions.{stops_unrefused}
use Rattle.ptb_command.proofs.Borrows.{devices_then}
use Rattle.ptb_command.proofs.InputItems.{chosen_value, chosen_stops, instead_value, instead_value_stops}
use Rattle.ptb_command.proofs.InputItems.{instead_digits_stops, instead_newline_stops}
use Rattle.ptb_command.proofs.InputItems.{instead_stored}
use Rattle.ptb_command.proofs.Assignments.{store_refines_part}
use Rattle.ptb_command.proofs.Stops.{comes_err}
use Rattle.ptb_command.proofs.execution.input.answer_instead.Goals as goal
use Rattle.ptb_command.proofs.execution.input.answer_instead.Goals.{After-as_bytes}

pub returns-in_err-value : goal.returns-in_err-value
returns-in_err-value g c = record {
  comes = λ given.
      let bound : to_z w16 (of_z w16 c.args.bound) ≡ c.args.bound = search rules in
      comes_err _ _ _ _ _ _ _ c.from_residual.ensures.1
      (instead_value_stops c.args.bound c.args.target _ _ _ _
      (chosen_stops (g.C.Chooser.refused c.answer_to.new.chooser) c.args.bound
      (g.C.Chooser.choices c.args.io.now.chooser.now) (g.C.Chooser.choices c.answer_to.new.chooser)
      (io_devices g.C.Chooser.choices g.S.Screen g.L.LineSource.most c.args.io.now given) c.args.io.now.fresh
      c.args.pending.now c.args.store.now c.requires.bound c.args.target c.in_err-value.field-0.0
      (subst (λ (z : ℤ). WorkComes (g.C.Chooser.refused c.answer_to.new.chooser) (chosen z)
      (g.C.Chooser.choices c.args.io.now.chooser.now) (g.C.Chooser.choices c.answer_to.new.chooser)
      (Err c.in_err-value.field-0.0)) bound c.in_err-value.ensures.value.gives)));
  same = record { chooser = refl; screen = refl; source = refl; rules = refl };
}

-- ---- there is an answer

-- its digits are shown
digits_are : (g : _) (c : After-as_bytes g) → c.as_bytes.result.now ≡ signed_decimal c.in_ok-value.value
digits_are g c =
    let same : to_z w16 (of_z w16 c.in_ok-value.value) ≡ c.in_ok-value.value = search rules in
    c.as_bytes.ensures.value ∙ c.format.ensures.text ∙ ap signed_decimal same

-- and it is the value that is stored instead of a line's
value_chosen : (g : _) (c : After-as_bytes g) (given : List (List ℕ))
    → RefinesPart
    (pending_trace g.C.Chooser.choices g.S.Screen g.L.LineSource.most c.args.io.now given c.args.store.now
    c.args.pending.now)
    (with_pending c.args.pending.now (trace (with_choices (g.C.Chooser.choices c.answer_to.new.chooser)
    (io_devices g.C.Chooser.choices g.S.Screen g.L.LineSource.most c.args.io.now given)) c.args.io.now.fresh
    c.args.store.now))
    (instead_value c.args.bound c.args.target) (goes_on c.in_ok-value.value)
value_chosen g c given =
    let bound : to_z w16 (of_z w16 c.args.bound) ≡ c.args.bound = search rules in
    chosen_value (g.C.Chooser.refused c.answer_to.new.chooser) c.args.bound
    (g.C.Chooser.choices c.args.io.now.chooser.now) (g.C.Chooser.choices c.answer_to.new.chooser)
    (io_devices g.C.Chooser.choices g.S.Screen g.L.LineSource.most c.args.io.now given) c.args.io.now.fresh
    c.args.pending.now c.args.store.now c.requires.bound c.args.target c.in_ok-value.value
    (rw bound at c.in_ok-value.ensures.value.gives)

pub returns-in_err-show : goal.returns-in_err-show
returns-in_err-show g c = record {
  comes = λ given.
      let shown = (goal.at.returns-in_err-show g c).After-as_bytes in
      let digits = digits_are g shown in
      let value = value_chosen g shown given in
      comes_err _ _ _ _ _ _ _ c.from_residual-in_err-show.ensures.1
      (instead_digits_stops c.args.bound c.args.target
      (refused_answers (g.C.Chooser.refused c.show.new.self.chooser.now)) _ c.in_ok-value.value _ refl _ value
      (stops_unrefused _ _ _ _ _ (rw digits at (c.in_err-show.ensures.comes given c.args.store.now))));
  same = devices_then (record { chooser = refl; screen = refl; source = refl; rules = refl }) c.show.ensures.same;
}

pub returns-in_err-show-2 : goal.returns-in_err-show-2
returns-in_err-show-2 g c = record {
  comes = λ given.
      let shown = (goal.at.returns-in_err-show-2 g c).After-as_bytes in
      let digits = digits_are g shown in
      let value = value_chosen g shown given in
      comes_err _ _ _ _ _ _ _ c.from_residual-in_err-show-2.ensures.1
      (instead_newline_stops c.args.bound c.args.target
      (refused_answers (g.C.Chooser.refused c.show-2.new.self.chooser.now)) _ c.in_ok-value.value _ refl _ value
      (rw digits at (c.in_ok-show.ensures.comes given c.args.store.now))
      (stops_unrefused _ _ _ _ _ (c.in_err-show-2.ensures.comes given c.args.store.now)));
  same = devices_then (devices_then (record { chooser = refl; screen = refl; source = refl; rules = refl })
      c.show.ensures.same) c.show-2.ensures.same;
}

pub returns : goal.returns
returns g c = record {
  comes = λ given.
      let same : to_z w16 (of_z w16 c.in_ok-value.value) ≡ c.in_ok-value.value = search rules in
      let shown = (goal.at.returns g c).After-as_bytes in
      let digits = digits_are g shown in
      let value = value_chosen g shown given in
      let d = io_devices g.C.Chooser.choices g.S.Screen g.L.LineSource.most c.show-2.new.self given in
      let n = with_pending c.show-2.new.pending (trace d c.show-2.new.self.fresh c.args.store.now) in
      instead_stored c.args.bound c.args.target c.in_ok-value.value _ refl value
      (rw digits at (c.in_ok-show.ensures.comes given c.args.store.now))
      (c.in_ok-show-2.ensures.comes given c.args.store.now)
      (subst (λ (z : ℤ). RefinesPart n (with_pending c.show-2.new.pending (trace d c.show-2.new.self.fresh
      c.store_value.new.store)) (store c.args.target z) (goes_on tt)) same
      (store_refines_part d c.show-2.new.self.fresh c.show-2.new.pending c.args.store.now c.store_value.new.store
      c.args.target _ c.store_value.ensures));
  same = devices_then (devices_then (record { chooser = refl; screen = refl; source = refl; rules = refl })
      c.show.ensures.same) c.show-2.ensures.same;
}

-- ---- what stays

pub store_value-requires : goal.store_value-requires
store_value-requires g c = c.requires.target
