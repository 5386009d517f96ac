-- This file answers the goals of the step that NEXT adds.
use Rattle.std.proofs.Common.{◌≡◌, ◌∙◌, arith, refl, rules, sym, ◌+ℤ◌, ℤ, to_z, of_z, w16, w32}
use Rattle.std.proofs.lemmas.Int.{ints}
use Rattle.ptb_command.specs.Loops.{loop_of_open}
use Rattle.ptb_command.specs.State.{Place}
use Rattle.ptb_command.proofs.Loops.{sum_bounds, turn_added, last_added}
use Rattle.ptb_command.proofs.execution.loop_turns.add_step.Goals as goal

some_place : Place
some_place = record { number = 0; index = 0 }

pub returns-then-is_past : goal.returns-then-is_past
returns-then-is_past c back =
    let item = c.args.item.now in
    let v = c.get.result in
    let step : to_z w16 (of_z w16 item.step) ≡ item.step = search rules in
    let limit : to_z w16 (of_z w16 item.limit) ≡ item.limit = search rules in
    let value : to_z w16 (of_z w16 v) ≡ v = search rules in
    let x : ℤ = to_z w32 (of_z w32 (to_z w32 (of_z w32 c.from.result) +ℤ to_z w32 (of_z w32 c.from-2.result))) in
    last_added (loop_of_open back item) c.args.store.now c.set_last_value.new.store v x
    (c.set_last_value.ensures back item refl (sym (rw limit at (rw step at (c.is_past.ensures item.letter back)))
    ∙ c.if-is_past.true))
    (omega (arith, ints, step, value, c.from.ensures, c.from-2.ensures)) c.get.ensures

pub overflow_cast-sum : goal.overflow_cast-sum
overflow_cast-sum c =
    let item = c.args.item.now in
    let v = c.get.result in
    let step : to_z w16 (of_z w16 item.step) ≡ item.step = search rules in
    let limit : to_z w16 (of_z w16 item.limit) ≡ item.limit = search rules in
    let value : to_z w16 (of_z w16 v) ≡ v = search rules in
    let bounds = sum_bounds (loop_of_open some_place item) v _ _
    (rw limit at (rw step at (c.is_past.ensures item.letter some_place))) c.if-is_past.false
    (omega (arith, ints, step, value, c.from.ensures, c.from-2.ensures)) value step limit in
    omega (arith, ints, bounds.0, bounds.1)

pub returns : goal.returns
returns c back =
    let item = c.args.item.now in
    let v = c.get.result in
    let step : to_z w16 (of_z w16 item.step) ≡ item.step = search rules in
    let limit : to_z w16 (of_z w16 item.limit) ≡ item.limit = search rules in
    let value : to_z w16 (of_z w16 v) ≡ v = search rules in
    turn_added (loop_of_open back item) v _ _ (rw limit at (rw step at (c.is_past.ensures item.letter back)))
    c.if-is_past.false (omega (arith, ints, step, value, c.from.ensures, c.from-2.ensures)) value step limit
    c.args.store.now c.set.new.self _ c.set.ensures (λ bounds. omega (arith, ints, bounds.0, bounds.1)) c.get.ensures
