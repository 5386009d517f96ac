-- This file answers what is left to prove of `store_answer`.
use Rattle.std.proofs.Common.{◌≡◌, Ok, Err, ap, refl, rules, subst, to_z, of_z, w16}
use Rattle.ptb_text.specs.CursorState.{CursorState}
use Rattle.ptb_expr.specs.Evaluation.{WorkComes, expression_value}
use Rattle.ptb_command.specs.Devices.{with_choices}
use Rattle.ptb_command.specs.Traces.{trace}
use Rattle.ptb_command.proofs.Assignments.{store_refines_part}
use Rattle.ptb_command.proofs.GatheredBytes.{gathered}
use Rattle.ptb_command.proofs.InputItems.{line_values, line_faults, line_pauses}
use Rattle.ptb_command.proofs.InputItems.{line_worth_stops, line_stored, line_again}
use Rattle.ptb_command.proofs.execution.input.store_answer.Goals as goal

-- ---- it has a value

pub returns-in-Ok-clause-comes : goal.returns-in-Ok-clause-comes
returns-in-Ok-clause-comes g c d fresh said x prompt =
    let same : to_z w16 (of_z w16 c.in-Ok.value) ≡ c.in-Ok.value = search rules in
    let o = trace (with_choices (g.C.Chooser.choices c.args.chooser.now) d) fresh c.args.store.now in
    line_stored said x prompt c.args.target c.args.line.now c.in-Ok.value _
    (Ok (to_z w16 (of_z w16 c.in-Ok.value))) same (ap Ok same)
    (gathered o _ _ _ c.append.ensures) (gathered o _ _ _ c.append_many.ensures)
    (line_values (g.C.Chooser.refused c.evaluate.new.chooser) c.args.line.now _ _ d fresh c.append_many.new.self _
    c.in-Ok.value _ same
    (subst (λ (s : CursorState). WorkComes (g.C.Chooser.refused c.evaluate.new.chooser)
    (expression_value c.args.store.now s) (g.C.Chooser.choices c.args.chooser.now)
    (g.C.Chooser.choices c.evaluate.new.chooser) (Ok c.in-Ok.value))
    c.new-cursor.ensures c.in-Ok.ensures.value.gives))
    (store_refines_part _ _ _ _ _ _ _ c.store_value.ensures)

-- ---- its expression has a fault

pub returns-in-Err-Fault-clause-comes : goal.returns-in-Err-Fault-clause-comes
returns-in-Err-Fault-clause-comes g c d fresh said x prompt =
    let o = trace (with_choices (g.C.Chooser.choices c.args.chooser.now) d) fresh c.args.store.now in
    line_again said x prompt c.args.target c.args.line.now c.in-Err-Fault.fault _ (Err c.in-Err-Fault.fault)
    (rw c.in-Err-Fault.field-0-is at c.fault_line.ensures) refl
    (gathered o _ _ _ c.append.ensures) (gathered o _ _ _ c.append_many.ensures)
    (line_faults (g.C.Chooser.refused c.evaluate.new.chooser) c.args.line.now _ _ d fresh c.append_many.new.self _
    c.in-Err-Fault.field-0 _ c.in-Err-Fault.field-0-is
    (subst (λ (s : CursorState). WorkComes (g.C.Chooser.refused c.evaluate.new.chooser)
    (expression_value c.args.store.now s) (g.C.Chooser.choices c.args.chooser.now)
    (g.C.Chooser.choices c.evaluate.new.chooser) (Err c.in-Err-Fault.field-0))
    c.new-cursor.ensures c.in-Err-Fault.ensures.value.gives))
    (gathered (trace (with_choices (g.C.Chooser.choices c.evaluate.new.chooser) d) fresh c.args.store.now) _ _ _
    c.append_many-in-Err-Fault.ensures)

-- ---- its expression has no value yet

pub returns-in-Err-Pause-clause-comes : goal.returns-in-Err-Pause-clause-comes
returns-in-Err-Pause-clause-comes g c d fresh said x prompt =
    let o = trace (with_choices (g.C.Chooser.choices c.args.chooser.now) d) fresh c.args.store.now in
    line_worth_stops said x prompt _ _ c.args.target c.args.line.now _
    (gathered o _ _ _ c.append.ensures) (gathered o _ _ _ c.append_many.ensures)
    (line_pauses (g.C.Chooser.refused c.evaluate.new.chooser) c.args.line.now _ _ d fresh c.append_many.new.self _
    c.in-Err-Pause.field-0 _ c.in-Err-Pause.field-0-is
    (subst (λ (s : CursorState). WorkComes (g.C.Chooser.refused c.evaluate.new.chooser)
    (expression_value c.args.store.now s) (g.C.Chooser.choices c.args.chooser.now)
    (g.C.Chooser.choices c.evaluate.new.chooser) (Err c.in-Err-Pause.field-0))
    c.new-cursor.ensures c.in-Err-Pause.ensures.value.gives) _ (rw c.in-Err-Pause.field-0-is at c.from.ensures))
