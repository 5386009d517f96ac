-- This file answers what is left to prove of an IF that is done by its short form.
use Rattle.std.proofs.Common.{◌≡◌, [], rules, subst, sym, to_z, of_z, w16}
use Rattle.ptb_expr.specs.declared.short_value.ShortValue.{ShortValue}
use Rattle.ptb_expr.specs.declared.short_value.ShortValue.TheVariants as values
use Rattle.ptb_answers.specs.Outcome.{success}
use Rattle.ptb_expr.specs.ShortValues.{IsShortOf}
use Rattle.ptb_expr.specs.TreeSteps.{steps_value}
use Rattle.ptb_machine.specs.declared.short_forms.short_command.ShortCommand.TheVariants as commands
use Rattle.ptb_command.specs.Code.{steps_at}
use Rattle.ptb_machine.specs.ProgramCode.{code_from}
use Rattle.ptb_machine.specs.ShortForms.{place_by}
use Rattle.ptb_machine.proofs.Positions.{form_of, found_reaches}
use Rattle.ptb_machine.proofs.program_code.ProgramCode.do_if.Goals as goal

pub returns-in_ok-value-in-IfLessEqual-clause-done : goal.returns-in_ok-value-in-IfLessEqual-clause-done
returns-in_ok-value-in-IfLessEqual-clause-done c p code there =
    let e = c.args.entry.now in
    let table = c.args.self.now in
    let arm = c.in-IfLessEqual in
    let r = c.args.registers.now in
    let steps = steps_at (code_from table e).steps e.expression in
    let same : to_z w16 (of_z w16 arm.right) ≡ arm.right = search rules in
    let value = c.in_ok-value-in-IfLessEqual.value in
    let own : to_z w16 (of_z w16 value) ≡ value = search rules in
    let form = form_of p table code c.args.position.now.index e there
    (commands.IfLessEqual arm.left arm.right arm.other) arm.is in
    found_reaches p table code e r r (place_by e c.holds-holds-in-IfLessEqual.result) _
    (c.follow_condition-in-IfLessEqual.ensures there form.1.next)
    (c.holds-holds-in-IfLessEqual.ensures.done p table.commands e (code_from table e) arm.other r form.1
    (subst (λ v. steps_value c.args.registers.now.store steps [] ≡ success v) (sym own)
    (c.in_ok-value-in-IfLessEqual.ensures steps
    (subst (λ v. IsShortOf (values.LessEqual arm.left v) steps) (sym same)
    (subst (λ (f : ShortValue). IsShortOf f steps) form.0 form.1.value)))))

pub returns-in_ok-value-in-If-clause-done : goal.returns-in_ok-value-in-If-clause-done
returns-in_ok-value-in-If-clause-done c p code there =
    let e = c.args.entry.now in
    let table = c.args.self.now in
    let arm = c.in-If in
    let r = c.args.registers.now in
    let steps = steps_at (code_from table e).steps e.expression in
    let value = c.in_ok-value-in-If.value in
    let own : to_z w16 (of_z w16 value) ≡ value = search rules in
    let form = form_of p table code c.args.position.now.index e there (commands.If arm.other) arm.is in
    found_reaches p table code e r r (place_by e c.holds-holds.result) _ (c.follow_condition.ensures there form.next)
    (c.holds-holds.ensures.done p table.commands e (code_from table e) arm.other r form
    (subst (λ v. steps_value c.args.registers.now.store steps [] ≡ success v) (sym own)
    (c.in_ok-value-in-If.ensures steps form.value)))

pub returns-in_ok-value-in-IfLong-clause-done : goal.returns-in_ok-value-in-IfLong-clause-done
returns-in_ok-value-in-IfLong-clause-done c p code there =
    let e = c.args.entry.now in
    let table = c.args.self.now in
    let arm = c.in-IfLong in
    let r = c.args.registers.now in
    let steps = steps_at (code_from table e).steps e.expression in
    let value = c.in_ok-value-in-IfLong.value in
    let own : to_z w16 (of_z w16 value) ≡ value = search rules in
    let form = form_of p table code c.args.position.now.index e there (commands.IfLong arm.other) arm.is in
    found_reaches p table code e r r (place_by e c.holds-holds-in-IfLong.result) _
    (c.follow_condition-in-IfLong.ensures there form.next)
    (c.holds-holds-in-IfLong.ensures.done p table.commands e (code_from table e) arm.other r form
    (subst (λ v. steps_value c.args.registers.now.store steps [] ≡ success v)
    (sym own) c.in_ok-value-in-IfLong.ensures))
