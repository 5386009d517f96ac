-- This file answers what is left to prove of a GOSUB that is done by its short form.
use Rattle.std.proofs.Common.{inr, refl, subst, sym}
use Rattle.ptb_command.specs.declared.location.Location.{Location}
use Rattle.ptb_machine.specs.declared.short_forms.short_command.ShortCommand.TheVariants as commands
use Rattle.ptb_machine.specs.Entries.{BeginsAt}
use Rattle.ptb_machine.specs.ProgramCode.{code_from}
use Rattle.ptb_machine.specs.ShortForms.{statement_start}
use Rattle.ptb_machine.proofs.Positions.{form_of, found_reaches}
use Rattle.ptb_machine.proofs.program_code.ProgramCode.do_gosub.Goals as goal

pub returns-clause-done : goal.returns-clause-done
returns-clause-done c p code there =
    let e = c.args.entry.now in
    let table = c.args.self.now in
    let other = c.in-Gosub.other in
    let form = form_of p table code c.args.position.now.index e there (commands.Gosub other) c.in-Gosub.is in
    let to : Location = statement_start form.leads.target in
    found_reaches p table code e c.args.registers.now c.call_shortly.new.registers to _
    (inr (refl, subst (λ k. BeginsAt table.commands k to) (sym c.from-position.ensures) form.leads.next))
    (c.if-not-call_shortly.ensures.done refl p table.commands (code_from table e) other form)

pub returns-clause-known : goal.returns-clause-known
returns-clause-known c = c.forget.ensures c.call_shortly.new.registers.stack
