-- This file answers what is left to prove of a RETURN that is done by its short form.
use Rattle.std.proofs.Common.{inl, refl}
use Rattle.ptb_machine.specs.ProgramCode.{code_from}
use Rattle.ptb_machine.proofs.Positions.{found_reaches, held_reaches}
use Rattle.ptb_machine.proofs.program_code.ProgramCode.do_return.Goals as goal

pub returns-in-Some-index_after_first-clause-done : goal.returns-in-Some-index_after_first-clause-done
returns-in-Some-index_after_first-clause-done c p e code form =
    let table = c.args.self.now in
    found_reaches p table code e c.args.registers.now c.return_shortly.new.registers c.in-Some.back _
    (inl (refl, c.in-Some-index_after_first.ensures)) (c.in-Some.ensures.done p e.statement (code_from table e) form)

pub returns-in_default-index_after_first-clause-done : goal.returns-in_default-index_after_first-clause-done
returns-in_default-index_after_first-clause-done c p e code form =
    let table = c.args.self.now in
    held_reaches p table e c.args.registers.now c.return_shortly.new.registers c.follow_place.new.registers _
    c.in-Some.back _ c.follow_place.ensures.registers c.follow_place.ensures.place (c.follow_place.ensures.next p code)
    (c.in-Some.ensures.done p e.statement (code_from table e) form)

pub returns-in-Some-index_after_first-clause-known : goal.returns-in-Some-index_after_first-clause-known
returns-in-Some-index_after_first-clause-known c = c.forget.ensures c.return_shortly.new.registers.stack

pub returns-in_default-index_after_first-clause-known : goal.returns-in_default-index_after_first-clause-known
returns-in_default-index_after_first-clause-known c = c.forget.ensures c.follow_place.new.registers.stack
