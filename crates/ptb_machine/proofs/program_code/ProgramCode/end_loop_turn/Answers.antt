-- This file answers what is left to prove of a NEXT.
use Rattle.std.proofs.Common.{refl}
use Rattle.ptb_machine.specs.Entries.{after_entry}
use Rattle.ptb_machine.specs.ProgramCode.{code_from}
use Rattle.ptb_machine.proofs.KnownLoops.{still_known, turn_does}
use Rattle.ptb_machine.proofs.program_code.ProgramCode.end_loop_turn.Goals as goal

pub returns-then-end_loop_turn_shortly-clause-done : goal.returns-then-end_loop_turn_shortly-clause-done
returns-then-end_loop_turn_shortly-clause-done c p e code a known =
    let old = c.args.registers.now in
    let brings = c.if-not-know_loop.ensures.found refl p e code a known in
    turn_does p c.args.self.now code c.args.next e a c.know_loop.new.known old c.know_loop.new.registers
    c.end_loop_turn_shortly.new.registers (λ m. m.back)
    c.open_loop-item.result c.open_loop-item.ensures c.if-not-know_loop.ensures.rest brings
    (c.if-end_loop_turn_shortly.ensures.done p e (code_from c.args.self.now e) old.stack)

pub returns-then-end_loop_turn_shortly-clause-first : goal.returns-then-end_loop_turn_shortly-clause-first
returns-then-end_loop_turn_shortly-clause-first c p e code a known again =
    let brings = c.if-not-know_loop.ensures.found refl p e code a known in
    brings.first

pub returns-then-end_loop_turn_shortly-clause-known : goal.returns-then-end_loop_turn_shortly-clause-known
returns-then-end_loop_turn_shortly-clause-known c p e code a known =
    let brings = c.if-not-know_loop.ensures.found refl p e code a known in
    still_known c.args.self.now.commands c.know_loop.new.registers.stack c.end_loop_turn_shortly.new.registers.stack
    c.know_loop.new.known (c.if-end_loop_turn_shortly.ensures.open refl) brings.known

pub returns-clause-done : goal.returns-clause-done
returns-clause-done c p e code a known =
    let old = c.args.registers.now in
    let brings = c.if-not-know_loop.ensures.found refl p e code a known in
    turn_does p c.args.self.now code c.args.next e a c.know_loop.new.known old c.know_loop.new.registers
    c.end_loop_turn_shortly.new.registers (λ m. after_entry e)
    c.open_loop-item.result c.open_loop-item.ensures c.if-not-know_loop.ensures.rest brings
    (c.if-end_loop_turn_shortly.ensures.done p e (code_from c.args.self.now e) old.stack)

pub returns-clause-known : goal.returns-clause-known
returns-clause-known c p e code a known = c.forget.ensures c.end_loop_turn_shortly.new.registers.stack
