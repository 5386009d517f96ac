-- This file answers what is left to prove of a GOTO that is done by its short form.
use Rattle.std.proofs.Common.{refl}
use Rattle.ptb_machine.proofs.Positions.{found_reaches, goto_leads}
use Rattle.ptb_machine.proofs.program_code.ProgramCode.do_goto.Goals as goal

pub returns-clause-done : goal.returns-clause-done
returns-clause-done c r p code there =
    let e = c.args.entry.now in
    let table = c.args.self.now in
    let on = goto_leads p table code c.args.position.now.index e there c.in-Goto.target c.in-Goto.is _ refl
    c.from-position.ensures in
    found_reaches p table code e r r on.place _ on.found (on.does r)
