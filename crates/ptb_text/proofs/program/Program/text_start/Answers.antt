-- This file answers what is left to prove of `Program::text_start`.
use Rattle.std.proofs.Common.{sym, ap, ◌∙◌, arith}
use Rattle.std.proofs.lemmas.List.{take_all}
use Rattle.ptb_text.specs.Program.{texts_length}
use Rattle.ptb_text.proofs.StoredLines.{HasSizes-from_kept, IsEntry-shown}
use Rattle.ptb_text.proofs.program.Program.text_start.Goals as goal

pub overflow_cast-result : goal.overflow_cast-result
overflow_cast-result c =
    let s = HasSizes-from_kept c.self.inside c.args.self.now c.self.view_is c.self.invariant in
    omega (arith, s.texts_are, s.cost_is, s.fits, s.small, c.len.ensures, c.self.inside.pool.ok.0)

pub returns-in-Some : goal.returns-in-Some
returns-in-Some c =
    let item = (rw c.deref.ensures.value at c.in-Some.ensures.lookup).3 in
    let s = HasSizes-from_kept c.self.inside c.args.self.now c.self.view_is c.self.invariant in
    (IsEntry-shown c.self.inside c.args.self.now c.self.view_is c.self.invariant c.args.at c.in-Some.statement.now
    (omega (arith, item.0, s.count)) (item.1 _)).place_is

pub returns-in-None : goal.returns-in-None
returns-in-None c =
    let s = HasSizes-from_kept c.self.inside c.args.self.now c.self.view_is c.self.invariant in
    let over = (rw c.deref.ensures.value at c.in-None.ensures.lookup).3 in
    let all = take_all c.args.at c.args.self.now.lines (omega (arith, over, s.count)) in
    c.len.ensures ∙ c.self.inside.pool.ok.0 ∙ s.texts_are ∙ ap texts_length (sym all)
