-- This file answers that a program's text is written as is due.
use Rattle.ptb_machine.specs.Streams.{writes_of}
use Rattle.ptb_serve.proofs.Checks.{text_broken, text_written}
use Rattle.ptb_serve.proofs.text.list_text.Goals as goal

pub returns-in_err-list : goal.returns-in_err-list
returns-in_err-list g c =
    let failed = c.in_err-list.ensures.writes in
    text_broken c.args.program.now
    (writes_of g.W.Write.contents g.W.Write.failures c.args.out.now c.list.new.writer) c.from_residual.result
    c.in_err-list.field-0.0 c.from_residual.ensures.1 failed.kind failed.fault failed.failed

pub returns : goal.returns
returns g c =
    let whole = c.in_ok-list.ensures.writes in
    text_written c.args.program.now
    (writes_of g.W.Write.contents g.W.Write.failures c.args.out.now c.list.new.writer) whole.ok whole.unfailed
