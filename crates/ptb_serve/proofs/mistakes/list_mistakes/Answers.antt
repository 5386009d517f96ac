-- This file answers that the mistakes of a program are written as is due.
use Rattle.ptb_machine.specs.Streams.{writes_of}
use Rattle.ptb_serve.proofs.Checks.{check_broken, check_written}
use Rattle.ptb_serve.proofs.mistakes.list_mistakes.Goals as goal

pub returns-in_err-any : goal.returns-in_err-any
returns-in_err-any g c =
    check_broken c.args.program.now
    (writes_of g.W.Write.contents g.W.Write.failures c.args.out.now c.write_mistakes.new.writer) c.from_residual.result
    c.in_err-any.field-0.0 c.from_residual.ensures.1 c.in_err-any.ensures.kind c.in_err-any.ensures.writes
    c.in_err-any.ensures.failed

pub returns : goal.returns
returns g c =
    check_written c.args.program.now
    (writes_of g.W.Write.contents g.W.Write.failures c.args.out.now c.write_mistakes.new.writer) c.in_ok-any.any
    c.status_of.result c.status_of.ensures.status c.status_of.ensures.small c.in_ok-any.ensures.writes
    c.in_ok-any.ensures.unfailed
