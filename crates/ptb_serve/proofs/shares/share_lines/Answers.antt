-- This file answers that the lists that split the runs on the lines of an input are written as is due.
use Rattle.ptb_machine.specs.Streams.{writes_of}
use Rattle.ptb_serve.proofs.Splits.{shares_broken, shares_unstarted, shares_written}
use Rattle.ptb_serve.proofs.WholeInput.{no_fault}
use Rattle.ptb_serve.proofs.shares.share_lines.Goals as goal

-- the search can't begin
pub returns-in_err-beginnings : goal.returns-in_err-beginnings
returns-in_err-beginnings g c =
    shares_unstarted c.args.request.now c.args.program.now c.requires.memory c.args.shares.answers
    c.args.shares.form c.args.lines.now
    (g.W.Write.contents c.args.out.now) (g.W.Write.failures c.args.out.now) c.from_residual.result
    c.from_residual.ensures.1

-- the first lines are written
pub returns-in_err-write_lists : goal.returns-in_err-write_lists
returns-in_err-write_lists g c =
    let writes = c.in_err-write_lists.ensures in
    shares_broken c.args.request.now c.args.program.now c.requires.memory c.args.shares.answers
    c.args.shares.form c.args.lines.now
    c.in_ok-beginnings.beginnings writes.writes.0 c.from-most.result c.from-most.ensures c.in_ok-beginnings.ensures
    (writes_of g.W.Write.contents g.W.Write.failures c.args.out.now c.write_lists.new.out)
    c.from_residual-in_err-write_lists.result c.in_err-write_lists.field-0.0
    c.from_residual-in_err-write_lists.ensures.1 writes.writes.1 (writes.failed, writes.unfailed)

-- all are
pub returns : goal.returns
returns g c =
    let writes = c.in_ok-write_lists.ensures in
    shares_written c.args.request.now c.args.program.now c.requires.memory c.args.shares.answers
    c.args.shares.form c.args.lines.now
    c.in_ok-beginnings.beginnings writes.writes.0 c.from-most.result c.from-most.ensures c.in_ok-beginnings.ensures
    (writes_of g.W.Write.contents g.W.Write.failures c.args.out.now c.write_lists.new.out)
    c.in_ok-write_lists.field-0 writes.writes.1 (writes.unfailed (λ n. no_fault _ _))
