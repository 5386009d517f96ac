-- This file answers that the table of chances on the lines of an input is written as is due.
use Rattle.std.proofs.Common.{ap}
use Rattle.ptb_serve.proofs.Tables.{chances_broken, chances_written}
use Rattle.ptb_serve.proofs.WholeInput.{no_fault}
use Rattle.ptb_serve.proofs.chances.table_on.Goals as goal

-- there is no memory for it, or it can't be written
pub returns-in_err-write_chances : goal.returns-in_err-write_chances
returns-in_err-write_chances g c =
    let writes = c.in_err-write_chances.ensures in
    chances_broken c.args.request.now c.args.program.now c.requires.memory c.args.lines.now
    (g.W.Write.contents c.args.out.now) (g.W.Write.contents c.write_chances.new.writer)
    (g.W.Write.failures c.args.out.now) (g.W.Write.failures c.write_chances.new.writer)
    c.from_residual.result c.in_err-write_chances.field-0.0 c.from_residual.ensures.1 writes.kind
    (λ h. ap g.W.Write.contents (writes.memory h)) writes.prefix writes.failed writes.unfailed

-- it was written
pub returns : goal.returns
returns g c =
    let writes = c.in_ok-write_chances.ensures in
    chances_written c.args.request.now c.args.program.now c.requires.memory c.args.lines.now
    (g.W.Write.contents c.args.out.now) (g.W.Write.contents c.write_chances.new.writer)
    (g.W.Write.failures c.args.out.now) (g.W.Write.failures c.write_chances.new.writer)
    writes.written (writes.unfailed (no_fault _ _))
