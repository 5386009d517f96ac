-- This file answers that a sample of runs on the lines of an input is written as is due.
use Rattle.ptb_machine.specs.Streams.{writes_of}
use Rattle.ptb_serve.proofs.Samples.{sample_broken, sample_written}
use Rattle.ptb_serve.proofs.WholeInput.{no_fault}
use Rattle.ptb_serve.proofs.sample.sample_lines.Goals as goal

-- the reports of the first runs are written
pub returns-in_err-write_sample : goal.returns-in_err-write_sample
returns-in_err-write_sample g c =
    let writes = c.in_err-write_sample.ensures in
    sample_broken c.args.request.now c.args.program.now c.requires.memory c.args.sample.seed c.args.sample.runs
    c.args.sample.form c.args.lines.now
    (writes_of g.W.Write.contents g.W.Write.failures c.args.out.now c.write_sample.new.writer)
    c.from_residual.result c.in_err-write_sample.field-0.0 c.from_residual.ensures.1 writes.writes
    (writes.failed, writes.unfailed)

-- all are
pub returns : goal.returns
returns g c =
    let writes = c.in_ok-write_sample.ensures in
    sample_written c.args.request.now c.args.program.now c.requires.memory c.args.sample.seed c.args.sample.runs
    c.args.sample.form c.args.lines.now
    (writes_of g.W.Write.contents g.W.Write.failures c.args.out.now c.write_sample.new.writer)
    writes.writes (writes.unfailed (λ n. no_fault _ _))
