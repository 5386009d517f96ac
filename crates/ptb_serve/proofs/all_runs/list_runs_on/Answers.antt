-- This file answers that the runs on the lines of an input are listed as is due, and what is said of a list that fits
-- no run.
use Rattle.std.proofs.Common.{Err, refl, subst}
use Rattle.ptb_machine.specs.Streams.{writes_of}
use Rattle.ptb_serve.specs.declared.note.Note.{Note}
use Rattle.ptb_serve.specs.LoadedPrograms.{RefusesListIn}
use Rattle.ptb_serve.proofs.ListingResults.{listing_broken, listing_unstarted, listing_written}
use Rattle.ptb_serve.proofs.Mismatches.{none_told, reports_refuse_none, success_refuses_none}
use Rattle.ptb_serve.proofs.Mismatches.{unstarted_line, unstarted_told}
use Rattle.ptb_serve.proofs.WholeInput.{no_fault}
use Rattle.ptb_serve.proofs.all_runs.list_runs_on.Goals as goal

-- all reports are written
pub returns-in-Ok-write_reports : goal.returns-in-Ok-write_reports
returns-in-Ok-write_reports g c =
    let l = c.args.listing in
    let writes = c.in-Ok-write_reports.ensures in
    let listed =
    listing_written c.args.request.now c.args.program.now c.requires.memory l.under.now l.after.now
    l.first l.form c.args.lines.now
    (writes_of g.W.Write.contents g.W.Write.failures c.args.out.now c.write_reports.new.out)
    c.in-Ok.explorer writes.writes.0 c.in-Ok.ensures.explorer c.in-Ok.ensures.begun
    _ writes.writes.1 (writes.unfailed (λ n. no_fault _ _))
    in
    rw c.without_mismatch.ensures (record {
      serves = listed.serves;
      read = listed.read;
      failures = listed.failures;
      mismatch = λ known _. none_told _ _ _ known _ (success_refuses_none 0);
      no_line = refl;
    })

-- some are
pub returns-in-Err-write_reports : goal.returns-in-Err-write_reports
returns-in-Err-write_reports g c =
    let l = c.args.listing in
    let writes = c.in-Err-write_reports.ensures in
    let listed =
    listing_broken c.args.request.now c.args.program.now c.requires.memory l.under.now l.after.now
    l.first l.form c.args.lines.now
    (writes_of g.W.Write.contents g.W.Write.failures c.args.out.now c.write_reports.new.out)
    c.in-Ok.explorer writes.writes.0 c.in-Ok.ensures.explorer c.in-Ok.ensures.begun
    (Err c.from.result) c.in-Err-write_reports.broken c.from.ensures writes.writes.1 (writes.failed, writes.unfailed)
    in
    rw c.without_mismatch-in-Err-write_reports.ensures (record {
      serves = listed.serves;
      read = listed.read;
      failures = listed.failures;
      mismatch =
          λ known _. none_told _ _ _ known _
          (λ refuses. reports_refuse_none c.in-Err-write_reports.broken (subst (λ (n : Note). RefusesListIn (Err n))
          c.from.ensures refuses));
      no_line = refl;
    })

-- the listing is not begun
pub returns-in-Err : goal.returns-in-Err
returns-in-Err g c =
    let l = c.args.listing in
    let listed =
    listing_unstarted c.args.request.now c.args.program.now c.requires.memory l.under.now l.after.now
    l.first l.form c.args.lines.now
    (g.W.Write.contents c.args.out.now) (g.W.Write.failures c.args.out.now) c.in-Err.why c.in-Err.ensures.unstarted
    in
    rw c.unstarted.ensures (record {
      serves = listed.serves;
      read = listed.read;
      failures = listed.failures;
      mismatch = λ known lines. unstarted_told c.args.request.now c.args.program.now known c.args.lines.now lines
          l.under.now l.after.now l.first l.form c.in-Err.why c.in-Err.ensures.unstarted;
      no_line = unstarted_line c.in-Err.why;
    })
