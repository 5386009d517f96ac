-- This file answers that a listing of all runs is served as is due, and how its input is read.
use Rattle.std.proofs.Common.{refl}
use Rattle.ptb_serve.specs.ServedRequests.{mode_of}
use Rattle.ptb_serve.proofs.ListingResults.{unread_listed}
use Rattle.ptb_serve.proofs.Mismatches.{none_told, unread_refuses_none}
use Rattle.ptb_serve.proofs.WholeInput.{lines_read, no_fault, unread_served}
use Rattle.ptb_serve.proofs.all_runs.list_runs.Goals as goal

-- the lines can't be read
pub returns-in-Err : goal.returns-in-Err
returns-in-Err g c =
    let l = c.args.listing in
    let told = unread_served (mode_of c.args.listing) c.args.request.now
    c.args.program.now (λ x. x) tt
    (g.W.Write.contents c.args.out.now) (g.W.Write.failures c.args.out.now) c.from.result c.in-Err.fault
    c.in-Err.ensures.kind
    (λ known left. unread_listed c.args.request.now c.args.program.now c.requires.memory l.under.now
    l.after.now l.first l.form known left (g.W.Write.contents c.args.out.now)
    c.in-Err.fault c.in-Err.ensures.kind)
    c.from.ensures c.in-Err.ensures.reads in
    rw c.without_mismatch.ensures (record {
      serves = told.serves;
      reads = told.reads;
      failures = told.failures;
      mismatch = none_told _ _ _ _ _ (unread_refuses_none c.from.result c.in-Err.fault c.from.ensures);
      no_line = refl;
    })

-- they are
pub returns-in-Ok-clause-serves : goal.returns-in-Ok-clause-serves
returns-in-Ok-clause-serves g c = c.list_runs_on.ensures.serves _ _ (rw c.deref.ensures.value c.in-Ok.ensures.lines)

pub returns-in-Ok-clause-reads : goal.returns-in-Ok-clause-reads
returns-in-Ok-clause-reads g c =
    lines_read (mode_of c.args.listing)
    (λ x. x) tt c.list_runs_on.result.served c.in-Ok.ensures.reads refl (no_fault _ _) c.list_runs_on.ensures.read

pub returns-in-Ok-clause-mismatch : goal.returns-in-Ok-clause-mismatch
returns-in-Ok-clause-mismatch g c = c.list_runs_on.ensures.mismatch _ (rw c.deref.ensures.value c.in-Ok.ensures.lines)
