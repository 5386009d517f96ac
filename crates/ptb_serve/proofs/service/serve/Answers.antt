-- This file answers that a request is served as is promised: its program is loaded, and then its mode decides, or it
-- isn't loaded.
use Rattle.std.proofs.Common.{ap, ◌∙◌}
use Rattle.ptb_machine.specs.Streams.{reads_of, writes_of}
use Rattle.ptb_serve.specs.declared.attempt.Attempt.{Attempt}
use Rattle.ptb_serve.specs.ServedRequests.{outcome_of}
use Rattle.ptb_serve.proofs.Promises.{told_loaded, told_unloaded}
use Rattle.ptb_serve.proofs.service.serve.Goals as goal

-- the program is loaded
pub returns-in-Ok : goal.returns-in-Ok
returns-in-Ok g c =
    let load = c.in-Ok.ensures in
    let serve = c.serve_program.ensures in
    let told =
    told_loaded c.args.request.now (reads_of g.P.Read.remaining g.P.Read.given g.P.Read.failures c.args.program.now
    c.load.new.reader) load.reads.consumed load.reads.given
    (reads_of g.R.Read.remaining g.R.Read.given g.R.Read.failures c.args.input.now c.serve_program.new.input)
    (writes_of g.W.Write.contents g.W.Write.failures c.args.out.now c.serve_program.new.out)
    c.of.result c.serve_program.result.served c.serve_program.result.mismatch c.serve_program.result.line
    c.in-Ok.program c.of.ensures load.loads.size load.loads.ok (load.reads.unfailed (λ h. h)) serve.serves
    serve.reads serve.failures serve.mismatch serve.line serve.input_kept
    in
    record { served = told.served; reads = told.reads; fails = told.fails; laws = c.reply_laws.ensures }

-- it isn't
pub returns-in-Err : goal.returns-in-Err
returns-in-Err g c =
    let load = c.in-Err.ensures in
    let told =
    told_unloaded c.args.request.now (reads_of g.P.Read.remaining g.P.Read.given g.P.Read.failures c.args.program.now
    c.load.new.reader) load.reads.consumed load.reads.given
    c.args.input.now (g.R.Read.remaining c.args.input.now) (g.R.Read.given c.args.input.now)
    (g.R.Read.failures c.args.input.now) (g.W.Write.contents c.args.out.now) (g.W.Write.failures c.args.out.now)
    c.of-in-Err.result c.from.result c.in-Err.refusal (c.of-in-Err.ensures
    ∙ ap (λ (a : Attempt). record (outcome_of a.served) { mismatch = a.mismatch; line = a.line })
    c.without_mismatch.ensures) c.from.ensures load.loads.refused
    (λ h. (load.loads.too_long h, load.reads.longer h)) load.reads.given_longer
    (λ h. (load.loads.unread h, load.reads.has_failed h)) load.reads.unfailed
    in
    record { served = told.served; reads = told.reads; fails = told.fails; laws = c.reply_laws.ensures }
