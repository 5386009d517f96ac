-- This file answers that the lists that split the runs are served as is due, and how its input is read.
use Rattle.std.proofs.Common.{refl}
use Rattle.std.proofs.lemmas.Result.{err_from_is_err_and}
use Rattle.ptb_options.specs.declared.request.Mode.TheVariants as modes
use Rattle.ptb_serve.proofs.Splits.{unread_split}
use Rattle.ptb_serve.proofs.WholeInput.{lines_served, no_fault, unread_served}
use Rattle.ptb_serve.proofs.shares.list_shares.Goals as goal

-- the lines can't be read
pub returns-in_err-lines : goal.returns-in_err-lines
returns-in_err-lines g c =
    let p = err_from_is_err_and c.from_residual.result c.from_residual.ensures.1 in
    rw p.1 (unread_served (modes.Shares c.args.shares.answers c.args.shares.form) c.args.request.now
    c.args.program.now (λ x. x) tt
    (g.W.Write.contents c.args.out.now) (g.W.Write.failures c.args.out.now) p.0
    c.in_err-lines.field-0.0
    c.in_err-lines.ensures.kind
    (λ known left. unread_split c.args.request.now c.args.program.now c.requires.memory c.args.shares.answers
    c.args.shares.form known left (g.W.Write.contents c.args.out.now)
    c.in_err-lines.field-0.0 c.in_err-lines.ensures.kind)
    p.2 c.in_err-lines.ensures.reads)

-- they are
pub returns : goal.returns
returns g c =
    lines_served (modes.Shares c.args.shares.answers c.args.shares.form) c.args.request.now c.args.program.now
    (λ x. x) tt _ c.share_lines.result c.share_lines.ensures
    c.in_ok-lines.ensures.reads refl (no_fault _ _) (rw c.deref.ensures.value c.in_ok-lines.ensures.lines)
