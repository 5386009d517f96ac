-- This file answers that an explorer is opened as a listing is to begin, or why it isn't.
use Rattle.std.proofs.Common.{◌≡◌, ◌∙◌, ap, sym}
use Rattle.std.specs.Prelude.{option_copied}
use Rattle.ptb_machine.specs.Play.{play}
use Rattle.ptb_serve.proofs.OpenedListings.{at_first, at_named, begun_first, begun_named}
use Rattle.ptb_serve.proofs.OpenedListings.{unstarted_before, unstarted_there}
use Rattle.ptb_serve.proofs.all_runs.explorer_from.Goals as goal

pub returns-in_err-explorer-clause-unstarted : goal.returns-in_err-explorer-clause-unstarted
returns-in_err-explorer-clause-unstarted c =
    let l = c.args.listing in
    let why = c.in_err-explorer.ensures in
    unstarted_before (play c.args.program.now c.args.lines.now c.args.request.now.rules) l.under.now l.after.now _
    c.from_residual.result c.from_residual.ensures.1 (rw c.items-under.ensures at why.no_beginning)
    (rw c.items-under.ensures at why.mismatch) why.kind

pub returns-in-None-clause-explorer : goal.returns-in-None-clause-explorer
returns-in-None-clause-explorer c =
    let l = c.args.listing in
    rw (sym c.named_items.ensures ∙ ap option_copied c.in-None.is) (at_first c.args.program.now c.args.lines.now
    c.args.request.now.rules l.under.now c.in_ok-explorer.explorer
    (rw c.items-under.ensures at c.in_ok-explorer.ensures.under)
    (rw c.items-under.ensures at c.in_ok-explorer.ensures.beginning))

pub returns-in-None-clause-begun : goal.returns-in-None-clause-begun
returns-in-None-clause-begun c =
    let l = c.args.listing in
    rw (sym c.named_items.ensures ∙ ap option_copied c.in-None.is) (begun_first c.args.program.now c.args.lines.now
    c.args.request.now.rules l.under.now c.in_ok-explorer.explorer
    (rw c.items-under.ensures at c.in_ok-explorer.ensures.under)
    (rw c.items-under.ensures at c.in_ok-explorer.ensures.beginning))

pub returns-in-Some-clause-explorer : goal.returns-in-Some-clause-explorer
returns-in-Some-clause-explorer c =
    let l = c.args.listing in
    rw (sym c.named_items.ensures ∙ ap option_copied c.in-Some.is) (at_named c.args.program.now c.args.lines.now
    c.args.request.now.rules l.under.now c.in_ok-explorer.explorer
    (rw c.items-under.ensures at c.in_ok-explorer.ensures.under)
    (rw c.items-under.ensures at c.in_ok-explorer.ensures.beginning) c.in-Some.list.now c.go_to.result
    c.go_to.ensures.there)

pub returns-in-Some-clause-begun : goal.returns-in-Some-clause-begun
returns-in-Some-clause-begun c =
    let l = c.args.listing in
    rw (sym c.named_items.ensures ∙ ap option_copied c.in-Some.is) (begun_named c.args.program.now c.args.lines.now
    c.args.request.now.rules l.under.now c.in_ok-explorer.explorer
    (rw c.items-under.ensures at c.in_ok-explorer.ensures.under)
    (rw c.items-under.ensures at c.in_ok-explorer.ensures.beginning) c.in-Some.list.now c.go_to.result
    c.go_to.ensures.run c.go_to.ensures.begins)

pub returns-in-Some-clause-unstarted : goal.returns-in-Some-clause-unstarted
returns-in-Some-clause-unstarted c =
    let l = c.args.listing in
    rw (sym c.named_items.ensures ∙ ap option_copied c.in-Some.is) (unstarted_there c.args.program.now c.args.lines.now
    c.args.request.now.rules l.under.now c.in_ok-explorer.explorer
    (rw c.items-under.ensures at c.in_ok-explorer.ensures.under)
    (rw c.items-under.ensures at c.in_ok-explorer.ensures.beginning) c.in-Some.list.now c.go_to.result
    c.go_to.ensures.not_a_run c.go_to.ensures.mismatch c.go_to.ensures.kind)
