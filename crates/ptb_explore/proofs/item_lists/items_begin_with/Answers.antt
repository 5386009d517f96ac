-- This file answers that answers are compared one by one.
use Rattle.std.proofs.Common.{rules, ◌≡◌, ◌∙◌, sym, pos, get_or, FitsSigned, w16, to_z, to_z-of_z, ap, arith}
use Rattle.ptb_answers.specs.declared.form.Marked.{Marked}
use Rattle.ptb_answers.specs.AnswerText.{without_bound}
use Rattle.ptb_explore.proofs.StatedBounds.{same_answer, too_short}
use Rattle.ptb_explore.proofs.item_lists.items_begin_with.Goals as goal

abbrev none : Marked
none = without_bound (pos 0)

pub loop-k-preserved : goal.loop-k-preserved
loop-k-preserved c =
    let list = c.args.list.now in
    let prefix = c.args.prefix.now in
    let k = c.loop-k.k in
    let list_fits : FitsSigned w16 (get_or list k none).answer = search rules in
    let prefix_fits : FitsSigned w16 (get_or prefix k none).answer = search rules in
    let same : (get_or list k none).answer ≡ (get_or prefix k none).answer =
    sym (to_z-of_z list_fits) ∙ ap (to_z w16) c.if-list-k.false ∙ to_z-of_z prefix_fits in
    same_answer list prefix k none c.loop-k-test.true (omega (arith, c.if-list-prefix.false)) same ∙ c.loop-k.invariant

pub returns-then-list-prefix : goal.returns-then-list-prefix
returns-then-list-prefix c = sym (too_short c.args.list.now c.args.prefix.now (omega (arith, c.if-list-prefix.true)))
