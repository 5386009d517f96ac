-- This file answers that what is left begins with the items that are left.
use Rattle.std.proofs.Common.{arith, ◌≡◌, ◌∙◌, ℕ, List, ap, sym, subst, take, length}
use Rattle.ptb_explore.specs.declared.kept_items.KeptItem.{KeptItem}
use Rattle.ptb_explore.specs.ReportHeaders.{AreEnds, header_prefix, marked_items}
use Rattle.ptb_explore.proofs.HeaderPrefixes.{begins_with_first, begins_within, ends_cut, items_cut}
use Rattle.ptb_explore.proofs.report_writer.cut.Goals as goal

-- where the text of the items ends that are left
end_is : (kept slice : List KeptItem) (count end : ℕ) → slice ≡ kept
    → (AreEnds slice → end ≡ length (header_prefix (take count (marked_items slice)))) → AreEnds kept
    → end ≡ length (header_prefix (take count (marked_items kept)))
end_is kept slice count end is ends all =
    subst (λ z. AreEnds z → end ≡ length (header_prefix (take count (marked_items z)))) is ends all

pub cut-requires : goal.cut-requires
cut-requires c =
    let kept = c.args.kept.now in
    let end = end_is kept c.as_slice.result.now c.args.count c.end_of-end.result c.as_slice.ensures
    c.end_of-end.ensures.end c.requires.ends in
    let within = begins_within c.args.text.now (header_prefix (take c.args.count (marked_items kept)))
    (begins_with_first c.args.text.now (marked_items kept) c.args.count c.requires.begins) in
    omega (arith, end, within)

pub returns-clause-items : goal.returns-clause-items
returns-clause-items c = ap marked_items c.truncate.ensures ∙ items_cut c.args.kept.now c.args.count

pub returns-clause-ends : goal.returns-clause-ends
returns-clause-ends c = subst AreEnds (sym c.truncate.ensures)
    (ends_cut c.args.kept.now c.args.count c.requires.ends)

pub returns-clause-text : goal.returns-clause-text
returns-clause-text c =
    let kept = c.args.kept.now in
    let end = end_is kept c.as_slice.result.now c.args.count c.end_of-end.result c.as_slice.ensures
    c.end_of-end.ensures.end c.requires.ends in
    c.cut.ensures ∙ ap (λ n. take n c.args.text.now) end
    ∙ begins_with_first c.args.text.now (marked_items kept) c.args.count c.requires.begins
