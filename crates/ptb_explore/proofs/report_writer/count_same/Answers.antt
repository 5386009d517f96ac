-- This file answers that one item more is the same.
use Rattle.std.proofs.Common.{arith, rules, ◌≡◌, ◌<◌, ◌∙◌, ap, sym, ◌++◌, ◌∷◌, [], get_or, length, take, pos, refl}
use Rattle.std.proofs.lemmas.List.{get_or-map, take_more}
use Rattle.ptb_answers.specs.AnswerText.{in_form}
use Rattle.ptb_answers.specs.declared.form.Marked.{Marked}
use Rattle.ptb_explore.specs.ReportHeaders.{marked_of, marked_items}
use Rattle.ptb_explore.specs.ReportText.{asked_items}
use Rattle.ptb_explore.proofs.HeaderPrefixes.{is_in_form, length-items_of}
use Rattle.ptb_explore.proofs.AskedLists.{asked_at, item_for, question_at, length-asked_items}
use Rattle.ptb_explore.proofs.report_writer.count_same.Goals as goal

pub loop-k-preserved : goal.loop-k-preserved
loop-k-preserved c =
    let k = c.loop-k.k in
    let items = asked_items c.args.form c.args.asked.now in
    let m : Marked = item_for c.args.form c.args.asked.now k in
    let in_items : k < length c.args.items.now = omega (arith, c.loop-k-test.true, c.min-most.ensures) in
    let in_asked : k < length c.args.asked.now = omega (arith, c.loop-k-test.true, c.min-most.ensures) in
    let is : get_or (marked_items c.args.items.now) k m ≡ m =
    get_or-map marked_of c.args.items.now k _ m in_items ∙ c.if-not-is_item.ensures refl
    ∙ is_in_form c.args.form (question_at c.args.asked.now k).answer _ (question_at c.args.asked.now k).bound _
    c.bound_in.result
    (search rules) (search rules) c.bound_in.ensures in
    let of : get_or (marked_items c.args.items.now) k m ≡ get_or items k m =
    is ∙ sym (asked_at c.args.form c.args.asked.now k _ m in_asked) in
    record {
      within = omega (arith, in_items);
      same = take_more (marked_items c.args.items.now) k m
          (omega (arith, in_items, length-items_of c.args.items.now))
          ∙ ap (λ z. z ++ get_or (marked_items c.args.items.now) k m ∷ []) c.loop-k.invariant.same
          ∙ ap (λ z. take k items ++ z ∷ []) of
          ∙ sym (take_more items k m (omega (
            arith,
            in_asked,
            length-asked_items c.args.form
                c.args.asked.now,
          )));
    }
