-- This file answers that the text grows by one item, which is kept.
use Rattle.std.proofs.Common.{arith, rules, ◌≡◌, ◌∙◌, ap, sym, ◌<◌, ◌++◌, [], get_or, length, pos}
use Rattle.std.proofs.lemmas.List.{length-take-le, take_all}
use Rattle.ptb_answers.specs.AnswerText.{in_form, item_text}
use Rattle.std.specs.Prelude.{◌==◌, if◌then◌else◌, codes}
use Rattle.ptb_answers.specs.declared.form.Marked.{Marked}
use Rattle.ptb_explore.specs.ReportHeaders.{header_prefix, marked_of}
use Rattle.ptb_explore.specs.ReportText.{asked_items}
use Rattle.ptb_explore.proofs.HeaderPrefixes.{begins_kept, ends_kept, is_in_form, items_kept, length-items_of}
use Rattle.ptb_explore.proofs.HeaderPrefixes.{text_added}
use Rattle.ptb_explore.proofs.AskedLists.{asked_at, item_for, question_at, length-asked_items}
use Rattle.ptb_explore.proofs.report_writer.add_items.Goals as goal

pub returns-then-room-lt-ITEM_ROOM-clause-begins : goal.returns-then-room-lt-ITEM_ROOM-clause-begins
returns-then-room-lt-ITEM_ROOM-clause-begins c =
    begins_kept (asked_items c.args.form c.args.asked.now) c.loop-k.k c.loop-k.text c.loop-k.kept
    c.loop-k.invariant.text c.loop-k.invariant.items

pub loop-k-preserved : goal.loop-k-preserved
loop-k-preserved c =
    let k = c.loop-k.k in
    let asked = c.args.asked.now in
    let items = asked_items c.args.form asked in
    let m : Marked = item_for c.args.form asked k in
    let within : k < length items = omega (arith, c.loop-k-test.true, length-asked_items c.args.form asked) in
    let next : m ≡ get_or items k m = sym (asked_at c.args.form asked k _ m c.loop-k-test.true) in
    let same : marked_of (record { answer = _; bound = c.bound_in-bound.result; end = length c.add_item.new.text })
    ≡ m =
    is_in_form c.args.form (question_at asked k).answer _ (question_at asked k).bound _ c.bound_in-bound.result
    (search rules) (search rules) c.bound_in-bound.ensures in
    let text = text_added items k m within next c.loop-k.text c.add_item.new.text c.loop-k.invariant.text
    (c.add_item.ensures ∙ ap (λ (x : Marked). c.loop-k.text ++ ((if k == 0 then [] else codes ",") ++ item_text x))
    same) in
    record {
      text = text;
      items = items_kept items k m within next c.loop-k.kept c.keep_item.new.kept _ c.keep_item.ensures same
          c.loop-k.invariant.items;
      ends = ends_kept items k m within next c.loop-k.kept c.keep_item.new.kept _ c.keep_item.ensures same
          c.loop-k.invariant.items c.loop-k.invariant.ends (ap length text);
    }

-- there is room for one item more
pub keep_item-requires : goal.keep_item-requires
keep_item-requires c =
    let items = asked_items c.args.form c.args.asked.now in
    omega (
      arith,
      c.requires.few,
      c.loop-k-test.true,
      length-items_of c.loop-k.kept,
      ap length c.loop-k.invariant.items,
      length-take-le c.loop-k.k items (omega (
        arith,
        c.loop-k-test.true,
        length-asked_items c.args.form
            c.args.asked.now,
      )),
    )

pub returns-clause-begins : goal.returns-clause-begins
returns-clause-begins c =
    begins_kept (asked_items c.args.form c.args.asked.now) c.loop-k.k c.loop-k.text c.loop-k.kept
    c.loop-k.invariant.text c.loop-k.invariant.items

pub returns-clause-all : goal.returns-clause-all
returns-clause-all c _ =
    let items = asked_items c.args.form c.args.asked.now in
    c.loop-k.invariant.text ∙ ap header_prefix (take_all c.loop-k.k items
    (omega (arith, c.loop-k-test.false, length-asked_items c.args.form c.args.asked.now)))
