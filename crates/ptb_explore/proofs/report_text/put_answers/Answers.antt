-- This file answers that answers are gathered one after the other, each but the first after a comma.
use Rattle.std.proofs.Common.{rules, ◌≡◌, ℕ, ◌<◌, ◌≤◌, List, [], ◌++◌, ◌∙◌, take, length, ap, sym}
use Rattle.std.proofs.Common.{subst, arith, pos, get_or, codes, refl}
use Rattle.std.specs.Prelude.{◌==◌, if◌then◌else◌}
use Rattle.std.specs.List.{flat_map}
use Rattle.std.proofs.lemmas.List.{nil_from_length, take_all}
use Rattle.ptb_text.specs.Device.{TakesSome}
use Rattle.ptb_answers.specs.declared.asked.Asked.{Asked}
use Rattle.ptb_answers.specs.declared.form.Form.{Form}
use Rattle.ptb_answers.specs.declared.form.Form.TheVariants as forms
use Rattle.ptb_answers.specs.declared.form.Marked.{Marked}
use Rattle.ptb_answers.specs.AnswerText.{item_text, in_form, spelling}
use Rattle.ptb_text.proofs.PublicLemmas.{failed_after, fails, gathered_same, gathers_piece, gathers_same, some_piece}
use Rattle.ptb_explore.specs.ReportText.{asked_items}
use Rattle.ptb_explore.proofs.AskedLists.{asked_at, length-asked_items}
use Rattle.ptb_explore.proofs.ReportText.{pieces_of, whole_piece, piece_at, spelling_in_pieces, length-pieces_of}
use Rattle.ptb_explore.proofs.report_text.put_answers.Goals as goal

no_items : (form : Form) → asked_items form [] ≡ []
no_items forms.One = refl
no_items forms.Two = refl

word_for_none : (form : Form) (asked : List Asked) (s : List ℕ) → length asked ≡ 0
    → s ++ codes "none" ≡ s ++ spelling (asked_items form asked)
word_for_none form asked s none =
    let items : asked_items form asked ≡ [] = ap (asked_items form) (nil_from_length asked none) ∙ no_items form in
    ap (λ (list : List Marked). s ++ spelling list) (sym items)

module _ (form : Form) (asked : List Asked) where
  count : length (pieces_of (asked_items form asked)) ≡ length asked
  count = length-pieces_of (asked_items form asked) ∙ length-asked_items form asked

  -- the separator and the item at a place are the piece there
  next : (k : ℕ) (q : Asked) (separator : List ℕ) (m : Marked) → k < length asked
      → separator ≡ (if k == 0 then [] else codes ",")
      → m ≡ in_form form (get_or asked k q).answer (get_or asked k q).bound
      → separator ++ item_text m ≡ get_or (pieces_of (asked_items form asked)) k []
  next k q separator m lt is_separator is =
      let item : m ≡ get_or (asked_items form asked) k m = is ∙ sym (asked_at form asked k q m lt) in
      ap (λ s. s ++ item_text m) is_separator
      ∙ ap (λ (x : Marked). (if k == 0 then [] else codes ",") ++ item_text x) item
      ∙ piece_at (asked_items form asked) k m (omega (arith, lt, length-asked_items form asked))

  all : (s : List ℕ) (k : ℕ) → 0 < length asked → length asked ≤ k
      → s ++ flat_map whole_piece (take k (pieces_of (asked_items form asked))) ≡ s ++ spelling (asked_items form asked)
  all s k some over =
      ap (λ ps. s ++ flat_map whole_piece ps)
      (take_all k (pieces_of (asked_items form asked)) (omega (arith, count, over)))
      ∙ ap (λ t. s ++ t) (spelling_in_pieces (asked_items form asked)
      (omega (arith, some, length-asked_items form asked)))

  whole : (s : List ℕ) → 0 < length asked
      → s ++ flat_map whole_piece (pieces_of (asked_items form asked)) ≡ s ++ spelling (asked_items form asked)
  whole s some = ap (λ t. s ++ t)
      (spelling_in_pieces (asked_items form asked) (omega (arith, some, length-asked_items form asked)))

pub returns-in_err-put_item : goal.returns-in_err-put_item
returns-in_err-put_item g c =
    let failed = c.in_err-put_item.ensures in
    let form = c.args.form in
    let asked = c.args.asked.now in
    let q : Asked = get_or asked c.loop-k.k (record { answer = pos 0; bound = pos 0 }) in
    let within : c.loop-k.k < length (pieces_of (asked_items form asked)) =
    omega (arith, c.loop-k-test.true, count form asked) in
    let some : 0 < length asked = omega (arith, c.loop-k-test.true) in
    let is = next form asked c.loop-k.k q c.separator.result.now c.item.result c.loop-k-test.true c.separator.ensures
    (search rules) in
    let t = some_piece whole_piece (pieces_of (asked_items form asked)) c.loop-k.k [] within _ is _ _ _
    c.args.pending.now c.loop-k.pending c.loop-k.invariant.gathered failed.fault in
    fails _ _ _ c.from_residual.result _ c.from_residual.ensures.1
    (subst (TakesSome _ _) (whole form asked c.args.pending.now some) t)
    (failed_after _ _ _ c.loop-k.invariant.unfailed failed.failed) failed.kind

pub loop-k-preserved : goal.loop-k-preserved
loop-k-preserved g c =
    let form = c.args.form in
    let asked = c.args.asked.now in
    let q : Asked = get_or asked c.loop-k.k (record { answer = pos 0; bound = pos 0 }) in
    let within : c.loop-k.k < length (pieces_of (asked_items form asked)) =
    omega (arith, c.loop-k-test.true, count form asked) in
    let is = next form asked c.loop-k.k q c.separator.result.now c.item.result c.loop-k-test.true c.separator.ensures
    (search rules) in
    record {
      unfailed = c.in_ok-put_item.ensures.unfailed ∙ c.loop-k.invariant.unfailed;
      gathered = gathers_piece whole_piece (pieces_of (asked_items form asked)) c.loop-k.k [] within _ is _ _ _
          c.args.pending.now c.loop-k.pending c.loop-k.invariant.gathered _ c.in_ok-put_item.ensures.ok;
    }

pub returns : goal.returns
returns g c =
    let form = c.args.form in
    let asked = c.args.asked.now in
    let some : 0 < length asked = grind (arith, c.if-is_empty.ensures) in
    record {
      ok = gathers_same (all form asked c.args.pending.now c.loop-k.k some c.loop-k-test.false)
          c.loop-k.invariant.gathered;
      fault = tt;
      failed = tt;
      kind = tt;
      unfailed = c.loop-k.invariant.unfailed;
    }

-- no answers: the word for none
pub returns-then-is_empty : goal.returns-then-is_empty
returns-then-is_empty g c =
    let none : length c.args.asked.now ≡ 0 = grind (arith, c.if-is_empty.ensures) in
    gathered_same _ _ _ _ c.put.result (word_for_none c.args.form c.args.asked.now c.args.pending.now none)
    c.put.ensures.gathers
