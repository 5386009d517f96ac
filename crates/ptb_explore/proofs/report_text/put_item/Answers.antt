-- This file answers that an item is gathered after its separator.
use Rattle.std.proofs.Common.{rules, ◌≡◌, ◌∙◌, ap, sym, List, ℕ, [], ◌++◌, append-nil, codes}
use Rattle.std.proofs.Common.{Option, Some, None, ℤ, FitsSigned, w16, to_z-of_z}
use Rattle.std.specs.Fmt.{signed_decimal}
use Rattle.ptb_answers.specs.declared.form.Marked.{Marked}
use Rattle.ptb_answers.specs.AnswerText.{bound_text, item_text}
use Rattle.ptb_text.proofs.PublicLemmas.{gathered_same}
use Rattle.ptb_explore.proofs.report_text.put_item.Goals as goal
use Rattle.ptb_explore.proofs.report_text.put_item.Goals.{After-as_bytes-answer, After-put_all-in-Some}

with_number : (p s a b : List ℕ) (m : Marked) (n : ℤ) → a ≡ signed_decimal m.answer → b ≡ signed_decimal n
    → m.bound ≡ Some n
    → p ++ (s ++ (a ++ (codes "/" ++ (b ++ [])))) ≡ p ++ (s ++ item_text m)
with_number p s a b m n is_a is_b bound =
    ap (λ x. p ++ (s ++ (x ++ (codes "/" ++ (b ++ []))))) is_a
    ∙ ap (λ x. p ++ (s ++ (signed_decimal m.answer ++ (codes "/" ++ x)))) (append-nil b ∙ is_b)
    ∙ ap (λ (o : Option ℤ). p ++ (s ++ (signed_decimal m.answer ++ bound_text o))) (sym bound)

without_number : (p s a : List ℕ) (m : Marked) → a ≡ signed_decimal m.answer → m.bound ≡ None
    → p ++ (s ++ (a ++ [])) ≡ p ++ (s ++ item_text m)
without_number p s a m is_a bound =
    ap (λ x. p ++ (s ++ (x ++ []))) is_a ∙ ap (λ (o : Option ℤ). p ++ (s ++ (signed_decimal m.answer ++ bound_text o)))
    (sym bound)

-- the answer is written as its digits
digits_are : (g : _) (c : After-as_bytes-answer g)
    → c.as_bytes-answer.result.now ≡ signed_decimal c.args.item.answer
digits_are g c =
    let fits : FitsSigned w16 c.args.item.answer = search rules in
    c.as_bytes-answer.ensures.value ∙ c.format.ensures.text ∙ ap signed_decimal (to_z-of_z fits)

-- and its bound after it
bound_added : (g : _) (c : After-put_all-in-Some g)
    → c.as_bytes-answer.result.now ≡ signed_decimal c.args.item.answer
    → c.args.pending.now ++ (c.args.separator.now ++ (c.as_bytes-answer.result.now ++ (codes "/"
    ++ (c.as_bytes-bound.result.now ++ [])))) ≡ c.args.pending.now ++ (c.args.separator.now ++ item_text c.args.item)
bound_added g c digits =
    let fits : FitsSigned w16 c.in-Some.number = search rules in
    with_number c.args.pending.now c.args.separator.now _ _ c.args.item c.in-Some.number
    digits
    (c.as_bytes-bound.ensures.value ∙ c.format-in-Some.ensures.text ∙ ap signed_decimal (to_z-of_z fits)) c.in-Some.is

pub returns-in-Some : goal.returns-in-Some
returns-in-Some g c =
    let at = goal.at.returns-in-Some g c in
    let whole = bound_added g at.After-put_all-in-Some (digits_are g at.After-as_bytes-answer) in
    gathered_same _ _ _ _ c.put_all-in-Some.result whole c.put_all-in-Some.ensures

pub returns-in-None : goal.returns-in-None
returns-in-None g c =
    let whole = without_number c.args.pending.now c.args.separator.now _ c.args.item
    (digits_are g (goal.at.returns-in-None g c).After-as_bytes-answer) c.in-None.is in
    gathered_same _ _ _ _ c.put_all.result whole c.put_all.ensures
