-- This file answers that an answer is an item without a bound.
use Rattle.std.proofs.Common.{rules, ◌≡◌, ◌∙◌, ap, sym, Some, FitsSigned, w16, to_z-of_z}
use Rattle.std.specs.Prelude.{is_some}
use Rattle.std.proofs.lemmas.Bool.{false≢true}
use Rattle.std.proofs.lemmas.Option.{none-some, same_Some}
use Rattle.ptb_answers.specs.declared.form.Marked.{Marked}
use Rattle.ptb_answers.specs.AnswerText.{without_bound}
use Rattle.ptb_options.proofs.items.I16ListItem.parse.Goals as goal

pub returns-in_err-item-clause-only : goal.returns-in_err-item-clause-only
returns-in_err-item-clause-only c k h =
    absurd (none-some (without_bound k) (c.in_err-item.ensures.only (without_bound k) h))

pub returns-then-is_some-clause-only : goal.returns-then-is_some-clause-only
returns-then-is_some-clause-only c k h =
    let same : c.in_ok-item.item ≡ without_bound k = same_Some _ _ (c.in_ok-item.ensures.only (without_bound k) h) in
    absurd (false≢true (sym (c.if-is_some.ensures ∙ ap (λ (m : Marked). is_some m.bound) same)))

pub returns-clause-only : goal.returns-clause-only
returns-clause-only c k h =
    let answer = c.in_ok-item.item.answer in
    let fits : FitsSigned w16 answer = search rules in
    let same : c.in_ok-item.item ≡ without_bound k = same_Some _ _ (c.in_ok-item.ensures.only (without_bound k) h) in
    ap Some (to_z-of_z fits ∙ ap (λ (m : Marked). m.answer) same)
