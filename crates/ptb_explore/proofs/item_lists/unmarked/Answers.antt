-- This file answers that the items so far are those of the first answers.
use Rattle.std.proofs.Common.{rules, ◌∙◌, ap, sym, ℤ, List, [], ◌∷◌, ◌++◌, take, take_all, pos}
use Rattle.std.proofs.Common.{get_or, FitsSigned, w16, to_z-of_z}
use Rattle.std.proofs.lemmas.List.{map-append, take_more}
use Rattle.ptb_answers.specs.declared.form.Marked.{Marked}
use Rattle.ptb_answers.specs.AnswerText.{unmarked, without_bound}
use Rattle.ptb_explore.proofs.item_lists.unmarked.Goals as goal

pub loop-answer-preserved : goal.loop-answer-preserved
loop-answer-preserved c =
    let answers = c.args.answers.now in
    let k = c.loop-answer.answer-index in
    let answer : ℤ = get_or answers k (pos 0) in
    let fits : FitsSigned w16 answer = search rules in
    c.in_ok-push.ensures.items
    ∙ ap (λ (n : ℤ). c.loop-answer.list.items ++ without_bound n ∷ []) (to_z-of_z fits)
    ∙ ap (λ (a : List Marked). a ++ without_bound answer ∷ []) c.loop-answer.invariant
    ∙ sym (ap unmarked (take_more answers k (pos 0) c.loop-answer-test.true)
    ∙ map-append without_bound (take k answers) (answer ∷ []))

pub returns : goal.returns
returns c = c.loop-answer.invariant
    ∙ ap unmarked (take_all c.loop-answer.answer-index c.args.answers.now c.loop-answer-test.false)
