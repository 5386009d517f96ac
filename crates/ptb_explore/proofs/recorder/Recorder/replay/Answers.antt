-- This file answers that the plan so far is that of a list's front.
use Rattle.std.proofs.Common.{rules, ◌∙◌, ap, sym, ℤ, List, [], ◌∷◌, ◌++◌, take, take_all, pos}
use Rattle.std.proofs.Common.{get_or, FitsSigned, w16, to_z-of_z}
use Rattle.std.proofs.lemmas.List.{map-append, take_more}
use Rattle.ptb_answers.specs.declared.asked.Asked.{Asked}
use Rattle.ptb_answers.specs.declared.form.Marked.{Marked}
use Rattle.ptb_answers.specs.AnswerText.{answers_of, without_bound}
use Rattle.ptb_answers.specs.AskedQuestions.{answers_in}
use Rattle.ptb_explore.specs.Recorders.{recorded}
use Rattle.ptb_explore.proofs.recorder.Recorder.replay.Goals as goal

pub loop-item-preserved : goal.loop-item-preserved
loop-item-preserved c =
    let l = c.loop-item in
    let list = c.args.list.now in
    let k = l.item-index in
    let item : Marked = get_or list k (without_bound (pos 0)) in
    let fits : FitsSigned w16 item.answer = search rules in
    record {
      answers = ap answers_in c.in_ok-push.ensures.items
          ∙ map-append (λ (q : Asked). q.answer) l.self.asked.items (_ ∷ [])
          ∙ ap (λ (n : ℤ). recorded l.self ++ n ∷ []) (to_z-of_z fits)
          ∙ ap (λ (a : List ℤ). a ++ item.answer ∷ []) l.invariant.answers
          ∙ sym (ap answers_of (take_more list k (without_bound (pos 0)) c.loop-item-test.true)
          ∙ map-append (λ (m : Marked). m.answer) (take k list) (item ∷ []));
      planned = c.len-self.ensures;
      given = l.invariant.given;
    }

pub returns-clause-answers : goal.returns-clause-answers
returns-clause-answers c = c.loop-item.invariant.answers
    ∙ ap answers_of (take_all c.loop-item.item-index c.args.list.now c.loop-item-test.false)
