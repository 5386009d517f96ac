-- This file answers that ones come after the plan, and then no answer.
use Rattle.std.proofs.Common.{◌≡◌, ◌∙◌, ap, refl, arith, ℕ, zero, suc, ◌-◌, List, [], ◌∷◌, ◌++◌}
use Rattle.std.proofs.Common.{replicate, take_all, vec_len}
use Rattle.std.specs.Prelude.{ℤ, pos}
use Rattle.std.proofs.lemmas.List.{map-append}
use Rattle.ptb_answers.specs.declared.asked.Asked.{Asked}
use Rattle.ptb_answers.specs.AskedQuestions.{answers_in}
use Rattle.ptb_explore.specs.Recorders.{recorded}
use Rattle.ptb_explore.proofs.RecordedAnswers.{recorded_len}
use Rattle.ptb_explore.proofs.recorder.Recorder.stop_after.Goals as goal

repeated_answers : (n : ℕ) (q : Asked) → answers_in (replicate n q) ≡ replicate n q.answer
repeated_answers zero q = refl
repeated_answers (suc n) q = ap (λ (l : List ℤ). q.answer ∷ l) (repeated_answers n q)

pub returns-clause-answers : goal.returns-clause-answers
returns-clause-answers c =
    let self = c.args.self.now in
    let most = c.args.most in
    let items = self.asked.items in
    let one : Asked = record { answer = pos 1; bound = pos 0 } in
    let stop : Asked = record { answer = pos 0; bound = pos 0 } in
    let ones = replicate (most - vec_len self.asked) one in
    let all = take_all most items (omega (arith, c.requires.within, self.asked.ok.0)) in
    ap answers_in (c.in_ok-push.ensures.items ∙ ap (λ (l : List Asked). l ++ stop ∷ []) (c.in_ok-resize.ensures.items
    ∙ ap (λ (l : List Asked). l ++ ones) all))
    ∙ map-append (λ (q : Asked). q.answer) (items ++ ones) (stop ∷ [])
    ∙ ap (λ (l : List ℤ). l ++ pos 0 ∷ []) (map-append (λ (q : Asked). q.answer) items ones
    ∙ ap (λ (l : List ℤ). recorded self ++ l) (repeated_answers (most - vec_len self.asked) one))
    ∙ ap (λ n. recorded self ++ replicate (most - n) (pos 1) ++ pos 0 ∷ []) (recorded_len self)
