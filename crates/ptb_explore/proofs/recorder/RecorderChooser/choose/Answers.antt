-- This file answers that a recorder refuses only what its plan has next, and that ones come after the plan.
use Rattle.std.proofs.Common.{rules, ◌≡◌, ◌∙◌, ap, sym, arith, inl, inr, ◌+◌, ◌-◌, ◌<◌, ◌≤◌, [], ◌∷◌, ◌++◌, List}
use Rattle.std.proofs.Common.{length, length-append, get_or, take, replicate, vec_len, FitsSigned, w16, of_z, to_z}
use Rattle.std.proofs.Common.{to_z-of_z}
use Rattle.std.specs.Prelude.{ℤ, pos}
use Rattle.std.proofs.lemmas.Bool.{cases_lt}
use Rattle.std.proofs.lemmas.List.{map-append}
use Rattle.ptb_answers.specs.Choices.{with_answers}
use Rattle.ptb_answers.specs.declared.asked.Asked.{Asked}
use Rattle.ptb_answers.specs.AskedQuestions.{answers_in}
use Rattle.ptb_explore.specs.Recorders.{recorder_choices, given_bounds, recorded}
use Rattle.ptb_explore.proofs.AskedLists.{answer_at}
use Rattle.ptb_explore.proofs.GivenAnswers.{answers_stay, grown_after_plan, grown_in_plan, held}
use Rattle.ptb_explore.proofs.RecordedAnswers.{given_len, recorded_len}
use Rattle.ptb_explore.proofs.RecorderPlans.{next_planned, ones_push}
use Rattle.ptb_explore.proofs.recorder.RecorderChooser.choose.Goals as goal

-- the plan has this answer next, since it isn't one of the ones after it: as many were given as there are answers
-- once there are ones
pub returns-then-answer-lt1-clause-refused : goal.returns-then-answer-lt1-clause-refused
returns-then-answer-lt1-clause-refused c =
    let self = c.args.self.now in
    let q : Asked = c.index.result.now in
    let fits : FitsSigned w16 q.answer = search rules in
    let within : self.given < length self.asked.items =
    omega (arith, c.if-place-len.true, c.len.ensures, self.asked.ok.0) in
    let planned : self.given < self.planned = elim (cases_lt self.given self.planned) [
      | inl l ↦ l
      | inr u ↦ absurd (omega (arith, self.at_end, self.asked.ok.0))
    ] in
    let there : q.answer ≡ get_or (recorded self) (length (given_bounds self)) q.answer =
    ap (λ (x : Asked). x.answer) c.index.ensures ∙ sym (answer_at self.asked.items self.given q q.answer within)
    ∙ ap (λ n. get_or (recorded self) n q.answer) (given_len self) in
    let next = next_planned (recorded self) (length (given_bounds self)) self.planned q.answer
    (omega (arith, planned, given_len self)) (omega (arith, self.within, recorded_len self)) there in (
      (
        next.0,
        next.1 ∙ ap (λ (k : ℤ). take (length (given_bounds self)) (recorded self) ++ k ∷ next.0) (sym (to_z-of_z fits)),
      ),
      search rules,
      search rules,
    )

pub invariant_of-self-then-place-len : goal.invariant_of-self-then-place-len
invariant_of-self-then-place-len c =
    let self = c.args.self.now in
    let q : Asked = c.index.result.now in
    let fits : FitsSigned w16 q.answer = search rules in
    let more : self.given + 1 ≤ vec_len self.asked = omega (arith, c.if-place-len.true, c.len.ensures) in
    let x : Asked = record { answer = to_z w16 (of_z w16 q.answer); bound = to_z w16 (of_z w16 c.args.bound) } in
    let stay = answers_stay self.asked.items self.given x q (omega (arith, more, self.asked.ok.0))
    (to_z-of_z fits ∙ ap (λ (y : Asked). y.answer) c.index.ensures) in
    let ones = ap (λ (l : List ℤ). take self.planned l ++ replicate (vec_len self.asked - self.planned) (pos 1)) stay in
    record {
      bounded = more;
      within = self.within;
      later_one = stay ∙ self.later_one ∙ sym ones;
      at_end = λ l. absurd (omega (arith, self.at_end l, more));
    }

pub invariant_of-self-in-Ok : goal.invariant_of-self-in-Ok
invariant_of-self-in-Ok c =
    let self = c.args.self.now in
    let now = c.push.new.self in
    let x : Asked = record { answer = pos 1; bound = to_z w16 (of_z w16 c.args.bound) } in
    let are : answers_in now.items ≡ recorded self ++ pos 1 ∷ [] =
    ap answers_in c.in-Ok.ensures.items ∙ map-append (λ (q : Asked). q.answer) self.asked.items (x ∷ []) in
    let one_more : vec_len now ≡ vec_len self.asked + 1 =
    let longer = ap length c.in-Ok.ensures.items ∙ length-append self.asked.items (x ∷ []) in
    omega (arith, now.ok.0, longer, self.asked.ok.0) in
    let all : self.given ≡ vec_len self.asked = omega (arith, c.if-place-len.false, c.len.ensures, self.bounded) in
    let bounded : self.given + 1 ≤ vec_len now = omega (arith, all, one_more) in
    let within : self.planned ≤ vec_len now = omega (arith, self.within, one_more) in
    let old = self.later_one ∙ ap (λ n. take self.planned (recorded self) ++ replicate (n - self.planned) (pos 1))
    (recorded_len self) in
    let ones = ones_push (recorded self) self.planned (omega (arith, self.within, recorded_len self)) old in
    let count : vec_len now ≡ length (recorded self ++ pos 1 ∷ []) =
    omega (arith, one_more, recorded_len self, length-append (recorded self) (pos 1 ∷ [])) in
    record {
      bounded = bounded;
      within = within;
      later_one = are ∙ ones
          ∙ sym (ap (λ (l : List ℤ). take self.planned l ++ replicate (vec_len now - self.planned) (pos 1)) are
          ∙ ap (λ n. take self.planned (recorded self ++ pos 1 ∷ []) ++ replicate (n - self.planned) (pos 1)) count);
      at_end = λ l. omega (arith, all, one_more);
    }

pub returns-else-answer-bound-clause-grown : goal.returns-else-answer-bound-clause-grown
returns-else-answer-bound-clause-grown c =
    let self = c.args.self.now in
    let q : Asked = c.index.result.now in
    let fits : FitsSigned w16 q.answer = search rules in
    let bound_fits : FitsSigned w16 c.args.bound = search rules in
    let within : self.given < length self.asked.items =
    omega (arith, c.if-place-len.true, c.len.ensures, self.asked.ok.0) in
    let x : Asked = record { answer = to_z w16 (of_z w16 q.answer); bound = to_z w16 (of_z w16 c.args.bound) } in
    grown_in_plan self.asked.items self.given x q within (to_z-of_z fits ∙ ap (λ (y : Asked). y.answer) c.index.ensures)
    self.planned ∙ ap (λ (n : ℤ). with_answers (x.answer ∷ []) (n ∷ []) (recorder_choices self)) (to_z-of_z bound_fits)

pub returns-in-Ok-clause-grown : goal.returns-in-Ok-clause-grown
returns-in-Ok-clause-grown c =
    let self = c.args.self.now in
    let bound_fits : FitsSigned w16 c.args.bound = search rules in
    let x : Asked = record { answer = pos 1; bound = to_z w16 (of_z w16 c.args.bound) } in
    let all : self.given ≡ length self.asked.items =
    omega (arith, c.if-place-len.false, c.len.ensures, self.bounded, self.asked.ok.0) in
    ap (held self.planned (self.given + 1)) c.in-Ok.ensures.items
    ∙ grown_after_plan self.asked.items self.given x all self.planned (omega (arith, all, self.within, self.asked.ok.0))
    ∙ ap (λ (n : ℤ). with_answers (pos 1 ∷ []) (n ∷ []) (recorder_choices self)) (to_z-of_z bound_fits)
