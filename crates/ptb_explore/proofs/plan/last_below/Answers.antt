-- This file answers that the last answer below its bound is found.
use Rattle.std.proofs.Common.{rules, ◌≡◌, ◌-◌, ◌<◌, inl, inr, length, pos, get_or, arith}
use Rattle.std.specs.Prelude.{◌≤ℤ◌}
use Rattle.std.proofs.lemmas.Bool.{cases_lt}
use Rattle.ptb_answers.specs.declared.asked.Asked.{Asked}
use Rattle.ptb_answers.specs.AskedQuestions.{answers_in, bounds_in}
use Rattle.ptb_explore.specs.Plans.{IsAtBound}
use Rattle.ptb_explore.proofs.AskedLists.{answer_at, bound_at}
use Rattle.ptb_explore.proofs.plan.last_below.Goals as goal

pub returns-clause-place : goal.returns-clause-place
returns-clause-place c = search rules fits 50 depth 2

pub loop-i-preserved : goal.loop-i-preserved
loop-i-preserved c =
    let asked = c.args.asked.now in
    let i = c.loop-i.i in
    let q : Asked = record { answer = pos 0; bound = pos 0 } in
    let within : i - 1 < length asked = search rules in
    let answer = answer_at asked (i - 1) q (pos 0) within in
    let bound = bound_at asked (i - 1) q (pos 0) within in
    let there : (get_or asked (i - 1) q).bound ≤ℤ (get_or asked (i - 1) q).answer = search rules in
    let at : IsAtBound (answers_in asked) (bounds_in asked) (i - 1) = rw (answer, bound) there in
    λ k l w. elim (cases_lt (i - 1) k) [
      | inl m ↦ c.loop-i.invariant k (omega (arith, m)) w
      | inr m ↦ (let e : i - 1 ≡ k = omega (arith, l, m) in rw e at at)
    ]
