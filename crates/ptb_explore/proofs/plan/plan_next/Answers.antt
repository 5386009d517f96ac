-- This file answers that the plan raises the last answer below its bound.
use Rattle.std.proofs.Common.{rules, ◌≡◌, ◌+◌, ◌<◌, ◌≤◌, ◌++◌, ◌∷◌, [], ℕ, List, take, arith, ap, refl}
use Rattle.std.proofs.lemmas.Grind.{common_steps}
use Rattle.std.proofs.Common.{sym, subst, ◌∙◌, ℤ, pos, ◌+ℤ◌, FitsSigned, w16, to_z, of_z, get_or}
use Rattle.std.proofs.Common.{length, slice_index_or}
use Rattle.std.proofs.lemmas.Int.{ints}
use Rattle.std.proofs.lemmas.List.{length-take-le, map-append, take-append-le, take-map}
use Rattle.ptb_answers.specs.declared.asked.Asked.{Asked}
use Rattle.ptb_answers.specs.AnswerText.{answers_of}
use Rattle.ptb_answers.specs.AskedQuestions.{answers_in, bounds_in}
use Rattle.ptb_explore.specs.Plans.{AreAtBounds, HasPlan, IsLastBelow}
use Rattle.ptb_explore.proofs.AskedLists.{answer_at, length-answers_in}
use Rattle.ptb_explore.proofs.WrittenTexts.{on_err_always}
use Rattle.ptb_explore.proofs.Mismatches.{answers_length, take_twice}
use Rattle.ptb_explore.proofs.plan.plan_next.Goals as goal

-- the questions in front of the raised one, and that one
front_answers : (asked : List Asked) (i : ℕ) (r : Asked)
    → answers_in (take i asked ++ r ∷ []) ≡ take i (answers_in asked) ++ r.answer ∷ []
front_answers asked i r =
    map-append (λ (q : Asked). q.answer) (take i asked) (r ∷ [])
    ∙ ap (λ (l : List ℤ). l ++ r.answer ∷ []) (sym (take-map (λ (q : Asked). q.answer) i asked))

front_bounds : (asked : List Asked) (i : ℕ) (r : Asked) → i ≤ length asked
    → take i (bounds_in (take i asked ++ r ∷ [])) ≡ take i (bounds_in asked)
front_bounds asked i r within =
    let n : i ≤ length (take i asked) = omega (arith, within, length-take-le i asked within) in
    take-map (λ (q : Asked). q.bound) i (take i asked ++ r ∷ [])
    ∙ ap bounds_in (take-append-le i (take i asked) (r ∷ []) n ∙ take_twice i i asked (omega arith))
    ∙ sym (take-map (λ (q : Asked). q.bound) i asked)

-- the answers in front of the raised one are those of the list that is planned
front_twice : (asked : List Asked) (i : ℕ) (r : Asked)
    → take i (take (i + 1) asked) ++ r ∷ [] ≡ take i asked ++ r ∷ []
front_twice asked i r = ap (λ (l : List Asked). l ++ r ∷ []) (take_twice i (i + 1) asked (omega arith))

pub returns-in_ok-replace_plan-in-Some-clause-plan : goal.returns-in_ok-replace_plan-in-Some-clause-plan
returns-in_ok-replace_plan-in-Some-clause-plan c =
    let asked = c.args.asked.now in
    let i = c.in-Some.i in
    let place = subst (λ n. IsLastBelow n (answers_in asked) (bounds_in asked) i)
    (sym (answers_length c.args.prefix.now)) c.in-Some.ensures.place in
    let within : i < length asked = omega (arith, place.within, length-answers_in asked) in
    let answer : ℤ = (get_or asked i (record { answer = pos 0; bound = pos 0 })).answer in
    let fits : FitsSigned w16 answer = search rules in
    let there : slice_index_or (answers_in asked) i (pos 0) ≡ answer =
    answer_at asked i (record { answer = pos 0; bound = pos 0 }) (pos 0) within in
    let room = c.in-Some.ensures.room in
    let raised : to_z w16 (of_z w16 (to_z w16 (of_z w16 answer) +ℤ pos 1)) ≡ answer +ℤ pos 1 =
    omega (arith, ints, room, there) in
    let plan = ap answers_in (c.in_ok-replace_plan-in-Some.ensures.asked ∙ front_twice asked i _)
    ∙ front_answers asked i _
    ∙ ap (λ k. take i (answers_in asked) ++ k ∷ []) (raised ∙ ap (λ (k : ℤ). k +ℤ pos 1) (sym there)) in
    rw c.in-AtRun.is (place, plan)

pub returns-in_ok-replace_plan-in-Some-clause-bounds : goal.returns-in_ok-replace_plan-in-Some-clause-bounds
returns-in_ok-replace_plan-in-Some-clause-bounds c =
    let asked = c.args.asked.now in
    let i = c.in-Some.i in
    let within : i ≤ length asked = omega (arith, c.in-Some.ensures.place.within, length-answers_in asked) in
    ap (λ (l : List Asked). take i (bounds_in l)) (c.in_ok-replace_plan-in-Some.ensures.asked ∙ front_twice asked i _)
    ∙ front_bounds asked i _ within

pub returns-in-None-clause-plan : goal.returns-in-None-clause-plan
returns-in-None-clause-plan c =
    rw c.in-AtRun.is (subst (λ n. AreAtBounds n (answers_in c.args.asked.now) (bounds_in c.args.asked.now))
    (sym (answers_length c.args.prefix.now)) c.in-None.ensures.place)

pub returns-in-AtEnd-clause-plan : goal.returns-in-AtEnd-clause-plan
returns-in-AtEnd-clause-plan c = search rules fits 50 depth 2

pub returns-in-AtEnd-clause-fresh : goal.returns-in-AtEnd-clause-fresh
returns-in-AtEnd-clause-fresh c = search rules fits 50 depth 2

pub returns-in_err-replay-in-AtStart-clause-refused : goal.returns-in_err-replay-in-AtStart-clause-refused
returns-in_err-replay-in-AtStart-clause-refused c =
    let has : HasPlan (answers_of c.args.prefix.now) c.args.position (answers_in c.args.asked.now)
    (bounds_in c.args.asked.now) = rw c.in-AtStart.is (answers_of c.args.prefix.now, 0, (refl, refl)) in
    on_err_always _ has

pub returns-in_err-replace_plan-in-Some-clause-refused : goal.returns-in_err-replace_plan-in-Some-clause-refused
returns-in_err-replace_plan-in-Some-clause-refused c =
    let answers = answers_in c.args.asked.now in
    let bounds = bounds_in c.args.asked.now in
    let i = c.in-Some.i in
    let place = subst (λ n. IsLastBelow n answers bounds i) (sym (answers_length c.args.prefix.now))
    c.in-Some.ensures.place in
    let has : HasPlan (answers_of c.args.prefix.now) c.args.position answers bounds =
    rw c.in-AtRun.is (take i answers ++ (slice_index_or answers i (pos 0) +ℤ pos 1) ∷ [], i, (place, refl)) in
    on_err_always _ has

pub returns-in_err-replay-in-AtStart-clause-plan :
    goal.returns-in_err-replay-in-AtStart-clause-plan
returns-in_err-replay-in-AtStart-clause-plan c = search rules fits 50 depth 2

pub returns-in_err-replay-in-AtStart-clause-bounds :
    goal.returns-in_err-replay-in-AtStart-clause-bounds
returns-in_err-replay-in-AtStart-clause-bounds c = search rules fits 50 depth 2

pub returns-in_err-replay-in-AtStart-clause-fresh :
    goal.returns-in_err-replay-in-AtStart-clause-fresh
returns-in_err-replay-in-AtStart-clause-fresh c = search rules fits 50 depth 2

pub offset_bounds-asked-i : goal.offset_bounds-asked-i
offset_bounds-asked-i c = grind (arith, common_steps)

pub bounds-asked-i : goal.bounds-asked-i
bounds-asked-i c = grind (arith, common_steps)

pub bounds-asked-i-in-Some : goal.bounds-asked-i-in-Some
bounds-asked-i-in-Some c = grind (arith, common_steps)

pub overflow_add-raised : goal.overflow_add-raised
overflow_add-raised c = grind (arith, common_steps)

pub overflow_add-i : goal.overflow_add-i
overflow_add-i c = grind (arith, common_steps)

pub slice_bounds-replace_plan-end : goal.slice_bounds-replace_plan-end
slice_bounds-replace_plan-end c = grind (arith, common_steps)

pub replace_plan-requires : goal.replace_plan-requires
replace_plan-requires c = grind (arith, common_steps)

pub returns-in_err-replace_plan-in-Some-clause-plan :
    goal.returns-in_err-replace_plan-in-Some-clause-plan
returns-in_err-replace_plan-in-Some-clause-plan c = search rules fits 50 depth 2

pub returns-in_err-replace_plan-in-Some-clause-bounds :
    goal.returns-in_err-replace_plan-in-Some-clause-bounds
returns-in_err-replace_plan-in-Some-clause-bounds c = search rules fits 50 depth 2

pub returns-in_err-replace_plan-in-Some-clause-fresh :
    goal.returns-in_err-replace_plan-in-Some-clause-fresh
returns-in_err-replace_plan-in-Some-clause-fresh c = search rules fits 50 depth 2

pub returns-in_ok-replay-in-AtStart-clause-plan : goal.returns-in_ok-replay-in-AtStart-clause-plan
returns-in_ok-replay-in-AtStart-clause-plan c = search rules fits 50 depth 2

pub returns-in_ok-replay-in-AtStart-clause-bounds :
    goal.returns-in_ok-replay-in-AtStart-clause-bounds
returns-in_ok-replay-in-AtStart-clause-bounds c = search rules fits 50 depth 2

pub returns-in_ok-replay-in-AtStart-clause-fresh :
    goal.returns-in_ok-replay-in-AtStart-clause-fresh
returns-in_ok-replay-in-AtStart-clause-fresh c = search rules fits 50 depth 2

pub returns-in_ok-replace_plan-in-Some-clause-fresh :
    goal.returns-in_ok-replace_plan-in-Some-clause-fresh
returns-in_ok-replace_plan-in-Some-clause-fresh c = search rules fits 50 depth 2
