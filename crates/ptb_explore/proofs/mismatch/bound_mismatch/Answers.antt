-- This file answers that the first item that states another bound is found.
use Rattle.std.proofs.Common.{rules, ◌≡◌, ◌<◌, ◌∙◌, ap, sym, refl, arith, length, ℤ, pos, true, get_or}
use Rattle.std.proofs.Common.{FitsSigned, w16, to_z, of_z, to_z-of_z}
use Rattle.ptb_answers.specs.declared.asked.Asked.{Asked}
use Rattle.ptb_answers.specs.declared.form.Marked.{Marked}
use Rattle.ptb_answers.specs.AnswerText.{without_bound}
use Rattle.ptb_answers.specs.AskedQuestions.{bounds_in}
use Rattle.ptb_explore.proofs.AskedLists.{bound_at, length-bounds_in}
use Rattle.ptb_explore.specs.MarkedRuns.{is_bound}
use Rattle.ptb_explore.proofs.Mismatches.{other_bound, states_more}
use Rattle.ptb_explore.proofs.Order.{same_from}
use Rattle.ptb_explore.proofs.mismatch.bound_mismatch.Goals as goal
use Rattle.ptb_explore.proofs.mismatch.bound_mismatch.Goals.{in-Some+else-stated-bound, in_default}

abbrev none : Marked
none = without_bound (pos 0)

abbrev no_question : Asked
no_question = record { answer = pos 0; bound = pos 0 }

pub returns-then-stated-bound-clause-mismatch : goal.returns-then-stated-bound-clause-mismatch
returns-then-stated-bound-clause-mismatch c = λ game most reads takes.
    let list = c.args.list.now in
    let asked = c.args.asked.now in
    let k = c.loop-k.k in
    let stated = c.in-Some.stated in
    let bound : ℤ = (get_or asked k no_question).bound in
    let stated_fits : FitsSigned w16 stated = search rules in
    let bound_fits : FitsSigned w16 bound = search rules in
    let stated_is : to_z w16 (of_z w16 stated) ≡ stated = to_z-of_z stated_fits in
    let bound_is : to_z w16 (of_z w16 bound) ≡ bound = to_z-of_z bound_fits in
    let there : get_or (bounds_in asked) k (pos 0) ≡ bound =
    bound_at asked k no_question (pos 0) (omega (arith, c.loop-k-test.true, c.requires.asked)) in
    rw (stated_is, bound_is, ← there) (other_bound game most reads list
    (bounds_in asked) c.args.taken takes k none c.loop-k-test.true c.loop-k.invariant stated c.in-Some.is
    (λ same. c.if-stated-bound.true (ap (of_z w16) (same ∙ there))))

pub loop-k-preserved : goal.loop-k-preserved
loop-k-preserved c =
    let list = c.args.list.now in
    let asked = c.args.asked.now in
    let k = c.loop-k.k in
    let within : k < length asked = omega (arith, c.loop-k-test.true, c.requires.asked) in
    let right : is_bound (get_or list k none).bound (get_or asked k no_question).bound ≡ true =
    elim c.match-list-k.branch [
      | in-Some+else-stated-bound w ↦ (
          let stated = w.in-Some.stated in
          let bound : ℤ = (get_or asked k no_question).bound in
          let stated_fits : FitsSigned w16 stated = search rules in
          let bound_fits : FitsSigned w16 bound = search rules in
          let same : stated ≡ bound = sym (to_z-of_z stated_fits) ∙ ap (to_z w16) w.if-stated-bound.false
          ∙ to_z-of_z bound_fits in
          rw (w.in-Some.is, same) (same_from bound))
      | in_default w ↦ rw w.in_default.is refl
    ] in
    states_more list (bounds_in asked) k none (omega (arith, c.loop-k-test.true, c.requires.list))
    (omega (arith, c.loop-k-test.true, c.requires.asked, length-bounds_in asked)) c.loop-k.invariant
    (rw (bound_at asked k no_question (pos 0) within) right)

pub returns-clause-states : goal.returns-clause-states
returns-clause-states c =
    let n : c.loop-k.k ≡ c.args.taken = omega (arith, c.loop-k-test.false, c.loop-k.auto) in
    rw n at c.loop-k.invariant
