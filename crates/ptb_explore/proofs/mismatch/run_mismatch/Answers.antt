-- This file answers why the items of a list are no run.
use Rattle.std.proofs.Common.{rules, ◌≡◌, [], ℤ, ◌<◌, ap, arith, length, refl, sym, take, true}
use Rattle.std.proofs.Common.{FitsSigned, w16, to_z, of_z, to_z-of_z, ◌∙◌}
use Rattle.std.proofs.Math.Seq.{take-length}
use Rattle.ptb_answers.specs.declared.asked.Asked.{Asked}
use Rattle.ptb_explore.specs.MarkedRuns.{states_bounds}
use Rattle.ptb_explore.specs.Recorders.{given_bounds}
use Rattle.ptb_explore.proofs.Mismatches.{all_fit, if_none_at, if_some_more, item_is_run, missing_item, none_is}
use Rattle.ptb_explore.proofs.RecordedAnswers.{given_at, given_len}
use Rattle.ptb_explore.proofs.TakenItems.{has_all, takes_all}
use Rattle.ptb_explore.proofs.mismatch.run_mismatch.Goals as goal

pub returns-then-is_some-clause-mismatch : goal.returns-then-is_some-clause-mismatch
returns-then-is_some-clause-mismatch c = λ game most steps shown reads h.
    if_some_more c.item_mismatch-found.result (λ m x. item_is_run game most reads [] c.args.list.now m refl x)
    (c.item_mismatch-found.ensures.mismatch game most steps shown reads h)

pub returns-then-items-chooser-clause-mismatch : goal.returns-then-items-chooser-clause-mismatch
returns-then-items-chooser-clause-mismatch c = λ game most steps shown reads h.
    let chooser = c.args.chooser.now in
    let list = c.args.list.now in
    let bounds = given_bounds chooser in
    let is = if_none_at (none_is c.item_mismatch-found.result c.if-is_some.ensures)
    c.item_mismatch-found.ensures.taken in
    let states : states_bounds (take (length list) list) bounds ≡ true =
    ap (λ l. states_bounds l bounds) (take-length list) ∙ is.states in
    let begins = all_fit game most reads list bounds (length list)
    (takes_all game chooser steps shown most reads list c.requires is.taken c.args.ending h) refl states in
    let bound : ℤ = c.index.result.now.bound in
    let less : length list < chooser.given = c.if-items-chooser.true in
    let there = ap (λ (q : Asked). q.bound) c.index.ensures
    ∙ sym (given_at chooser (length list) c.index.result.now bound less) in
    let fits : FitsSigned w16 bound = search rules in
    let same : to_z w16 (of_z w16 bound) ≡ bound = to_z-of_z fits in
    rw same (
      refl,
      missing_item game most reads list bounds (has_all game chooser steps shown most reads list c.requires
          is.taken c.args.ending h) begins bound there (omega (arith, less, given_len chooser)),
    )
