-- This file answers that the first item that does not fit is found, and why it does not.
use Rattle.std.proofs.Common.{rules, ◌≡◌, ◌⊎◌, inl, inr, subst, arith, ◌<◌, ◌≤◌, ℤ, pos, length}
use Rattle.std.proofs.Common.{take, true, get_or, FitsSigned, w16, to_z, of_z, to_z-of_z}
use Rattle.std.proofs.lemmas.Bool.{cases_lt}
use Rattle.ptb_answers.specs.declared.form.Marked.{Marked}
use Rattle.ptb_answers.specs.AnswerText.{without_bound}
use Rattle.ptb_command.specs.declared.ending.Ending.TheVariants as endings
use Rattle.ptb_explore.proofs.RecordedAnswers.{given_len}
use Rattle.ptb_explore.specs.MarkedRuns.{states_bounds}
use Rattle.ptb_explore.specs.PlannedPlays.{PlayEnds}
use Rattle.ptb_explore.specs.Recorders.{recorder_choices, given_bounds}
use Rattle.ptb_explore.proofs.Mismatches.{if_none_at, none_is}
use Rattle.ptb_explore.proofs.TakenItems.{stops_outside, stops_over, takes_items}
use Rattle.ptb_explore.proofs.mismatch.item_mismatch.Goals as goal
use Rattle.ptb_explore.proofs.mismatch.item_mismatch.Goals.{After-eq}

abbrev none : Marked
none = without_bound (pos 0)

-- some items were not taken, and the bounds of the others are those that were seen
stated : (c : After-eq)
    → (c.min-taken.result ≡ length (given_bounds c.args.chooser.now))
    × (length (given_bounds c.args.chooser.now) < length c.args.list.now)
    × (states_bounds (take (length (given_bounds c.args.chooser.now)) c.args.list.now) (given_bounds c.args.chooser.now)
    ≡ true)
stated c =
    let chooser = c.args.chooser.now in
    let list = c.args.list.now in
    let n : c.min-taken.result ≡ length (given_bounds chooser) =
    omega (arith, c.min-taken.ensures, (given_len chooser), c.if-taken-list.false) in
    let less : length (given_bounds chooser) < length list =
    omega (arith, c.min-taken.ensures, (given_len chooser), c.if-taken-list.false) in
    let found = if_none_at (none_is c.bound_mismatch-found.result c.if-is_some.ensures)
    c.bound_mismatch-found.ensures.states in
    let states : states_bounds (take (length (given_bounds chooser)) list) (given_bounds chooser) ≡ true =
    rw (n, c.deref.ensures.value) at found in
    (n, less, states)

pub returns-then-is_some-clause-mismatch : goal.returns-then-is_some-clause-mismatch
returns-then-is_some-clause-mismatch c = λ game most steps shown reads h.
    let chooser = c.args.chooser.now in
    let list = c.args.list.now in
    let taken : ((c.min-taken.result ≡ length list) × (length list ≤ length (given_bounds chooser)))
    ⊎ ((c.min-taken.result ≡ length (given_bounds chooser)) × (length (given_bounds chooser) < length list)) =
    elim (cases_lt (length (given_bounds chooser)) (length list)) [
      | inl less ↦ inr (omega (arith, c.min-taken.ensures, (given_len chooser), less), less)
      | inr all ↦ inl (omega (arith, c.min-taken.ensures, (given_len chooser), all), omega (arith, all))
    ] in
    c.bound_mismatch-found.ensures.mismatch game most reads
    (rw c.deref.ensures.value
    (takes_items game chooser steps shown most reads list c.requires c.min-taken.result taken c.args.ending h))

pub returns-then-eq-clause-mismatch : goal.returns-then-eq-clause-mismatch
returns-then-eq-clause-mismatch c = λ game most steps shown reads h.
    let chooser = c.args.chooser.now in
    let list = c.args.list.now in
    let known = stated (goal.at.returns-then-eq-clause-mismatch c).After-eq in
    let is : c.args.ending ≡ endings.BadAnswer = search (rules, c.eq.ensures, c.if-eq.true) in
    let outside = subst (PlayEnds game (recorder_choices chooser) chooser.refused_bound steps shown) is h in
    let answer : ℤ = (get_or list c.min-taken.result none).answer in
    let answer_fits : FitsSigned w16 answer = search rules in
    let bound_fits : FitsSigned w16 chooser.refused_bound = search rules in
    let answer_is : to_z w16 (of_z w16 answer) ≡ answer = to_z-of_z answer_fits in
    let bound_is : to_z w16 (of_z w16 chooser.refused_bound) ≡ chooser.refused_bound = to_z-of_z bound_fits in
    rw (answer_is, bound_is, known.0)
    (stops_outside game chooser steps shown most reads list c.requires known.1 none known.2 outside)

pub returns-clause-mismatch : goal.returns-clause-mismatch
returns-clause-mismatch c = λ game most steps shown reads h.
    let chooser = c.args.chooser.now in
    let list = c.args.list.now in
    let known = stated (goal.at.returns-clause-mismatch c).After-eq in
    let other : c.args.ending ≡ endings.BadAnswer → ⊥ = search (rules, c.eq.ensures, c.if-eq.false) in
    rw known.0 (stops_over game chooser steps shown most reads list c.requires known.1 none known.2 c.args.ending other
    h)
