-- This file proves what a recorder holds once its plan was played.
-- Main lemma: `open_ends`.
use Rattle.std.proofs.Common.{◌≡◌, ◌⊎◌, inl, inr, ℕ, zero, suc, ◌-◌, ◌≤◌, List, [], ◌∷◌, ◌++◌}
use Rattle.std.proofs.Common.{length, take, drop, replicate, true, false, refl, ap, sym, ◌∙◌, arith}
use Rattle.std.proofs.Common.{append-nil, length-append}
use Rattle.std.proofs.lemmas.List.{length-take-le, take-append-drop, take-append-le}
use Rattle.std.proofs.Math.Seq.{take-length}
use Rattle.std.specs.Prelude.{ℤ, pos}
use Rattle.ptb_answers.specs.Choices.{Choices}
use Rattle.ptb_answers.specs.Outcome.{Answers, Outcome, Done, IsReader, is_open, is_whole, bounds, bounds_after}
use Rattle.ptb_machine.proofs.PublicLemmas.{every_ending}
use Rattle.ptb_explore.proofs.RecordedAnswers.{given_len, recorded_len, whole_bounds}
use Rattle.ptb_answers.specs.AskedQuestions.{bounds_in}
use Rattle.ptb_explore.specs.declared.recorder.Recorder.{Recorder}
use Rattle.ptb_machine.specs.RunTree.{IsRun}
use Rattle.ptb_explore.specs.Plans.{IsFresh, PlanEndsWith}
use Rattle.ptb_explore.specs.Recorders.{recorder_choices, given_bounds, recorded}
use Rattle.ptb_command.specs.declared.ending.Ending.{Ending}
use Rattle.ptb_machine.specs.Play.{Finish}
use Rattle.ptb_explore.specs.PlannedPlays.{Holds, NextIsOutside, PlayEnds}
use Rattle.ptb_machine.proofs.PublicLemmas.{bounds-append, length-bounds}
use Rattle.ptb_explore.proofs.Tree.{run_open}
use Rattle.ptb_explore.proofs.PlayedPlans.{Took, ends_at}

take_twice : {X : Type 0} (m n : ℕ) (xs : List X) → m ≤ n → take m (take n xs) ≡ take m xs
take_twice zero n xs l = refl
take_twice (suc m) zero xs l = absurd (omega arith)
take_twice (suc m) (suc n) [] l = refl
take_twice (suc m) (suc n) (x ∷ xs) l = ap (λ r. x ∷ r) (take_twice m n xs (omega arith))

module _ {A W : Type 0} (play : Answers → Outcome A W) (r : Recorder) (result : A)
    (h : Holds play (recorder_choices r) (λ later. Done result later)) where
  taken_bounds : (given_bounds r) ≡ bounds play (take (length (given_bounds r)) (recorded r))
  taken_bounds = let k = h.bounds_are in cc

  recorder_took : Took play (take r.planned (recorded r)) (recorded r) r.planned (length (given_bounds r)) result
  recorder_took = record {
    plan_is = refl;
    planned_within = omega (arith, r.within, (recorded_len r));
    count_within = omega (arith, r.bounded, (recorded_len r), (given_len r));
    all_with_ones = λ l. omega (arith, r.at_end, (recorded_len r), (given_len r));
    ones_after = r.later_one ∙ ap (λ n. take r.planned (recorded r) ++ replicate (n - r.planned) (pos 1))
        (recorded_len r);
    came = ap play (sym (append-nil (take (length (given_bounds r)) (recorded r)))) ∙ h.rest [];
  }

  -- a plan that is open was played to its end
  pub recorder_ends : (most : ℕ) → IsReader play most → is_open (play (take r.planned (recorded r))) ≡ true
      → PlanEndsWith play (take r.planned (recorded r)) (recorded r) (given_bounds r) result
  recorder_ends most reads o = ends_at play most reads (take r.planned (recorded r)) (recorded r) r.planned
      (length (given_bounds r)) result recorder_took (given_bounds r) o taken_bounds

-- ---- by the ending

-- what is planned is the plan
pub fresh_plan : (r : Recorder) → IsFresh r → take r.planned (recorded r) ≡ (recorded r)
fresh_plan r f = ap (λ n. take n (recorded r)) (f.all_planned ∙ (recorded_len r)) ∙ take-length (recorded r)

pub result_is : {A W : Type 0} (x y : A) (a b : Answers) → ◌≡◌ {A = Outcome A W} (Done x a) (Done y b) → x ≡ y
result_is x y a b e = cc

-- a recorder that has a bound for each of its answers gave them all
pub all_given : {A W : Type 0} (play : Answers → Outcome A W) (r : Recorder)
    → (given_bounds r) ≡ bounds play (recorded r) → (recorder_choices r).taken ≡ (recorded r)
all_given play r e = ap (λ n. take n (recorded r)) (ap length e ∙ length-bounds play [] (recorded r))
    ∙ take-length (recorded r)

-- and the bounds are those of all its answers
pub all_bounds : {A W : Type 0} (play : Answers → Outcome A W) (r : Recorder)
    → (given_bounds r) ≡ bounds play (recorded r) → bounds_in r.asked.items ≡ given_bounds r
all_bounds play r e = whole_bounds r (ap length e ∙ length-bounds play [] (recorded r))

-- the play came to its end, or its next answer is outside the bound of its question
pub over_or_outside : (play : Answers → Outcome Finish (List ℕ)) (c : Choices) (bound : ℤ) (steps : ℕ) (shown : List ℕ)
    (e : Ending)
    → PlayEnds play c bound steps shown e
    → Holds play c (λ later. Done (record { ending = e; steps = steps; shown = shown }) later)
    ⊎ NextIsOutside play c bound
over_or_outside play c bound steps shown e h = every_ending (λ e. PlayEnds play c bound steps shown e
    → Holds play c (λ later. Done (record { ending = e; steps = steps; shown = shown }) later)
    ⊎ NextIsOutside play c bound) (λ h. inl h) (λ h. inl h) (λ h. inl h) (λ h. inl h) (λ h. inl h) (λ h. inl h)
    (λ h. inl h) (λ h. absurd h) (λ h. inr h) e h

module _ (play : Answers → Outcome Finish (List ℕ)) (r : Recorder) (steps : ℕ) (shown : List ℕ) (most : ℕ)
    (reads : IsReader play most) (plan : Answers) (planned : take r.planned (recorded r) ≡ plan) where
  module _ (opens : is_open (play plan) ≡ true) where
    ended_so : (e : Ending)
        → Holds play (recorder_choices r) (λ later. Done (record { ending = e; steps = steps; shown = shown }) later)
        → PlanEndsWith play plan (recorded r) (given_bounds r) (record { ending = e; steps = steps; shown = shown })
    ended_so e h = rw (← planned) (recorder_ends play r (record { ending = e; steps = steps; shown = shown }) h most
        reads (rw planned opens))

    -- a plan that is open is played to an end
    pub open_ends : (e : Ending) → PlayEnds play (recorder_choices r) r.refused_bound steps shown e
        → PlanEndsWith play plan (recorded r) (given_bounds r) (record { ending = e; steps = steps; shown = shown })
    open_ends e h = elim (over_or_outside play (recorder_choices r) r.refused_bound steps shown e h) [
      | inl over ↦ ended_so e over
      | inr outside ↦
          absurd (let closed : is_open (play plan) ≡ false = ap is_open (ap play (sym planned) ∙ outside.out) in cc)
    ]

  -- a plan that is taken completely, and that nothing follows, is a run
  module _ (taken : length (given_bounds r) ≡ length plan) (alone : length (recorded r) ≡ length plan) where
    all_planned : (recorded r) ≡ plan
    all_planned =
        let within : r.planned ≤ length (recorded r) = omega (arith, r.within, (recorded_len r)) in
        let n : length (take r.planned (recorded r)) ≡ r.planned = length-take-le r.planned (recorded r) within in
        let same : r.planned ≡ length (recorded r) = omega (arith, n, ap length planned, alone) in
        sym (ap (λ n. take n (recorded r)) same ∙ take-length (recorded r)) ∙ planned

    whole_so : (e : Ending)
        → Holds play (recorder_choices r) (λ later. Done (record { ending = e; steps = steps; shown = shown }) later)
        → IsRun play plan × ((recorded r) ≡ plan) × ((given_bounds r) ≡ bounds play plan)
        × (play plan ≡ Done (record { ending = e; steps = steps; shown = shown }) [])
    whole_so e h =
        let n : length (given_bounds r) ≡ length (recorded r) = omega (arith, taken, alone) in
        let all : take (length (given_bounds r)) (recorded r) ≡ plan =
        ap (λ n. take n (recorded r)) n ∙ take-length (recorded r) ∙ all_planned in
        let came : play plan ≡ Done (record { ending = e; steps = steps; shown = shown }) [] =
        ap play (sym (append-nil plan)) ∙ ap (λ t. play (t ++ [])) (sym all) ∙ h.rest [] in (
          ap is_whole came,
          all_planned,
          taken_bounds play r (record { ending = e; steps = steps; shown = shown }) h
              ∙ ap (bounds play) all,
          came,
        )

    too_long : (next : ℤ) (later : Answers) → plan ≡ take (length (given_bounds r)) (recorded r) ++ next ∷ later → ⊥
    too_long next later e =
        let within : length (given_bounds r) ≤ length (recorded r) = omega (arith, taken, alone) in
        omega (
          arith,
          ap length e,
          length-append (take (length (given_bounds r)) (recorded r)) (next ∷ later),
          length-take-le (length (given_bounds r)) (recorded r) within,
          taken,
        )

    pub whole_plan : (e : Ending) → PlayEnds play (recorder_choices r) r.refused_bound steps shown e
        → IsRun play plan × ((recorded r) ≡ plan) × ((given_bounds r) ≡ bounds play plan)
        × (play plan ≡ Done (record { ending = e; steps = steps; shown = shown }) [])
    whole_plan e h = elim (over_or_outside play (recorder_choices r) r.refused_bound steps shown e h) [
      | inl over ↦ whole_so e over
      | inr outside ↦ absurd (too_long outside.next outside.later (sym planned ∙ outside.plan_is))
    ]

  -- a plan of which all answers are taken is open, and the first of the bounds are its own
  module _ (all : length plan ≤ length (given_bounds r)) where
    begun_plan : plan ≡ take (length plan) (recorded r)
    begun_plan =
        let n : length (take r.planned (recorded r)) ≡ r.planned =
        length-take-le r.planned (recorded r) (omega (arith, r.within, (recorded_len r))) in
        sym planned ∙ ap (λ k. take k (recorded r)) (sym n ∙ ap length planned)

    begun_so : (result : Finish) → Holds play (recorder_choices r) (λ later. Done result later)
        → (is_open (play plan) ≡ true) × (take (length plan) (given_bounds r) ≡ bounds play plan)
    begun_so result h =
        let taken = take (length (given_bounds r)) (recorded r) in
        let s = drop (length plan) taken in
        let front : take (length plan) taken ≡ plan =
        take_twice (length plan) (length (given_bounds r)) (recorded r) all ∙ sym begun_plan in
        let is : taken ≡ plan ++ s = sym (take-append-drop (length plan) taken) ∙ ap (λ p. p ++ s) front in
        let came : play taken ≡ Done result [] = ap play (sym (append-nil taken)) ∙ h.rest [] in
        let run : IsRun play (plan ++ s) = ap is_whole (ap play (sym is) ∙ came) in
        let bs : (given_bounds r) ≡ bounds play plan ++ bounds_after play plan s =
        taken_bounds play r result h ∙ ap (bounds play) is ∙ bounds-append play [] plan s in
        let n : length (bounds play plan) ≡ length plan = length-bounds play [] plan in (
          run_open play most reads plan s run,
          ap (take (length plan)) bs ∙ ap (λ k. take k (bounds play plan ++ bounds_after play plan s)) (sym n)
              ∙ take-append-le (length (bounds play plan)) (bounds play plan) (bounds_after play plan s) (omega arith)
              ∙ take-length (bounds play plan),
        )

    pub begun_opens : (e : Ending) → PlayEnds play (recorder_choices r) r.refused_bound steps shown e
        → (is_open (play plan) ≡ true) × (take (length plan) (given_bounds r) ≡ bounds play plan)
    begun_opens e h = elim (over_or_outside play (recorder_choices r) r.refused_bound steps shown e h) [
      | inl over ↦ begun_so _ over
      | inr outside ↦
          let within : length (given_bounds r) ≤ length (recorded r) =
          omega (arith, r.bounded, (recorded_len r), (given_len r)) in
          absurd (omega (
            arith,
            ap length (sym planned ∙ outside.plan_is),
            length-append (take (length (given_bounds r)) (recorded r)) (outside.next ∷ outside.later),
            length-take-le (length (given_bounds r)) (recorded r) within,
            all,
          ))
    ]
