-- This file proves that a plan that stops after n answers is played to a run of what is stopped there.
-- Main lemma: `beginning_ends`.
use Rattle.std.proofs.Common.{◌≡◌, ℕ, zero, suc, ◌+◌, ◌-◌, ◌≤◌, List, [], ◌∷◌, ◌++◌, length, take, drop}
use Rattle.std.proofs.Common.{inl, inr, replicate, Some, true, false, refl, ap, sym, subst, ◌∙◌, arith}
use Rattle.std.proofs.Common.{append_assoc, append-nil, length-append, vec_len}
use Rattle.std.specs.Prelude.{ℤ, pos, ◌+ℤ◌, int_le, slice_index_or}
use Rattle.std.proofs.lemmas.Bool.{and_from}
use Rattle.std.proofs.lemmas.Int.{ints}
use Rattle.std.proofs.lemmas.List.{length-replicate, take-append-drop, take-append-le, length-take-le}
use Rattle.ptb_answers.specs.Outcome.{Answers, Outcome, Done, Asks, Out, IsReader, bounds, is_answer, is_open, is_whole}
use Rattle.ptb_command.specs.declared.ending.Ending.{Ending}
use Rattle.ptb_machine.specs.Play.{Finish}
use Rattle.ptb_explore.specs.declared.plan.ListingPosition.{ListingPosition}
use Rattle.ptb_explore.specs.declared.plan.ListingPosition.TheVariants.{AtStart, AtRun, AtEnd}
use Rattle.ptb_explore.specs.declared.recorder.Recorder.{Recorder}
use Rattle.ptb_explore.specs.Beginnings.{stopped}
use Rattle.ptb_explore.specs.Copies.{Agrees}
use Rattle.ptb_explore.specs.Plans.{PlanEndsWith, IsPosition, PlansNext, stopping_plan}
use Rattle.ptb_explore.specs.PlannedPlays.{Holds, NextIsOutside, PlayEnds}
use Rattle.ptb_explore.specs.Recorders.{recorder_choices, given_bounds, recorded}
use Rattle.ptb_machine.specs.RunTree.{IsRun}
use Rattle.ptb_explore.proofs.PlayedPlans.{all_ones, out_closes, run_closes}
use Rattle.ptb_explore.proofs.RaisedAnswers.{plan_begins}
use Rattle.ptb_explore.proofs.StoppedPlays.{asking_run, bounds_within, open_within, run_within, whole_run}
use Rattle.ptb_explore.proofs.Tree.{run_asks}
use Rattle.ptb_explore.proofs.PlayedRecorders.{over_or_outside}

-- ---- the first answers of a plan that stops

-- some of the plan's, all of them and so many ones, or also what answers no question
data Cut (plan : Answers) (m : ℕ) (t : Answers) : Type 0 where
  Short : (x : ℤ) (s : Answers) → plan ≡ t ++ x ∷ s → Cut plan m t
  Ones : (j : ℕ) → j ≤ m → t ≡ plan ++ replicate j (pos 1) → Cut plan m t
  Long : (s : Answers) → t ≡ (plan ++ replicate m (pos 1)) ++ pos 0 ∷ s → Cut plan m t

head_is : (x y : ℤ) (a b : Answers) → x ∷ a ≡ y ∷ b → x ≡ y
head_is x y a b e = cc

tail_is : (x y : ℤ) (a b : Answers) → x ∷ a ≡ y ∷ b → a ≡ b
tail_is x y a b e = cc

not_nil : {P : Type 0} (t s : Answers) (x : ℤ) → [] ≡ t ++ x ∷ s → P
not_nil t s x e = absurd (omega (arith, ap length e, length-append t (x ∷ s)))

more_cut : (p y : ℤ) (plan : Answers) (m : ℕ) (t : Answers) → p ≡ y → Cut plan m t → Cut (p ∷ plan) m (y ∷ t)
more_cut p y plan m t e (Short x s h) = Short x s (ap (λ z. z ∷ plan) e ∙ ap (λ z. y ∷ z) h)
more_cut p y plan m t e (Ones j l h) = Ones j l (ap (λ z. z ∷ t) (sym e) ∙ ap (λ z. p ∷ z) h)
more_cut p y plan m t e (Long s h) = Long s (ap (λ z. z ∷ t) (sym e) ∙ ap (λ z. p ∷ z) h)

one_cut : (y : ℤ) (m : ℕ) (t : Answers) → pos 1 ≡ y → Cut [] m t → Cut [] (suc m) (y ∷ t)
one_cut y m t e (Short x s h) = not_nil t s x h
one_cut y m t e (Ones j l h) = Ones (suc j) (omega (arith, l)) (ap (λ z. z ∷ t) (sym e) ∙ ap (λ z. pos 1 ∷ z) h)
one_cut y m t e (Long s h) = Long s (ap (λ z. z ∷ t) (sym e) ∙ ap (λ z. pos 1 ∷ z) h)

cut_taken : (plan : Answers) (m : ℕ) (t rest later : Answers) → plan ++ replicate m (pos 1) ++ pos 0 ∷ later ≡ t ++ rest
    → Cut plan m t
cut_taken [] m [] rest later e = Ones 0 (omega arith) refl
cut_taken [] zero (y ∷ t) rest later e = Long t (ap (λ z. z ∷ t) (sym (head_is (pos 0) y later (t ++ rest) e)))
cut_taken [] (suc m) (y ∷ t) rest later e =
    one_cut y m t (head_is (pos 1) y (replicate m (pos 1) ++ pos 0 ∷ later) (t ++ rest) e)
    (cut_taken [] m t rest later (tail_is (pos 1) y (replicate m (pos 1) ++ pos 0 ∷ later) (t ++ rest) e))
cut_taken (p ∷ plan) m [] rest later e = Short p plan refl
cut_taken (p ∷ plan) m (y ∷ t) rest later e =
    more_cut p y plan m t (head_is p y (plan ++ replicate m (pos 1) ++ pos 0 ∷ later) (t ++ rest) e)
    (cut_taken plan m t rest later (tail_is p y (plan ++ replicate m (pos 1) ++ pos 0 ∷ later) (t ++ rest) e))

-- what comes after them in it: an answer of the plan, a one, or what answers no question
data Next (plan : Answers) (m : ℕ) (t : Answers) (x : ℤ) : Type 0 where
  InPlan : (s : Answers) → plan ≡ t ++ x ∷ s → Next plan m t x
  IsOne : x ≡ pos 1 → Next plan m t x
  IsNone : t ≡ plan ++ replicate m (pos 1) → Next plan m t x

more_next : (p y x : ℤ) (plan : Answers) (m : ℕ) (t : Answers) → p ≡ y → Next plan m t x → Next (p ∷ plan) m (y ∷ t) x
more_next p y x plan m t e (InPlan s h) = InPlan s (ap (λ z. z ∷ plan) e ∙ ap (λ z. y ∷ z) h)
more_next p y x plan m t e (IsOne h) = IsOne h
more_next p y x plan m t e (IsNone h) = IsNone (ap (λ z. z ∷ t) (sym e) ∙ ap (λ z. p ∷ z) h)

one_next : (y x : ℤ) (m : ℕ) (t : Answers) → pos 1 ≡ y → Next [] m t x → Next [] (suc m) (y ∷ t) x
one_next y x m t e (InPlan s h) = not_nil t s x h
one_next y x m t e (IsOne h) = IsOne h
one_next y x m t e (IsNone h) = IsNone (ap (λ z. z ∷ t) (sym e) ∙ ap (λ z. pos 1 ∷ z) h)

next_is : (plan : Answers) (m : ℕ) (t later : Answers) (x : ℤ)
    → plan ++ replicate m (pos 1) ++ pos 0 ∷ [] ≡ t ++ x ∷ later → Next plan m t x
next_is [] zero [] later x e = IsNone refl
next_is [] zero (y ∷ t) later x e = not_nil t later x (tail_is (pos 0) y [] (t ++ x ∷ later) e)
next_is [] (suc m) [] later x e = IsOne (sym (head_is (pos 1) x (replicate m (pos 1) ++ pos 0 ∷ []) later e))
next_is [] (suc m) (y ∷ t) later x e =
    one_next y x m t (head_is (pos 1) y (replicate m (pos 1) ++ pos 0 ∷ []) (t ++ x ∷ later) e)
    (next_is [] m t later x (tail_is (pos 1) y (replicate m (pos 1) ++ pos 0 ∷ []) (t ++ x ∷ later) e))
next_is (p ∷ plan) m [] later x e =
    InPlan plan (ap (λ z. z ∷ plan) (head_is p x (plan ++ replicate m (pos 1) ++ pos 0 ∷ []) later e))
next_is (p ∷ plan) m (y ∷ t) later x e =
    more_next p y x plan m t (head_is p y (plan ++ replicate m (pos 1) ++ pos 0 ∷ []) (t ++ x ∷ later) e)
    (next_is plan m t later x (tail_is p y (plan ++ replicate m (pos 1) ++ pos 0 ∷ []) (t ++ x ∷ later) e))

-- ---- such a plan was played

whole_unit : {W : Type 0} (o : Outcome (Unit {0}) W) → is_whole o ≡ true → o ≡ Done tt []
whole_unit (Done x []) h = refl
whole_unit (Done x (k ∷ rest)) h = absurd cc
whole_unit (Asks n w) h = absurd cc
whole_unit (Out n w) h = absurd cc

module _ (play : Answers → Outcome Finish (List ℕ)) (most : ℕ) (reads : IsReader play most) (n : ℕ) (plan : Answers)
    (fits : length plan ≤ n) (opens : is_open (stopped n play plan) ≡ true)
    (r : Recorder) (planned : take r.planned (recorded r) ≡ stopping_plan n plan) where
  abbrev taken : Answers
  taken = take (length (given_bounds r)) (recorded r)

  abbrev ones : ℕ
  ones = n - length plan

  open_plan : is_open (play plan) ≡ true
  open_plan = open_within play n plan fits opens

  cut : Cut plan ones taken
  cut =
      let later : Answers = replicate (vec_len r.asked - r.planned) (pos 1) in
      let all : (recorded r) ≡ plan ++ replicate ones (pos 1) ++ pos 0 ∷ later =
      r.later_one ∙ ap (λ p. p ++ later) planned ∙ append_assoc (plan ++ replicate ones (pos 1)) (pos 0 ∷ []) later in
      cut_taken plan ones taken (drop (length (given_bounds r)) (recorded r)) later
      (sym all ∙ sym (take-append-drop (length (given_bounds r)) (recorded r)))

  taken_length : (j : ℕ) → taken ≡ plan ++ replicate j (pos 1) → length taken ≡ length plan + j
  taken_length j e = omega (
    arith,
    ap length e,
    length-append plan (replicate j (pos 1)),
    length-replicate j (pos 1),
  )

  ends_with : (j : ℕ) → j ≤ ones → taken ≡ plan ++ replicate j (pos 1) → IsRun (stopped n play) taken
      → (given_bounds r) ≡ bounds play taken → PlanEndsWith (stopped n play) plan taken (given_bounds r) tt
  ends_with j l e run b = record {
    ones = replicate j (pos 1);
    all_ones = all_ones j;
    answers_are = e;
    outcome = whole_unit (stopped n play taken) run;
    bounds_are = b ∙ sym (bounds_within play n [] taken (omega (arith, run_within play n most reads taken run)));
  }

  -- it came to an end
  ended : (result : Finish) → Holds play (recorder_choices r) (λ later. Done result later)
      → PlanEndsWith (stopped n play) plan taken (given_bounds r) tt
  ended result h = by_cut cut
    where
      done : play taken ≡ Done result []
      done = ap play (sym (append-nil taken)) ∙ h.rest []

      by_cut : Cut plan ones taken → PlanEndsWith (stopped n play) plan taken (given_bounds r) tt
      by_cut (Short x s e) =
          absurd (run_closes play most reads taken s x result done (subst (λ a. is_open (play a) ≡ true) e open_plan))
      by_cut (Ones j l e) =
          let few : length taken ≤ n = omega (arith, taken_length j e, l, fits) in
          let theirs : (given_bounds r) ≡ bounds play taken = (let k = h.bounds_are in cc) in
          ends_with j l e (whole_run play n most reads taken few (ap is_whole done)) theirs
      by_cut (Long s e) =
          let asked = run_asks play most reads (plan ++ replicate ones (pos 1)) s (pos 0)
          (subst (λ a. IsRun play a) e (ap is_whole done)) in
          let none : is_answer asked.0 (pos 0) ≡ true = asked.3 in
          absurd cc

  -- it was stopped
  stopped_there : NextIsOutside play (recorder_choices r) r.refused_bound
      → PlanEndsWith (stopped n play) plan taken (given_bounds r) tt
  stopped_there h = by_next (next_is plan ones taken h.later h.next (sym planned ∙ h.plan_is))
    where
      by_next : Next plan ones taken h.next → PlanEndsWith (stopped n play) plan taken (given_bounds r) tt
      by_next (InPlan s e) =
          absurd (out_closes play most reads plan taken s h.next r.refused_bound h.beside e h.asks h.outside open_plan)
      by_next (IsOne e) =
          let least = reads.positive taken r.refused_bound h.beside h.asks in
          let one : is_answer r.refused_bound (pos 1) ≡ true =
          and_from (int_le (pos 1) (pos 1)) (int_le (pos 1) r.refused_bound) refl (grind (arith, ints)) in
          let other : is_answer r.refused_bound (pos 1) ≡ false = ap (is_answer r.refused_bound) (sym e) ∙ h.outside in
          absurd cc
      by_next (IsNone e) =
          let all : length taken ≡ n = omega (arith, taken_length ones e, fits) in
          let theirs : (given_bounds r) ≡ bounds play taken = (let k = h.bounds_are in cc) in
          ends_with ones (omega arith) e (asking_run play n most reads taken r.refused_bound h.beside all h.asks) theirs

  pub beginning_ends : (steps : ℕ) (shown : List ℕ) (e : Ending)
      → PlayEnds play (recorder_choices r) r.refused_bound steps shown e
      → PlanEndsWith (stopped n play) plan taken (given_bounds r) tt
  beginning_ends steps shown e h = elim (over_or_outside play (recorder_choices r) r.refused_bound steps shown e h)
      [ inl over ↦ ended _ over | inr outside ↦ stopped_there outside ]

-- ---- the plan of the next list

module _ (play : Answers → Outcome Finish (List ℕ)) (most : ℕ) (reads : IsReader play most) (n : ℕ) where
  -- it has at most n answers, and those that it has in common with the list before
  pub plan_fits : (position : ListingPosition) (answers plan : Answers) (bounded : List ℤ) (i : ℕ)
      → IsPosition (stopped n play) [] position answers bounded → PlansNext [] position answers bounded plan (Some i)
      → (length plan ≤ n) × (i ≤ length plan)
  plan_fits AtStart answers plan bounded i s p = let none : length plan ≡ 0 = ap length p.1 in
      (omega (arith, none), omega (arith, p.0))
  plan_fits AtRun answers plan bounded i s p =
      let within = p.0.within in
      let few = run_within play n most reads answers s.0 in
      let front = length-take-le i answers (omega (arith, within)) in
      let size = ap length p.1 in
      let both = length-append (take i answers) ((slice_index_or answers i (pos 0) +ℤ pos 1) ∷ []) in
      (omega (arith, within, few, front, size, both), omega (arith, within, front, size, both))
  plan_fits AtEnd answers plan bounded i s p = absurd p

  pub beginning_agrees : (position : ListingPosition) (answers plan : Answers) (bounded : List ℤ) (i : ℕ)
      → IsPosition (stopped n play) [] position answers bounded → PlansNext [] position answers bounded plan (Some i)
      → Agrees play i plan answers bounded
  beginning_agrees AtStart answers plan bounded i s p = rw p.0 (omega arith, refl, refl)
  beginning_agrees AtRun answers plan bounded i s p =
      let b = plan_begins [] answers plan bounded i p in (
        b.0,
        b.1,
        ap (take i)
            (s.1 ∙ bounds_within play n [] answers (omega (arith, run_within play n most reads answers s.0))),
      )
  beginning_agrees AtEnd answers plan bounded i s p = absurd p

-- the plan that stops begins as the plan does
pub stopping_agrees : (play : Answers → Outcome Finish (List ℕ)) (n i : ℕ) (plan answers stopping : Answers)
    (bounded : List ℤ)
    → i ≤ length plan → stopping ≡ stopping_plan n plan → Agrees play i plan answers bounded
    → Agrees play i stopping answers bounded
stopping_agrees play n i plan answers stopping bounded l e h = (
  h.0,
  ap (take i) e ∙ take-append-le i (plan ++ replicate (n - length plan) (pos 1))
      (pos 0 ∷ []) (omega (arith, l, length-append plan (replicate (n - length plan) (pos 1))))
      ∙ take-append-le i plan (replicate (n - length plan) (pos 1)) l ∙ h.1,
  h.2,
)
