-- This file proves from which of the copies the run of the next plan continues.
-- Main lemma: `on_prefix`.
use Rattle.std.proofs.Common.{◌≡◌, ℕ, ◌-◌, ◌≤◌, List, [], ◌∷◌, ◌++◌, length, take, drop, Some, refl}
use Rattle.std.proofs.Common.{ap, sym, subst, ◌∙◌, arith, append_assoc}
use Rattle.std.specs.Prelude.{ℤ, pos, ◌+ℤ◌, slice_index_or}
use Rattle.std.proofs.lemmas.Int.{ints}
use Rattle.ptb_answers.specs.declared.rules.Rules.{Rules}
use Rattle.ptb_text.specs.Statements.{StoredProgram}
use Rattle.ptb_answers.specs.Outcome.{Answers, Outcome, bounds}
use Rattle.ptb_answers.specs.Choices.{Choices}
use Rattle.ptb_devices.specs.Sources.{LineList}
use Rattle.ptb_command.specs.Configuration.{Configuration}
use Rattle.ptb_machine.specs.Play.{play}
use Rattle.ptb_answers.specs.AskedQuestions.{answers_in, bounds_in}
use Rattle.ptb_explore.specs.declared.copies.KeptCopy.{KeptCopy}
use Rattle.ptb_explore.specs.declared.plan.ListingPosition.{ListingPosition}
use Rattle.ptb_explore.specs.declared.plan.ListingPosition.TheVariants.{AtStart, AtRun, AtEnd}
use Rattle.ptb_explore.specs.declared.report.Report.{Report}
use Rattle.ptb_explore.specs.Copies.{machine_of, taken_choices, AreCopies, ArePlaces, Agrees}
use Rattle.ptb_explore.specs.Copies.{kept_runs, kept_steps, WentBack, last_steps, PlaysOn}
use Rattle.ptb_explore.specs.Copies.{more_played}
use Rattle.ptb_explore.specs.Explorations.{AreCopiesAt, AreKeptAt}
use Rattle.ptb_explore.specs.PlannedPlays.{IsRunPrefix}
use Rattle.ptb_explore.specs.Plans.{IsPosition, PlansNext, front_at}
use Rattle.ptb_explore.proofs.KeptCopies.{GoesOn, agreed_bounds, agreed_len, agreed_taken}
use Rattle.ptb_explore.proofs.KeptCopies.{kept_beginnings, kept_none, kept_places, kept_same}
use Rattle.ptb_explore.proofs.KeptCopies.{stands_machine, steps_after}
use Rattle.ptb_explore.proofs.RaisedAnswers.{plan_begins}
use Rattle.ptb_explore.proofs.RunPrefix.{prefix_to}

-- the plan begins as the run does at which the listing is
pub next_agrees : {A W : Type 0} (play : Answers → Outcome A W) (under : Answers) (position : ListingPosition)
    (answers plan : Answers) (bounded : List ℤ) (i : ℕ)
    → IsPosition play under position answers bounded → PlansNext under position answers bounded plan (Some i)
    → Agrees play i plan answers bounded
next_agrees play under AtStart answers plan bounded i s n = rw n.0 (omega arith, refl, refl)
next_agrees play under AtRun answers plan bounded i s n =
    let b = plan_begins under answers plan bounded i n in
    (b.0, b.1, ap (take i) s.1)
next_agrees play under AtEnd answers plan bounded i s n = absurd n

front_none : {X : Type 0} (xs ys : List X) → [] ≡ xs ++ ys → xs ≡ []
front_none [] ys e = refl
front_none (x ∷ xs) ys e = absurd cc

module _ (p : StoredProgram) (input : List (List ℕ)) (rules : Rules) where
  pub position_copies : (position : ListingPosition) (r : Report) (ks : List KeptCopy)
      → AreCopiesAt p input rules position r ks
      → AreCopies p input rules (answers_in r.asked.items) r.transcript.items ks
  position_copies AtStart r ks h = kept_none p input rules (answers_in r.asked.items) r.transcript.items ks h
  position_copies AtRun r ks h = h
  position_copies AtEnd r ks h = kept_none p input rules (answers_in r.asked.items) r.transcript.items ks h

  pub none_at : (position : ListingPosition) (r : Report) (ks : List KeptCopy) → ks ≡ []
      → AreCopiesAt p input rules position r ks
  none_at AtStart r ks e = e
  none_at AtRun r ks e = kept_none p input rules (answers_in r.asked.items) r.transcript.items ks e
  none_at AtEnd r ks e = e

  -- what contracts see of them
  pub kept_at : (position : ListingPosition) (r : Report) (ks : List KeptCopy) → AreCopiesAt p input rules position r ks
      → AreKeptAt (front_at position (answers_in r.asked.items)) (kept_runs (answers_in r.asked.items) ks)
  kept_at AtStart r ks h = ap (kept_runs (answers_in r.asked.items)) h
  kept_at AtRun r ks h = kept_beginnings p input rules (answers_in r.asked.items) r.transcript.items ks h
  kept_at AtEnd r ks h = ap (kept_runs (answers_in r.asked.items)) h

  pub places_at : (position : ListingPosition) (r : Report) (ks : List KeptCopy)
      → AreCopiesAt p input rules position r ks
      → ArePlaces p input rules (kept_runs (answers_in r.asked.items) ks)
  places_at position r ks h = kept_places p input rules (answers_in r.asked.items) r.transcript.items 0 0 ks
      (position_copies position r ks h)

  -- what is left of the copies ends with the newest that the next answers begin with
  next_steps : (under : Answers) (position : ListingPosition) (r : Report) (plan ones answers : Answers) (i : ℕ)
      (old left : List KeptCopy)
      → PlansNext under position (answers_in r.asked.items) (bounds_in r.asked.items) plan (Some i)
      → AreCopiesAt p input rules position r old → answers ≡ plan ++ ones → WentBack i old left
      → kept_steps answers (kept_runs (answers_in r.asked.items) old) ≡ last_steps left
  next_steps under AtStart r plan ones answers i old left n h e back =
      let none : left ≡ [] = front_none left back.0.dropped (sym h ∙ back.0.split) in
      rw (h, none) refl
  next_steps under AtRun r plan ones answers i old left n h e back =
      let a = (answers_in r.asked.items) in
      let y = slice_index_or a i (pos 0) +ℤ pos 1 in
      let is : answers ≡ take i a ++ y ∷ ones = e ∙ ap (λ s. s ++ ones) n.1 ∙ append_assoc (take i a) (y ∷ []) ones in
      rw is (steps_after p input rules i a ones y n.0.within (omega (arith, ints)) r.transcript.items old left h back)
  next_steps under AtEnd r plan ones answers i old left n h e back = absurd n

  -- so many steps are played
  pub next_played : (under : Answers) (position : ListingPosition) (r : Report) (plan ones answers : Answers) (i : ℕ)
      (old : List KeptCopy) (played steps new : ℕ)
      → PlansNext under position (answers_in r.asked.items) (bounds_in r.asked.items) plan (Some i)
      → AreCopiesAt p input rules position r old → answers ≡ plan ++ ones → PlaysOn i old played steps new
      → new ≡ more_played played (steps - kept_steps answers (kept_runs (answers_in r.asked.items) old))
  next_played under position r plan ones answers i old played steps new n h e plays =
      plays.2 ∙ ap (λ k. more_played played (steps - k))
      (sym (next_steps under position r plan ones answers i old plays.0 n h e plays.1))

-- ---- where the run continues from a copy

module _ (p : StoredProgram) (input : List (List ℕ)) (rules : Rules) (most : ℕ) (plan answers : Answers)
    (bounded : List ℤ) (w : List ℕ) (left : List KeptCopy) (j : KeptCopy)
    (agrees : Agrees (play p input rules) most plan answers bounded)
    (on : GoesOn p input rules most answers w left j) where
  pub on_len : j.taken ≤ length bounded
  on_len = agreed_len (play p input rules) most j.taken plan answers bounded agrees on.few

  -- a recorder with the plan has the copy's answers, once it has their bounds
  module _ (given : List ℤ) (all : Answers) (bounds_are : given ≡ take j.taken bounded) (plan_is : all ≡ plan) where
    pub on_taken : take (length given) all ≡ take j.taken answers
    on_taken = agreed_taken (play p input rules) most j.taken plan answers bounded agrees on.few given all bounds_are
        plan_is

    on_kept : given ≡ bounds (play p input rules) (take (length given) all)
    on_kept = bounds_are ∙ agreed_bounds (play p input rules) most j.taken plan answers bounded agrees on.few
        ∙ sym (ap (bounds (play p input rules)) on_taken)

    pub on_prefix : (planned : Answers) (shown : List ℕ) (source : LineList) (m : Configuration)
        → shown ≡ take j.shown w → source ≡ record { lines = input; taken = j.lines } → machine_of j ≡ Some m
        → IsRunPrefix p input rules (record { plan = planned; taken = take (length given) all; kept = Some given })
        shown (drop source.taken source.lines) m
    on_prefix planned shown source m shown_is source_is machine_is =
        let d : Choices = record { plan = planned; taken = take (length given) all; kept = Some given } in
        let at = stands_machine p input rules j (take j.taken answers) (take j.shown w) m on.stands machine_is in
        subst (λ (n : Configuration). IsRunPrefix p input rules d shown (drop source.taken source.lines) n) at
        (prefix_to p input rules (taken_choices (play p input rules) (take j.taken answers)) d (take j.shown w) shown
        (drop j.lines input) (drop source.taken source.lines) on.stands.machine on.stands.run_prefix
        (sym on_taken) (ap Some on_kept) (sym shown_is) (sym (ap (λ (s : LineList). drop s.taken s.lines) source_is)))

    pub on_copies : (shown : List ℕ) → shown ≡ take j.shown w
        → AreCopies p input rules (take (length given) all) shown left
    on_copies shown shown_is = kept_same p p input input rules (take j.taken answers) (take (length given) all)
        (take j.shown w) shown left left refl refl on_taken shown_is refl on.copies
