-- This file proves which of the items of a list that is played are taken, and which bounds are seen then.
-- Main lemma: `takes_items`.
use Rattle.std.proofs.Common.{◌≡◌, ◌⊎◌, inl, inr, ℕ, ◌+◌, ◌<◌, ◌≤◌, List, [], ◌∷◌, ◌++◌, length}
use Rattle.std.proofs.Common.{take, drop, true, false, refl, ap, sym, subst, ◌∙◌, arith, append-nil}
use Rattle.std.specs.Prelude.{ℤ, Some, slice_index_or}
use Rattle.std.proofs.lemmas.List.{append_cancel_left, length-take-le}
use Rattle.std.proofs.Math.Seq.{take-length}
use Rattle.ptb_answers.specs.declared.form.Marked.{Marked}
use Rattle.ptb_answers.specs.AnswerText.{answers_of}
use Rattle.ptb_answers.specs.Outcome.{Answers, Outcome, Done, IsReader, is_open, is_whole, is_answer, bounds}
use Rattle.ptb_command.specs.declared.ending.Ending.{Ending}
use Rattle.ptb_command.specs.declared.ending.Ending.TheVariants as endings
use Rattle.ptb_machine.specs.Play.{Finish}
use Rattle.ptb_explore.proofs.RecordedAnswers.{recorded_len}
use Rattle.ptb_explore.specs.declared.recorder.Recorder.{Recorder}
use Rattle.ptb_explore.specs.Mismatch.{IsOutOfRange, HasMoreItems, TakesItems}
use Rattle.ptb_explore.specs.MarkedRuns.{states_bounds}
use Rattle.ptb_explore.specs.PlannedPlays.{Holds, PlayEnds, NextIsOutside}
use Rattle.ptb_explore.specs.Recorders.{recorder_choices, given_bounds, recorded}
use Rattle.ptb_explore.proofs.Mismatches.{HasBounds, answers_length, answers_split, answers_take}
use Rattle.ptb_explore.proofs.Mismatches.{no_question, out_of_range, split_there, take_twice}
use Rattle.ptb_explore.proofs.PlayedRecorders.{begun_opens, open_ends, over_or_outside}

-- the plan of the recorder is the answers of a list, and it has come to this ending
module _ (play : Answers → Outcome Finish (List ℕ)) (r : Recorder) (steps : ℕ) (shown : List ℕ) (most : ℕ)
    (reads : IsReader play most) (list : List Marked) (planned : take r.planned (recorded r) ≡ answers_of list) where
  abbrev plan : Answers
  plan = answers_of list

  abbrev count : ℕ
  count = length (given_bounds r)

  plan_count : length plan ≡ length list
  plan_count = answers_length list

  -- all items were taken
  module _ (all : length list ≤ count) (e : Ending)
      (h : PlayEnds play (recorder_choices r) r.refused_bound steps shown e) where
    begun : (is_open (play plan) ≡ true) × (take (length plan) (given_bounds r) ≡ bounds play plan)
    begun = begun_opens play r steps shown most reads plan planned (omega (arith, plan_count)) e h

    pub has_all : HasBounds play plan (given_bounds r)
    has_all =
        let x = open_ends play r steps shown most reads plan planned begun.0 e h in
        record {
          later = x.ones;
          run = ap is_whole (ap play (sym x.answers_are) ∙ x.outcome);
          bounds_are = x.bounds_are ∙ ap (bounds play) x.answers_are;
        }

    pub takes_all : TakesItems play list (given_bounds r) (length list)
    takes_all =
        let is : answers_of (take (length list) list) ≡ plan = ap answers_of (take-length list) in
        record {
          within = omega arith;
          counted = all;
          opens = ap (λ (t : Answers). is_open (play t)) is ∙ begun.0;
          bounds_are = ap (λ n. take n (given_bounds r)) (sym plan_count) ∙ begun.1 ∙ sym (ap (bounds play) is);
        }

  -- one of them was not
  module _ (less : count < length list) where
    abbrev taken : Answers
    taken = take count (recorded r)

    planned_count : length plan ≡ r.planned
    planned_count = sym (ap length planned) ∙ length-take-le r.planned (recorded r)
        (omega (arith, r.within, (recorded_len r)))

    first_taken : answers_of (take count list) ≡ taken
    first_taken = sym (answers_take count list) ∙ ap (take count) (sym planned)
        ∙ take_twice count r.planned (recorded r) (omega (arith, planned_count, plan_count))

    takes_open : is_open (play taken) ≡ true → Some (given_bounds r) ≡ Some (bounds play taken)
        → TakesItems play list (given_bounds r) count
    takes_open opens are =
        let same : (given_bounds r) ≡ bounds play taken = cc in
        record {
          within = omega arith;
          counted = omega arith;
          opens = ap (λ (t : Answers). is_open (play t)) first_taken ∙ opens;
          bounds_are = take-length (given_bounds r) ∙ same ∙ sym (ap (bounds play) first_taken);
        }

    ended_run : (result : Finish) → Holds play (recorder_choices r) (λ later. Done result later)
        → play taken ≡ Done result []
    ended_run result h = ap play (sym (append-nil taken)) ∙ h.rest []

    takes_ended : (result : Finish) → Holds play (recorder_choices r) (λ later. Done result later)
        → TakesItems play list (given_bounds r) count
    takes_ended result h = takes_open (ap is_open (ended_run result h)) h.bounds_are

    takes_outside : (bound : ℤ) → NextIsOutside play (recorder_choices r) bound
        → TakesItems play list (given_bounds r) count
    takes_outside bound h = takes_open (ap is_open h.asks) h.bounds_are

    takes_some : (e : Ending) → PlayEnds play (recorder_choices r) r.refused_bound steps shown e
        → TakesItems play list (given_bounds r) count
    takes_some e h = elim (over_or_outside play (recorder_choices r) r.refused_bound steps shown e h)
        [ inl over ↦ takes_ended _ over | inr outside ↦ takes_outside _ outside ]

    module _ (d : Marked) (states : states_bounds (take count list) (given_bounds r) ≡ true) where
      -- its answer is out of range
      pub stops_outside : NextIsOutside play (recorder_choices r) r.refused_bound
          → IsOutOfRange play list (count + 1) (slice_index_or list count d).answer r.refused_bound
      stops_outside h =
          let next = (slice_index_or list count d).answer in
          let rest = answers_of (drop (count + 1) list) in
          let split : plan ≡ taken ++ next ∷ rest =
          ap answers_of (split_there list count d less) ∙ answers_split (take count list) (drop (count + 1) list)
          (slice_index_or list count d) ∙ ap (λ (t : Answers). t ++ next ∷ rest) first_taken in
          let tails : h.next ∷ h.later ≡ next ∷ rest =
          append_cancel_left taken (h.next ∷ h.later) (next ∷ rest) (sym h.plan_is ∙ planned ∙ split) in
          let same : h.next ≡ next = cc in
          out_of_range play most reads list (given_bounds r) count (takes_outside _ h) d less states r.refused_bound
          h.beside
          (ap play first_taken ∙ h.asks) (subst (λ (k : ℤ). is_answer r.refused_bound k ≡ false) same h.outside)

      -- the run is over before it
      stops_ended : (result : Finish) → Holds play (recorder_choices r) (λ later. Done result later)
          → HasMoreItems play list count
      stops_ended result h = no_question play most reads list (given_bounds r) count
          (takes_ended result h) d less states (ap is_whole (ap play first_taken ∙ ended_run result h))

      pub stops_over : (e : Ending) → (e ≡ endings.BadAnswer → ⊥)
          → PlayEnds play (recorder_choices r) r.refused_bound steps shown e → HasMoreItems play list count
      stops_over endings.End other h = stops_ended _ h
      stops_over endings.Stop other h = stops_ended _ h
      stops_over endings.What other h = stops_ended _ h
      stops_over endings.How other h = stops_ended _ h
      stops_over endings.Sorry other h = stops_ended _ h
      stops_over endings.Limit other h = stops_ended _ h
      stops_over endings.NoInput other h = stops_ended _ h
      stops_over endings.NoAnswer other h = absurd h
      stops_over endings.BadAnswer other h = absurd (other refl)

  -- as many were taken as there are bounds, or all
  pub takes_items : (n : ℕ) → ((n ≡ length list) × (length list ≤ count)) ⊎ ((n ≡ count) × (count < length list))
      → (e : Ending) → PlayEnds play (recorder_choices r) r.refused_bound steps shown e
      → TakesItems play list (given_bounds r) n
  takes_items n (inl all) e h = subst (TakesItems play list (given_bounds r)) (sym all.0) (takes_all all.1 e h)
  takes_items n (inr some) e h = subst (TakesItems play list (given_bounds r)) (sym some.0) (takes_some some.1 e h)
