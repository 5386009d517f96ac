-- This file proves the result of showing bytes in two pieces.
-- Main lemma: `both_move`.
use Rattle.std.proofs.Common.{◌≡◌, List, ◌++◌, ℕ, Result, sym, ap, subst, append_assoc}
use Rattle.std.proofs.Math.Path.{fun_ext}
use Rattle.ptb_command.specs.declared.stop.CommandStop.{CommandStop}
use Rattle.ptb_command.specs.Actions.{Action, and_then, goes_on, show}
use Rattle.ptb_command.specs.Devices.{Refusal}
use Rattle.ptb_command.specs.Traces.{Trace, RefinesPart}
use Rattle.ptb_command.specs.Stops.{Stops, RefinesPartTo, Comes}
use Rattle.ptb_command.proofs.Actions.{show_adds, refines_part_on}
use Rattle.ptb_command.proofs.PartRefinement.{refines_part_then}
use Rattle.ptb_command.proofs.Stops.{stops_after, comes_after, stops_under}

shown_twice : (xs ys : List ℕ) → show (xs ++ ys) ≡ and_then (show xs) (λ u. show ys)
shown_twice xs ys =
    fun_ext (λ S. ap (λ (s : List ℕ). goes_on tt (record S { shown = s })) (sym (append_assoc S.shown xs ys)))

module _ (xs ys : List ℕ) where
  pub both_move : {o m n : Trace} → RefinesPart o m (show xs) (goes_on tt) → RefinesPart m n (show ys) (goes_on tt)
      → RefinesPart o n (show (xs ++ ys)) (goes_on tt)
  both_move {o = o} {n = n} a b = subst (λ (f : Action (Unit {0})). RefinesPart o n f (goes_on tt))
      (sym (shown_twice xs ys)) (refines_part_then (refines_part_on (λ u. show ys) a) b)

  pub first_stops : (refused : Refusal → Type 0) (o n : Trace) (e : CommandStop)
      → Stops refused (RefinesPartTo o n (show xs)) n.devices e
      → Stops refused (RefinesPartTo o n (show (xs ++ ys))) n.devices e
  first_stops refused o n e h =
      subst (λ (f : Action (Unit {0})). Stops refused (RefinesPartTo o n f) n.devices e) (sym (shown_twice xs ys))
      (stops_under refused o n (show xs) (λ u. show ys) (λ u. show_adds ys) e h)

  pub second_stops : (refused : Refusal → Type 0) {o m : Trace} (n : Trace) (e : CommandStop)
      → RefinesPart o m (show xs) (goes_on tt) → Stops refused (RefinesPartTo m n (show ys)) n.devices e
      → Stops refused (RefinesPartTo o n (show (xs ++ ys))) n.devices e
  second_stops refused {o = o} n e a h =
      subst (λ (f : Action (Unit {0})). Stops refused (RefinesPartTo o n f) n.devices e) (sym (shown_twice xs ys))
      (stops_after refused n (refines_part_on (λ u. show ys) a) e h)

  pub second_comes : (refused : Refusal → Type 0) {o m : Trace} (n : Trace) → RefinesPart o m (show xs) (goes_on tt)
      → (r : Result (Unit {0}) CommandStop) → Comes refused m n (show ys) goes_on r
      → Comes refused o n (show (xs ++ ys)) goes_on r
  second_comes refused {o = o} n a r h =
      subst (λ (f : Action (Unit {0})). Comes refused o n f goes_on r) (sym (shown_twice xs ys))
      (comes_after refused n goes_on (refines_part_on (λ u. show ys) a) r h)
