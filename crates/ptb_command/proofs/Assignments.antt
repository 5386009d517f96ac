-- This file proves the results of the assignments of LET.
-- Main lemma: `assign_refines_part`.
use Rattle.std.proofs.Common.{◌≡◌, ℕ, Bool, List, [], ◌∷◌, ℤ, sym, ap, subst, ◌∙◌}
use Rattle.ptb_expr.specs.declared.store.Target.{Target}
use Rattle.ptb_expr.specs.Store.{Cells}
use Rattle.ptb_expr.specs.Tree.{Tree}
use Rattle.ptb_expr.specs.Value.{value, with_target}
use Rattle.ptb_command.specs.declared.stop.CommandStop.{CommandStop}
use Rattle.ptb_command.specs.Commands.{Part, Assign}
use Rattle.ptb_command.specs.State.{State}
use Rattle.ptb_command.specs.Actions.{Action, and_then, goes_on}
use Rattle.ptb_command.specs.Act.{value_action, target_action, store, parts_action}
use Rattle.ptb_command.specs.Devices.{Devices, no_exchange, Refusal}
use Rattle.ptb_command.specs.Traces.{Trace, trace, with_pending, state_after, once_shown, RefinesPart}
use Rattle.ptb_command.specs.Stops.{Stops, RefinesPartTo}
use Rattle.ptb_command.proofs.Effects.{begins_itself, takes_itself}
use Rattle.ptb_command.proofs.Exchanges.{exchanges_none}
use Rattle.ptb_command.proofs.PartRefinement.{leaves_to, leaves_itself, after_nothing}
use Rattle.ptb_command.proofs.PartRefinement.{freshens_nothing, refines_part_then}
use Rattle.ptb_command.proofs.Stops.{Adds, parts_add, stops_after, stops_under}
use Rattle.ptb_command.proofs.Actions.{then_adds, work_action_adds, refines_part_on}

-- a value is stored
pub store_refines_part : (d : Devices) (fresh : Bool) (pending : List ℕ) (c e : Cells) (at : Target) (v : ℤ)
    → e ≡ with_target c at v
    → RefinesPart (with_pending pending (trace d fresh c)) (with_pending pending (trace d fresh e)) (store at v)
    (goes_on tt)
store_refines_part d fresh pending c e at v k = record {
  exchange = no_exchange;
  exchanges = exchanges_none d;
  fresh = freshens_nothing fresh;
  leaves = λ S rest _ f.
      let stored : record S { cells = with_target S.cells at v } ≡ state_after (trace d fresh e) [] rest S =
      ap (λ (x : Cells). record S { cells = with_target x at v }) f.cells
      ∙ ap (λ (x : Cells). record S { cells = x }) (sym k)
      ∙ ap (λ (T : State). record T { cells = e }) (after_nothing (with_pending pending (trace d fresh c)) rest S f) in
      leaves_to (goes_on tt (once_shown pending (state_after (trace d fresh e) [] rest S)))
      (ap (λ T. goes_on tt (once_shown pending T)) stored) (leaves_itself (store at v (once_shown pending S)));
}

pub store_adds : (at : Target) (v : ℤ) → Adds (store at v)
store_adds at v = record { at = λ S a. record { shown = begins_itself S.shown; lines = takes_itself S.lines } }

-- before these parts, with this width and these operands so far
module _ (rest : List Part) (w : ℕ) (operands : List ℤ) where
  store_next : Target → ℤ → Action (List ℤ)
  store_next at v = and_then (store at v) (λ u. parts_action rest w operands)

  store_next_adds : (at : Target) (v : ℤ) → Adds (store_next at v)
  unfolding store_next
  store_next_adds at v = then_adds (store at v) (λ u. parts_action rest w operands) (store_adds at v)
      (λ u. parts_add rest w operands)

  value_next : Tree → Target → Action (List ℤ)
  value_next y at = and_then (value_action y) (store_next at)

  value_next_adds : (y : Tree) (at : Target) → Adds (value_next y at)
  unfolding value_next
  value_next_adds y at = then_adds (value_action y) (store_next at) (work_action_adds (λ c. value c y))
      (store_next_adds at)

  target_first : {o m : Trace} (x y : Tree) (at : Target) → RefinesPart o m (target_action x) (goes_on at)
      → RefinesPart o m (parts_action (Assign x y ∷ rest) w operands) (value_next y at)
  unfolding parts_action value_next store_next
  target_first x y at a = refines_part_on (value_next y) a

  value_then : {o m n : Trace} (x y : Tree) (at : Target) (v : ℤ) → RefinesPart o m (target_action x) (goes_on at)
      → RefinesPart m n (value_action y) (goes_on v)
      → RefinesPart o n (parts_action (Assign x y ∷ rest) w operands) (store_next at v)
  unfolding value_next
  value_then x y at v a b = refines_part_then (target_first x y at a) (refines_part_on (store_next at) b)

  -- the code has the value v as u
  pub assign_refines_part : {o m k n : Trace} (x y : Tree) (at : Target) (v u : ℤ) → u ≡ v
      → RefinesPart o m (target_action x) (goes_on at) → RefinesPart m k (value_action y) (goes_on v)
      → RefinesPart k n (store at u) (goes_on tt)
      → RefinesPart o n (parts_action (Assign x y ∷ rest) w operands) (parts_action rest w operands)
  unfolding store_next
  assign_refines_part {k = k} {n = n} x y at v u e a b s =
      refines_part_then (value_then x y at v a b) (refines_part_on (λ u. parts_action rest w operands)
      (subst (λ (z : ℤ). RefinesPart k n (store at z) (goes_on tt)) e s))

  -- its variable stops it
  pub assign_target_stops : (refused : Refusal → Type 0) (o n : Trace) (x y : Tree) (e : CommandStop)
      → Stops refused (RefinesPartTo o n (target_action x)) n.devices e
      → Stops refused (RefinesPartTo o n (parts_action (Assign x y ∷ rest) w operands)) n.devices e
  unfolding parts_action value_next store_next
  assign_target_stops refused o n x y e h =
      stops_under refused o n (target_action x) (value_next y) (value_next_adds y) e h

  -- its value stops it
  pub assign_value_stops : (refused : Refusal → Type 0) {o m : Trace} (n : Trace) (x y : Tree) (at : Target)
      (e : CommandStop)
      → RefinesPart o m (target_action x) (goes_on at) → Stops refused (RefinesPartTo m n (value_action y)) n.devices e
      → Stops refused (RefinesPartTo o n (parts_action (Assign x y ∷ rest) w operands)) n.devices e
  unfolding value_next
  assign_value_stops refused {m = m} n x y at e a h =
      stops_after refused n (target_first x y at a) e
      (stops_under refused m n (value_action y) (store_next at) (store_next_adds at) e h)
