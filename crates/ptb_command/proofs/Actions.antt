-- This file proves how actions that follow one another move and stop.
-- Main lemma: `refines_part_on`.
use Rattle.std.proofs.Common.{◌≡◌, ℕ, List, Result, Ok, Err, refl, sym, subst}
use Rattle.ptb_expr.specs.declared.fault.Fault.{Fault}
use Rattle.ptb_expr.specs.declared.fault.FaultKind.{FaultKind}
use Rattle.ptb_expr.specs.Store.{Cells}
use Rattle.ptb_expr.specs.Value.{Work, fault, or_fault}
use Rattle.ptb_command.specs.declared.stop.CommandStop.{CommandStop}
use Rattle.ptb_command.specs.declared.stop.CommandStop.TheVariants as stops
use Rattle.ptb_command.specs.Actions.{Faults, Halt, Action, and_then, goes_on, halt, show, evaluation}
use Rattle.ptb_command.specs.Actions.{or_halt, work_action}
use Rattle.ptb_command.specs.Devices.{Refusal, nothing_refused}
use Rattle.ptb_command.specs.Traces.{Trace, with_pending, still_pending, RefinesPart}
use Rattle.ptb_command.specs.Stops.{Stops, RefinesPartTo}
use Rattle.ptb_command.proofs.PendingBytes.{stops_pending}
use Rattle.ptb_command.proofs.Effects.{then_keeps, takes_itself}
use Rattle.ptb_command.proofs.PartRefinement.{refines_part_refl, refines_part_under}
use Rattle.ptb_command.proofs.Stops.{GoesForward, forward_itself, forward_joined, Adds}
use Rattle.ptb_command.proofs.Stops.{evaluation_adds, or_halt_adds, stops_more}

-- ---- what takes back nothing that was shown, and gives back no line

pub goes_adds : {A : Type 0} (x : A) → Adds (goes_on x)
goes_adds x = record { at = λ S a. forward_itself S }

pub halt_adds : {A : Type 0} (h : Halt) → Adds (halt {A = A} h)
halt_adds h = record { at = λ S a. forward_itself S }

pub show_adds : (bytes : List ℕ) → Adds (show bytes)
show_adds bytes = record { at = λ S a. record { shown = (bytes, refl); lines = takes_itself S.lines } }

pub then_adds : {A B : Type 0} (f : Action A) (next : A → Action B) → Adds f → ((x : A) → Adds (next x))
    → Adds (and_then f next)
then_adds f next a b = then_keeps GoesForward forward_joined f next a b

pub work_action_adds : {A : Type 0} (f : Cells → Work A) → Adds (work_action f)
work_action_adds f = then_adds (evaluation f) or_halt (evaluation_adds f) or_halt_adds

-- ---- one after the other

-- the result of an action is what comes next
pub refines_part_on : {A B : Type 0} {o n : Trace} {f : Action A} {x : A} (next : A → Action B)
    → RefinesPart o n f (goes_on x) → RefinesPart o n (and_then f next) (next x)
refines_part_on next m = refines_part_under next m

-- where nothing is refused, nothing is refused by anybody
pub stops_unrefused : {A : Type 0} (refused : Refusal → Type 0) (o n : Trace) (f : Action A) (e : CommandStop)
    → Stops nothing_refused (RefinesPartTo o n f) n.devices e → Stops refused (RefinesPartTo o n f) n.devices e
stops_unrefused refused o n f e h = stops_more nothing_refused refused (λ r x. absurd x) o n f e h

-- a fault
pub stops_fault : {A : Type 0} (refused : Refusal → Type 0) (o n : Trace) (f : Action A) (e : CommandStop) (x : Fault)
    → e ≡ stops.Fault x → RefinesPart o n f (halt (Faults x))
    → Stops refused (RefinesPartTo o (with_pending (still_pending n.pending e) n) f) n.devices e
stops_fault refused o n f e x k m =
    subst
    (λ (y : CommandStop). Stops refused (RefinesPartTo o (with_pending (still_pending n.pending y) n) f) n.devices y)
    (sym k)
    (stops_pending refused o n f (stops.Fault x) refl m)

-- ---- what is known already

pub known_value : {A : Type 0} (o : Trace) (r : Result A FaultKind) (m : ℕ) (v : A) → r ≡ Ok v
    → RefinesPart o o (work_action (λ c. or_fault r m)) (goes_on v)
known_value o r m v e = subst (λ (x : Result _ FaultKind). RefinesPart o o (work_action (λ c. or_fault x m))
    (goes_on v)) (sym e) (refines_part_refl o (goes_on v))

pub known_fault : {A : Type 0} (o : Trace) (r : Result A FaultKind) (m : ℕ) (kind : FaultKind) → r ≡ Err kind
    → RefinesPart o o (work_action (λ c. or_fault r m)) (halt (Faults (fault kind m)))
known_fault o r m kind e = subst (λ (x : Result _ FaultKind). RefinesPart o o (work_action (λ c. or_fault x m))
    (halt (Faults (fault kind m)))) (sym e) (refines_part_refl o (halt (Faults (fault kind m))))
