-- This file proves what is left where a command ends with a fault.
-- Main lemma: `done_fault`.
use Rattle.std.proofs.Common.{◌≡◌, refl, sym, subst}
use Rattle.ptb_text.specs.Statements.{Statements}
use Rattle.ptb_command.specs.declared.stop.CommandStop.{CommandStop}
use Rattle.ptb_command.specs.declared.stop.CommandStop.TheVariants as stops
use Rattle.ptb_command.specs.Actions.{Faults, Action, halt}
use Rattle.ptb_command.specs.Devices.{Devices, Refusal}
use Rattle.ptb_command.specs.Stops.{Stops}
use Rattle.ptb_command.specs.Configuration.{Configuration}
use Rattle.ptb_command.specs.CommandOutcomes.{Refines, RefinesTo}
use Rattle.ptb_command.proofs.CommandResults.{Alike}

-- ---- places

pub alike_itself : (m : Configuration) → Alike m m
alike_itself m = record { place = refl; stack = refl; steps = refl }

-- ---- commands that begin with a value

-- a fault of a command whose parts were done
pub done_fault : (refused : Refusal → Type 0) (p : Statements) (m n : Configuration) (o d : Devices)
    (f : Action (Unit {0})) (s : CommandStop) (x : _)
    → s ≡ stops.Fault x → Refines p m n o d f (halt (Faults x)) → Stops refused (RefinesTo p m n o f) d s
done_fault refused p m n o d f s x e a = subst (λ (y : CommandStop). Stops refused (RefinesTo p m n o f) d y) (sym e) a
