-- This file proves which results a step can have.
-- Main lemma: `result_goes`.
use Rattle.std.proofs.Common.{◌≡◌, ◌↔◌, ◌∙◌, ℕ, Bool, true, false, List, Option, Some, None, Result}
use Rattle.std.proofs.Common.{Ok, Err, is_err, inl, refl, sym, ap, subst}
use Rattle.ptb_expr.specs.declared.fault.Fault.{Fault}
use Rattle.ptb_expr.specs.declared.fault.FaultKind.{FaultKind}
use Rattle.ptb_answers.specs.declared.pause.Pause.TheVariants as pauses
use Rattle.ptb_answers.specs.declared.rules.Rules.{Rules}
use Rattle.ptb_command.specs.declared.command_io.CommandIo.{CommandIo}
use Rattle.ptb_command.specs.declared.ending.Ending.{Ending}
use Rattle.ptb_machine.specs.declared.fault.RunFault.{RunFault}
use Rattle.ptb_machine.specs.declared.fault.RunFault.TheVariants as faults
use Rattle.ptb_text.specs.declared.device_fault.DeviceFault.{DeviceFault}
use Rattle.ptb_text.specs.declared.device_fault.DeviceFault.TheVariants as devices
use Rattle.ptb_command.specs.declared.stop.CommandStop.{CommandStop}
use Rattle.ptb_command.specs.declared.stop.CommandStop.TheVariants as stops
use Rattle.ptb_command.specs.Act.{report_bytes}
use Rattle.ptb_command.specs.Traces.{Trace}
use Rattle.ptb_command.specs.ShowResults.{IsShown}
use Rattle.ptb_command.specs.Stops.{UnlessMissed, miss_of}
use Rattle.ptb_command.proofs.PublicLemmas.{miss_unmissed}
use Rattle.ptb_machine.specs.CommandResults.{reported, result_of_stop, IsResultOf}
use Rattle.ptb_machine.specs.RunDevices.{RunDevices, run_devices, lent}
use Rattle.ptb_machine.specs.RunFaults.{fault_of_device}
use Rattle.ptb_machine.specs.Steps.{step_miss}

-- nothing is shown where it was done, or stopped by s
pub result_done : (o : Trace) (number : ℕ) (text : List ℕ) (done : Result (Unit {0}) CommandStop) (x : Unit {0})
    → done ≡ Ok x
    → IsResultOf o o number text done (Ok None)
result_done o number text done x e =
    subst (λ (y : Result (Unit {0}) CommandStop). IsResultOf o o number text y (Ok None)) (sym e)
    (record { is = refl; same = refl })

pub result_stopped : (o : Trace) (number : ℕ) (text : List ℕ) (done : Result (Unit {0}) CommandStop) (s : CommandStop)
    (r : Result (Option Ending) RunFault)
    → ((f : Fault) → s ≡ stops.Fault f → ⊥) → r ≡ result_of_stop s → done ≡ Err s → IsResultOf o o number text done r
result_stopped o number text done s r other is e =
    subst (λ (y : Result (Unit {0}) CommandStop). IsResultOf o o number text y r) (sym e) (silent s other is)
  where
    silent : (s : CommandStop) → ((f : Fault) → s ≡ stops.Fault f → ⊥) → r ≡ result_of_stop s
        → IsResultOf o o number text (Err s) r
    silent (stops.Fault f) other is = absurd (other f refl)
    silent stops.Over other is = record { is = is; same = refl }
    silent stops.NoInput other is = record { is = is; same = refl }
    silent (stops.Pause z) other is = record { is = is; same = refl }
    silent (stops.Device fault) other is = record { is = is; same = refl }

-- a fault that was reported, or not
pub result_reported : (o n : Trace) (number : ℕ) (text : List ℕ) (f : Fault) (done : Result (Unit {0}) CommandStop)
    (r : Result (Option Ending) RunFault) (shown : Result (Unit {0}) DeviceFault)
    → done ≡ Err (stops.Fault f) → r ≡ reported f.kind shown → IsShown o n (report_bytes o.fresh number text f) shown
    → IsResultOf o n number text done r
result_reported o n number text f done r shown e is shows =
    subst (λ (x : Result (Unit {0}) CommandStop). IsResultOf o n number text x r) (sym e)
    (record { shown = shown; is = is; shows = shows })

-- ---- whether the run is over

abbrev is_over : Result (Option Ending) RunFault → Bool
is_over (Ok None) = false
is_over (Ok (Some ending)) = true
is_over (Err e) = true

not_over : (r : Result (Option Ending) RunFault) → is_over r ≡ false → r ≡ Ok None
not_over (Ok None) e = refl
not_over (Ok (Some ending)) e = absurd cc
not_over (Err x) e = absurd cc

reported_over : (kind : FaultKind) (shown : Result (Unit {0}) DeviceFault) → is_over (reported kind shown) ≡ true
reported_over kind (Ok x) = refl
reported_over kind (Err x) = refl

-- ---- whether the run was over before

abbrev is_spent : Result (Option Ending) RunFault → Bool
is_spent (Ok x) = false
is_spent (Err faults.Memory) = false
is_spent (Err faults.Read) = false
is_spent (Err faults.Write) = false
is_spent (Err faults.Spent) = true

device_unspent : (fault : DeviceFault) → is_spent (Err (fault_of_device fault)) ≡ false
device_unspent devices.Read = refl
device_unspent devices.TooLong = refl
device_unspent devices.Memory = refl
device_unspent devices.Write = refl

reported_unspent : (kind : FaultKind) (shown : Result (Unit {0}) DeviceFault) → is_spent (reported kind shown) ≡ false
reported_unspent kind (Ok x) = refl
reported_unspent kind (Err fault) = device_unspent fault

-- what the result of a command says of both
result_facts : (o n : Trace) (number : ℕ) (text : List ℕ) (done : Result (Unit {0}) CommandStop)
    (r : Result (Option Ending) RunFault)
    → IsResultOf o n number text done r → (is_over r ≡ is_err done) × (is_spent r ≡ false)
result_facts o n number text (Ok x) r is = (ap is_over is.is, ap is_spent is.is)
result_facts o n number text (Err (stops.Fault f)) r is =
    (ap is_over is.is ∙ reported_over f.kind is.shown, ap is_spent is.is ∙ reported_unspent f.kind is.shown)
result_facts o n number text (Err stops.Over) r is = (ap is_over is.is, ap is_spent is.is)
result_facts o n number text (Err stops.NoInput) r is = (ap is_over is.is, ap is_spent is.is)
result_facts o n number text (Err (stops.Pause pauses.Ended)) r is = (ap is_over is.is, ap is_spent is.is)
result_facts o n number text (Err (stops.Pause (pauses.OutOfRange k))) r is = (ap is_over is.is, ap is_spent is.is)
result_facts o n number text (Err (stops.Pause pauses.Memory)) r is = (ap is_over is.is, ap is_spent is.is)
result_facts o n number text (Err (stops.Device fault)) r is =
    (ap is_over is.is, ap is_spent is.is ∙ device_unspent fault)

-- it continues where the command was done
pub result_goes : (o n : Trace) (number : ℕ) (text : List ℕ) (done : Result (Unit {0}) CommandStop)
    (r : Result (Option Ending) RunFault)
    → IsResultOf o n number text done r → (r ≡ Ok None ↔ is_err done ≡ false)
result_goes o n number text done r is =
    let same = (result_facts o n number text done r is).0 in
    (λ e. sym same ∙ ap is_over e, λ e. not_over r (same ∙ e))

-- it was not, where a command was done or stopped
pub result_unspent : (o n : Trace) (number : ℕ) (text : List ℕ) (done : Result (Unit {0}) CommandStop)
    (r : Result (Option Ending) RunFault)
    → IsResultOf o n number text done r → r ≡ Err faults.Spent → ⊥
result_unspent o n number text done r is e =
    let k : true ≡ false = sym (ap is_spent e) ∙ (result_facts o n number text done r is).1 in
    absurd cc

-- ---- lines that the source didn't give

reported_unmissed : (refused : DeviceFault → Type 0) (P : Type 0) → P
    → (kind : FaultKind) (shown : Result (Unit {0}) DeviceFault)
    → UnlessMissed refused P (step_miss (reported kind shown))
reported_unmissed refused P p kind shown = miss_unmissed refused P p (step_miss (reported kind shown))

pub result_missed : (refused : DeviceFault → Type 0) (P : Type 0) (o n : Trace) (number : ℕ) (text : List ℕ)
    (done : Result (Unit {0}) CommandStop) (r : Result (Option Ending) RunFault)
    → IsResultOf o n number text done r → UnlessMissed refused P (miss_of done) → UnlessMissed refused P (step_miss r)
result_missed refused P o n number text done r is h = by_result done is h
  where
    is_so : (x : Result (Option Ending) RunFault) → r ≡ x → UnlessMissed refused P (step_miss x)
        → UnlessMissed refused P (step_miss r)
    is_so x e u = subst (λ (y : Result (Option Ending) RunFault). UnlessMissed refused P (step_miss y)) (sym e) u

    by_result : (done : Result (Unit {0}) CommandStop) → IsResultOf o n number text done r
        → UnlessMissed refused P (miss_of done) → UnlessMissed refused P (step_miss r)
    by_result (Ok x) is h = is_so _ is.is h
    by_result (Err (stops.Fault f)) is h = is_so _ is.is (reported_unmissed refused P h f.kind is.shown)
    by_result (Err stops.Over) is h = is_so _ is.is h
    by_result (Err stops.NoInput) is h = is_so _ is.is tt
    by_result (Err (stops.Pause pauses.Ended)) is h = is_so _ is.is h
    by_result (Err (stops.Pause (pauses.OutOfRange k))) is h = is_so _ is.is h
    by_result (Err (stops.Pause pauses.Memory)) is h = is_so _ is.is (inl h)
    by_result (Err (stops.Device devices.Read)) is h = is_so _ is.is h
    by_result (Err (stops.Device devices.TooLong)) is h = is_so _ is.is h
    by_result (Err (stops.Device devices.Write)) is h = is_so _ is.is h
    by_result (Err (stops.Device devices.Memory)) is h = is_so _ is.is h

-- ---- devices

-- what holds of devices that are the same
pub at_devices : {C S L : Type 0} (P : C → S → L → Type 0) {x : C} {y : S} {z : L} (c : C) (s : S) (l : L) → x ≡ c
    → y ≡ s → z ≡ l → P c s l → P x y z
at_devices P {x = x} {y = y} {z = z} c s l e k h p =
    subst (λ a. P a y z) (sym e) (subst (λ a. P c a z) (sym k) (subst (λ a. P c s a) (sym h) p))

-- what holds of devices that are taken together holds of them one by one
pub at_lent : {C S L : Type 0} (P : Rules → RunDevices C S L → RunDevices C S L → Type 0) (rules : Rules)
    (i n : CommandIo C S L) {c x : C} {s y : S} {l z : L}
    → i.rules ≡ rules → i.chooser.now ≡ c → i.screen.now ≡ s → i.source.now ≡ l
    → x ≡ n.chooser.now → y ≡ n.screen.now → z ≡ n.source.now
    → P i.rules (lent i) (lent n) → P rules (run_devices c s l) (run_devices x y z)
at_lent P rules i n {c = c} {s = s} {l = l} same c1 s1 l1 c2 s2 l2 h =
    at_devices (λ a b d. P rules (run_devices c s l) (run_devices a b d)) n.chooser.now n.screen.now n.source.now c2 s2
    l2 (at_devices (λ a b d. P rules (run_devices a b d) (lent n)) i.chooser.now i.screen.now i.source.now (sym c1)
    (sym s1) (sym l1) (subst (λ (k : Rules). P k (lent i) (lent n)) same h))
