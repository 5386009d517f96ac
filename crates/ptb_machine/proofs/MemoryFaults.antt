-- This file proves which fault a turn has whose bytes and lines are in memory.
-- Main lemma: `fault_in_memory`.
use Rattle.std.proofs.Common.{◌≡◌, ◌∙◌, ℕ, List, Option, Err, ℤ, inl, inr, refl, arith}
use Rattle.ptb_text.specs.Statements.{Statements}
use Rattle.ptb_text.specs.declared.device_fault.DeviceFault.{DeviceFault}
use Rattle.ptb_text.specs.declared.device_fault.DeviceFault.TheVariants as fails
use Rattle.ptb_answers.specs.declared.pause.Pause.{Pause}
use Rattle.ptb_answers.specs.Outcome.{Answers, Outcome}
use Rattle.ptb_command.specs.declared.ending.Ending.TheVariants as endings
use Rattle.ptb_command.specs.State.{State}
use Rattle.ptb_command.specs.Act.{StepResult, Over}
use Rattle.ptb_command.specs.Configuration.{Configuration}
use Rattle.ptb_command.specs.Devices.{Devices, refused_by}
use Rattle.ptb_command.specs.Effects.{act_state}
use Rattle.ptb_command.specs.Stops.{DeviceFails}
use Rattle.ptb_machine.specs.declared.fault.RunFault.{RunFault}
use Rattle.ptb_machine.specs.declared.fault.RunFault.TheVariants as faults
use Rattle.ptb_machine.specs.RunFaults.{fault_of_device}
use Rattle.ptb_machine.specs.TurnResults.{StepsTo, StepComes}

-- the source reads without a fault, and the screen has not failed, neither before the turn nor after it
module _ (refuses : Pause → ℤ → Type 0) (lines : Option (List (List ℕ))) (p : Statements) (new : Configuration)
    (o n : Devices) (S : State) (rest : List (List ℕ)) (f : Answers → Outcome StepResult State)
    (before : o.screen.failures ≡ 0) (after : n.screen.failures ≡ 0) where
  device_in_memory : (device : DeviceFault)
      → DeviceFails (refused_by refuses (λ _. ⊥) lines) (StepsTo p new o S rest f) n act_state (Over endings.NoInput)
      device → fault_of_device device ≡ faults.Memory
  device_in_memory fails.Read w = absurd w.broken.0
  device_in_memory fails.TooLong w = absurd w.broken.0
  device_in_memory fails.Write w =
      let none : w.screen.failures ≡ 0 = w.comes.exchanges.unfailed ∙ before in
      elim w.broken.0 [
        | inl x ↦ absurd (omega (arith, none, after, x))
        | inr x ↦ absurd (omega (arith, none, after, x))
      ]
  device_in_memory fails.Memory w = refl

  -- unless the run was over before, the fault is lack of memory
  pub fault_in_memory : (fault : RunFault) → (fault ≡ faults.Spent → ⊥)
      → StepComes (refused_by refuses (λ _. ⊥) lines) (StepsTo p new o S rest f) n (Err fault)
      → fault ≡ faults.Memory
  fault_in_memory faults.Memory unspent w = refl
  fault_in_memory faults.Read unspent w = w.1 ∙ device_in_memory w.0 w.2
  fault_in_memory faults.Write unspent w = w.1 ∙ device_in_memory w.0 w.2
  fault_in_memory faults.Spent unspent w = absurd (unspent refl)
