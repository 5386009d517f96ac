-- This file defines the result of a run whose chooser notes where another one was refused memory.
-- Main definition: `noted_result`.
--     noted refused refuses z n      why it gives no answer, where `refuses` says why the other one doesn't
--     noted_result refused result    the result of a run: lack of memory where the run stopped for that
use Rattle.std.specs.Prelude.{ℤ, Bool, true, false, Result, Ok, Err, if◌then◌else◌}
use Rattle.ptb_answers.specs.declared.pause.Pause.{Pause}
use Rattle.ptb_answers.specs.declared.pause.Pause.TheVariants as pauses
use Rattle.ptb_command.specs.declared.ending.Ending.{Ending}
use Rattle.ptb_command.specs.declared.ending.Ending.TheVariants as endings
use Rattle.ptb_machine.specs.declared.fault.RunFault.{RunFault}
use Rattle.ptb_machine.specs.declared.fault.RunFault.TheVariants as runs

-- why there is no answer left: there is no memory for it, or the other has none
abbrev pub ended_for : Bool → Type 0 → Type 0 → Type 0
ended_for true memory none = memory
ended_for false memory none = none

-- its answers end where the other's do, or where that one was refused memory; it never says that memory was refused
abbrev pub noted : Bool → (Pause → ℤ → Type 0) → Pause → ℤ → Type 0
noted refused refuses pauses.Ended n = ended_for refused (refuses pauses.Memory n) (refuses pauses.Ended n)
noted refused refuses (pauses.OutOfRange k) n = refuses (pauses.OutOfRange k) n
noted refused refuses pauses.Memory n = ⊥

abbrev pub noted_result : Bool → Result Ending RunFault → Result Ending RunFault
noted_result refused (Ok endings.NoAnswer) = if refused then Err runs.Memory else Ok endings.NoAnswer
noted_result refused (Ok ending) = Ok ending
noted_result refused (Err fault) = Err fault
