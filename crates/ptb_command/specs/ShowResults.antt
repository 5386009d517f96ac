-- This file defines the result of showing bytes.
-- Main definition: `IsShown`.
--     IsShown o n bytes result     from trace o to trace n, the bytes were shown, or why they were not
use Rattle.std.specs.Prelude.{ℕ, List, Result}
use Rattle.ptb_text.specs.declared.device_fault.DeviceFault.{DeviceFault}
use Rattle.ptb_command.specs.Actions.{goes_on, show}
use Rattle.ptb_command.specs.Devices.{nothing_refused}
use Rattle.ptb_command.specs.Traces.{Trace}
use Rattle.ptb_command.specs.Stops.{as_stop, Comes}

abbrev pub IsShown : Trace → Trace → List ℕ → Result (Unit {0}) DeviceFault → Type 0
IsShown o n bytes result = Comes nothing_refused o n (show bytes) goes_on (as_stop result)
