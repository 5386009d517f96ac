-- This file defines the result of the step of NEXT.
-- Main definition: `AddsStep`.
--     loop_of_open back m      an open loop, with the place to which it goes back
--     AddsStep l old new b r   what the sum r makes of the cells, and whether the loop continues
use Rattle.std.specs.Prelude.{◌≡◌, Bool, false, not, ℤ, Result, Ok, Err}
use Rattle.ptb_expr.specs.declared.fault.FaultKind.{FaultKind}
use Rattle.ptb_expr.specs.Store.{Cells, with_value}
use Rattle.ptb_command.specs.declared.stack.OpenLoop.{OpenLoop}
use Rattle.ptb_command.specs.State.{Place, Loop}
use Rattle.ptb_command.specs.Act.{is_past}

abbrev pub loop_of_open : Place → OpenLoop → Loop
loop_of_open back m = record { letter = m.letter; limit = m.limit; step = m.step; back = back }

-- without a sum the variable keeps its value, and the loop ends
abbrev pub AddsStep : Loop → Cells → Cells → Bool → Result ℤ FaultKind → Type 0
AddsStep l old new goes_on (Err kind) = (new ≡ old) × (goes_on ≡ false)
AddsStep l old new goes_on (Ok v) = (new ≡ with_value old l.letter v) × (goes_on ≡ not (is_past l v))
