-- This file defines how far the runs of a stage's program are counted.
-- Main definition: `IsTallied`.
--     IsTallied s tally ws     with what waits, the tally is the account of all runs
--     work_to_do s ws          more than is left to be done
use Rattle.std.specs.Prelude.{ℕ, List}
use Rattle.ptb_machine.specs.Questions.{most_answers}
use Rattle.ptb_chances.specs.Chances.{Row}
use Rattle.ptb_chances.specs.declared.stage.Stage.{Stage}
use Rattle.ptb_chances.specs.WaitingPlays.{Accounted, WaitingPlay, work_left}

abbrev pub most_asked : Stage → ℕ
most_asked s = most_answers s.player s.devices.source.lines s.rules.limit

abbrev pub IsTallied : Stage → List Row → List WaitingPlay → Type 0
IsTallied s tally ws = Accounted s.player s.devices.source.lines s.rules (most_asked s) tally ws

abbrev pub work_to_do : Stage → List WaitingPlay → ℕ
work_to_do s ws = work_left s.rules.limit (most_asked s) ws
