-- This file defines the results of a plan, and of what follows it up to the next command that asks.
-- Main definition: `ComesTo`.
--     GoesOn p rules S before input shown over      from the state S without answers: the run is over, or waits at a
--                                                   state
--     ComesTo p rules S given plan before input shown played     with a plan: it is over, asks, or waits in a state
--                                                                after it
use Rattle.std.specs.Prelude.{ℕ, List, [], Option, Some, None, drop, take}
use Rattle.ptb_text.specs.Statements.{StoredProgram}
use Rattle.ptb_answers.specs.Outcome.{Answers}
use Rattle.ptb_answers.specs.declared.rules.Rules.{Rules}
use Rattle.ptb_command.specs.declared.ending.Ending.{Ending}
use Rattle.ptb_command.specs.State.{State}
use Rattle.ptb_chances.specs.declared.plays.Played.{Played}
use Rattle.ptb_chances.specs.declared.plays.Played.TheVariants as played
use Rattle.ptb_chances.specs.declared.worklist.SavedState.{SavedState}
use Rattle.ptb_chances.specs.StagePlays.{Came, IsAsked, IsOver}

-- of what it showed, the last line is that of the whole
abbrev pub GoesOn : StoredProgram → Rules → State → SavedState → List (List ℕ) → List ℕ → Option Ending → Type 0
GoesOn p rules S before input shown (Some ending) = IsOver p rules S [] ending shown
GoesOn p rules S before input shown None = Came p rules S [] before.machine (drop before.taken input) before.shown.items

-- of a plan, so many answers were given
abbrev pub ComesTo : StoredProgram → Rules → State → ℕ → Answers → SavedState → List (List ℕ) → List ℕ → Played → Type 0
ComesTo p rules S given plan before input shown (played.Over ending) = IsOver p rules S (take given plan) ending shown
ComesTo p rules S given plan before input shown (played.Asks n) = IsAsked p rules S plan n
ComesTo p rules S given plan before input shown played.Goes =
    Came p rules S plan before.machine (drop before.taken input) before.shown.items
