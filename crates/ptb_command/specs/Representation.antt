-- This file defines which states of a run a machine represents.
-- Main definition: `Represents`.
--     Nested p os loops calls  the levels of the definition are what is open, newest first
--     Represents p m S             the machine represents the state S, whatever was shown and whichever lines are left
--     Begun p q k t word i     a command is begun: its word, which ends at i, was read
use Rattle.std.specs.Prelude.{◌≡◌, ◌≤◌, ℕ, false, List, [], ◌∷◌, length, Some, slice_get}
use Rattle.ptb_text.specs.declared.word.Word.{Word}
use Rattle.ptb_text.specs.Statements.{Statements}
use Rattle.ptb_text.specs.Words.{is_over}
use Rattle.ptb_command.specs.declared.stack.OpenLoop.{OpenLoop}
use Rattle.ptb_command.specs.declared.stack.Open.{Open}
use Rattle.ptb_command.specs.declared.stack.Open.TheVariants as opens
use Rattle.ptb_command.specs.Commands.{parts_of, command_of, command_at}
use Rattle.ptb_command.specs.State.{State, Place, Loop, Call, text_of}
use Rattle.ptb_command.specs.Act.{is_fresh}
use Rattle.ptb_command.specs.Places.{IsSamePlace}
use Rattle.ptb_command.specs.Locations.{PlaceIs, PlacesAre}
use Rattle.ptb_command.specs.Configuration.{Configuration}

-- ---- levels

pub record LoopIs (p : Statements) (l : Loop) (m : OpenLoop) : Type 0 where
  pub letter : l.letter ≡ m.letter
  pub limit : l.limit ≡ m.limit
  pub step : l.step ≡ m.step
  pub back : PlaceIs p l.back m.back

-- a level's loops are above the call that opened it
abbrev pub Nested : Statements → List Open → List Loop → List Call → Type 0
Nested p [] [] [] = Unit {0}
Nested p [] [] (c ∷ calls) = ⊥
Nested p [] (l ∷ loops) calls = ⊥
Nested p (opens.Loop m ∷ os) [] calls = ⊥
Nested p (opens.Loop m ∷ os) (l ∷ loops) calls = LoopIs p l m × Nested p os loops calls
Nested p (opens.Call back ∷ os) [] [] = ⊥
Nested p (opens.Call back ∷ os) [] (c ∷ calls) = PlaceIs p c.back back × Nested p os c.loops calls
Nested p (opens.Call back ∷ os) (l ∷ loops) calls = ⊥

-- ---- machines

pub record Represents (p : Statements) (m : Configuration) (S : State) : Type 0 where
  pub place : PlacesAre p S.place m.place
  pub cells : S.cells ≡ m.cells
  pub levels : Nested p m.stack S.loops S.calls
  pub steps : S.steps ≡ m.steps
  pub fresh : is_fresh S.shown ≡ m.fresh

-- ---- commands

-- q is the place of the command, k and t are the place and the text of its statement
pub record Begun (p : Statements) (q : Place) (k : ℕ) (t : List ℕ) (word : Word) (i : ℕ) : Type 0 where
  pub statement : slice_get p k ≡ Some (q.number, text_of p q.number)
  pub text : text_of p q.number ≡ t
  pub start : ℕ
  pub at : IsSamePlace t q.index start
  pub more : is_over t start ≡ false
  pub command : command_at t start ≡ command_of word (parts_of word t i)
  pub from : start ≤ i
  pub within : i ≤ length t
