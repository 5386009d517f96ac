-- This file defines for which places of the definition the places of a program stand.
-- Main definition: `PlacesAre`.
--     PlaceIs p q m            a place of the definition is one of the program
--     PlacesAre p q m          the same of two places that may be none
--     IsLineAt p i n t         the number and the text of a statement
--     NextIs p q here t        the command that is next at a place, by its byte place and its text
use Rattle.std.specs.Prelude.{◌≡◌, ℕ, false, List, Option, Some, None, ℤ, pos, slice_get}
use Rattle.ptb_text.specs.Statements.{Statements}
use Rattle.ptb_text.specs.Words.{is_over}
use Rattle.ptb_command.specs.declared.location.Location.{Location}
use Rattle.ptb_command.specs.Commands.{command_at}
use Rattle.ptb_command.specs.State.{Place, text_of, next_command}
use Rattle.ptb_command.specs.Places.{IsSamePlace}

-- ---- places

-- the number of a statement and the index of a command, beside the place of the statement and the byte place at which
-- the command begins
pub record PlaceIs (p : Statements) (q : Place) (m : Location) : Type 0 where
  pub statement : slice_get p m.statement ≡ Some (q.number, text_of p q.number)
  pub at : IsSamePlace (text_of p q.number) q.index m.offset

-- n and t are the number and the text of the statement at place i, if there is one
abbrev pub IsLineAt : Statements → ℕ → ℤ → List ℕ → Type 0
IsLineAt p i n t = (m : ℕ) (u : List ℕ) → slice_get p i ≡ Some (m, u) → (n ≡ pos m) × (t ≡ u)

abbrev pub PlacesAre : Statements → Option Place → Option Location → Type 0
PlacesAre p None None = Unit {0}
PlacesAre p None (Some m) = ⊥
PlacesAre p (Some q) None = ⊥
PlacesAre p (Some q) (Some m) = PlaceIs p q m

-- a place of the program, if there is one
pub record IsPlaceOf (p : Statements) (m : Option Location) : Type 0 where
  pub place : Option Place
  pub are : PlacesAre p place m

-- ---- the next command

-- here and t are the byte place of the command and the text of its statement
pub record NextIs (p : Statements) (q : Option Place) (here : Location) (t : List ℕ) : Type 0 where
  pub place : Place
  pub next : next_command p q ≡ Some (place, command_at t here.offset)
  pub is : PlaceIs p place here
  pub text : text_of p place.number ≡ t
  pub more : is_over t here.offset ≡ false
