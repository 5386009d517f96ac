-- This file proves which places a machine's place stands for.
-- Main lemma: `is_placed`.
use Rattle.std.proofs.Common.{◌≡◌, Option, Some, None, refl}
use Rattle.ptb_text.specs.Statements.{Statements}
use Rattle.ptb_command.specs.declared.location.Location.{Location}
use Rattle.ptb_command.specs.State.{Place}
use Rattle.ptb_command.specs.Locations.{PlaceIs, PlacesAre}

-- the place that a spot stands for
pub record IsPlaced (p : Statements) (o : Option Place) (s : Location) : Type 0 where
  pub place : Place
  pub there : o ≡ Some place
  pub is : PlaceIs p place s

pub is_placed : (p : Statements) (o : Option Place) (s : Location) → PlacesAre p o (Some s) → IsPlaced p o s
is_placed p None s a = absurd a
is_placed p (Some q) s a = record { place = q; there = refl; is = a }

pub not_placed : (p : Statements) (o : Option Place) → PlacesAre p o None → o ≡ None
not_placed p None a = refl
not_placed p (Some q) a = absurd a
