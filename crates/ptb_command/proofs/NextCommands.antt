-- This file proves which command is next.
-- Main lemmas: `next_here` and `next_later`.
use Rattle.std.proofs.Common.{◌≡◌, ℕ, true, false, List, Option, Some, None, ℤ, refl, sym, ap, subst, ◌∙◌}
use Rattle.std.specs.Prelude.{slice_get}
use Rattle.ptb_text.specs.Statements.{Statements}
use Rattle.ptb_text.specs.Words.{is_over}
use Rattle.ptb_command.specs.declared.location.Location.{Location}
use Rattle.ptb_command.specs.Commands.{commands}
use Rattle.ptb_command.specs.State.{Place, place_after, text_of, command_there, placed_at}
use Rattle.ptb_command.specs.State.{first_command, command_or_next, next_command}
use Rattle.ptb_command.specs.Places.{IsSamePlace}
use Rattle.ptb_command.specs.CommandLaws.{CommandLaws}
use Rattle.ptb_command.specs.Locations.{PlaceIs, IsLineAt, PlacesAre, NextIs}
use Rattle.ptb_command.proofs.MachinePlaces.{is_placed}

pub next_nowhere : (p : Statements) (q : Option Place) → PlacesAre p q None → next_command p q ≡ None
unfolding next_command
next_nowhere p None a = refl
next_nowhere p (Some q) a = absurd a

next_by : (p : Statements) (q : Place) → next_command p (Some q) ≡ command_or_next p q (command_there p q)
unfolding next_command
next_by p q = refl

-- the text of the statement at a place that a machine has
pub text_there : (p : Statements) (q : Place) (s : Location) (z : ℤ) (t : List ℕ) → PlaceIs p q s
    → IsLineAt p s.statement z t → t ≡ text_of p q.number
text_there p q s z t a e = (e q.number (text_of p q.number) a.statement).1

-- each place that a machine has
pub placed : (p : Statements) (s : Location) (P : Option Place → Type 0) → ((q : Place) → PlaceIs p q s → P (Some q))
    → (q : Option Place) → PlacesAre p q (Some s) → P q
placed p s P f None a = absurd a
placed p s P f (Some q) a = f q a

module _ (laws : CommandLaws) (p : Statements) (q : Place) (s : Location) (a : PlaceIs p q s) (t : List ℕ)
    (tn : t ≡ text_of p q.number) where
  pub next_here : is_over t s.offset ≡ false → NextIs p (Some q) s t
  next_here e = record {
    place = q;
    next = next_by p q ∙ ap (command_or_next p q)
        (ap (λ (x : List ℕ). slice_get (commands x) q.index) (sym tn)
        ∙ laws.at_there t q.index s.offset (subst (λ (x : List ℕ). IsSamePlace x q.index s.offset) (sym tn) a.at) e);
    is = a;
    text = sym tn;
    more = e;
  }

  -- nothing is left of its statement
  following : is_over t s.offset ≡ true → next_command p (Some q) ≡ first_command p (place_after p q.number)
  following e = next_by p q ∙ ap (command_or_next p q)
      (ap (λ (x : List ℕ). slice_get (commands x) q.index) (sym tn)
      ∙ laws.at_none t q.index s.offset (subst (λ (x : List ℕ). IsSamePlace x q.index s.offset) (sym tn) a.at) e)

  pub next_last : is_over t s.offset ≡ true → place_after p q.number ≡ None → next_command p (Some q) ≡ None
  next_last e k = following e ∙ ap (first_command p) k

  -- nothing is in the statement after it
  pub next_empty : (b : Location) (z : ℤ) (u : List ℕ) → is_over t s.offset ≡ true
      → PlacesAre p (place_after p q.number) (Some b) → IsLineAt p b.statement z u → is_over u b.offset ≡ true
      → next_command p (Some q) ≡ None
  next_empty b z u e a x o =
      let r = is_placed p (place_after p q.number) b a in
      let text = text_there p r.place b z u r.is x in
      following e ∙ ap (first_command p) r.there ∙ ap (placed_at r.place)
      (ap (λ (y : List ℕ). slice_get (commands y) r.place.index) (sym text) ∙ laws.at_none u r.place.index b.offset
      (subst (λ (y : List ℕ). IsSamePlace y r.place.index b.offset) (sym text) r.is.at) o)

  -- its first command is next
  pub next_later : (b : Location) (z : ℤ) (u : List ℕ) → is_over t s.offset ≡ true
      → PlacesAre p (place_after p q.number) (Some b) → IsLineAt p b.statement z u → is_over u b.offset ≡ false
      → NextIs p (Some q) b u
  next_later b z u e a x o =
      let r = is_placed p (place_after p q.number) b a in
      let text = text_there p r.place b z u r.is x in
      record {
        place = r.place;
        next = following e ∙ ap (first_command p) r.there ∙ ap (placed_at r.place)
            (ap (λ (y : List ℕ). slice_get (commands y) r.place.index) (sym text)
            ∙ laws.at_there u r.place.index b.offset
            (subst (λ (y : List ℕ). IsSamePlace y r.place.index b.offset) (sym text) r.is.at) o);
        is = r.is;
        text = sym text;
        more = o;
      }
