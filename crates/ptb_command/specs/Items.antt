-- This file defines items that follow one another in a text.
-- Main definition: `items`.
--     items t round i          what the rounds read from place i on, one after the other
--     Advances t round         a round that continues does so further ahead in the text
--     LiesOn t i j             j is a place that something read at i may end at, even if nothing is taken
use Rattle.std.specs.Prelude.{◌≡◌, ℕ, zero, suc, ◌≤◌, List, [], ◌∷◌, length}
use Rattle.ptb_text.specs.Words.{past_blanks}
use Rattle.ptb_text.specs.FoundParts.{LiesAhead}
use Rattle.ptb_expr.specs.Reading.{Reading, Whole, Malformed}

-- what is read at a place: the last items, or one item and the place at which the next is read
pub data Round (X : Type 0) : Type 0 where
  Last : (r : Reading (List X)) → Round X
  Onward : (x : X) (next : ℕ) → Round X

-- an item, and those after it
abbrev pub in_front : {X : Type 0} → X → Reading (List X) → Reading (List X)
in_front x (Whole xs j) = Whole (x ∷ xs) j
in_front x (Malformed xs) = Malformed (x ∷ xs)

-- what a round reads, with what is read after it
abbrev pub with_others : {X : Type 0} → (ℕ → Reading (List X)) → Round X → Reading (List X)
with_others others (Last r) = r
with_others others (Onward x j) = in_front x (others j)

-- at most n rounds
unfoldable pub items_within : {X : Type 0} → ℕ → (ℕ → Round X) → ℕ → Reading (List X)
items_within zero round i = Malformed []
items_within (suc n) round i = with_others (items_within n round) (round i)

-- a round that continues takes a byte, so a text has no more rounds than bytes, and one
unfoldable pub items : {X : Type 0} → List ℕ → (ℕ → Round X) → ℕ → Reading (List X)
items t round i = items_within (suc (length t)) round i

pub record Advances {X : Type 0} (t : List ℕ) (round : ℕ → Round X) : Type 0 where
  pub ahead : (i j : ℕ) (x : X) → round i ≡ Onward x j → LiesAhead t i j

pub record LiesOn (t : List ℕ) (i j : ℕ) : Type 0 where
  pub from : i ≤ j
  pub within : i ≤ length t → j ≤ length t
  pub settled : past_blanks t i ≡ i → past_blanks t j ≡ j
