-- This file defines what a cursor shows: a text and a place in it. A place counts the bytes before it.
-- Main definition: `CursorState`.
--     CursorState      the text and the place
--     bytes_left s     how many bytes are after the place
use Rattle.std.specs.Prelude.{ℕ, ◌-◌, List, length}

pub record CursorState : Type 0 where
  pub text : List ℕ
  pub place : ℕ

-- how many bytes follow the place
abbrev pub bytes_left : CursorState → ℕ
bytes_left s = length s.text - s.place
