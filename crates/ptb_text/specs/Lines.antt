-- This file defines the lines of a byte text, as program lines and as input lines.
-- Main definitions: `program_lines` and `input_lines`.
--     lines b              its pieces, cut at bytes 10, each without one byte 13 at its end
--     program_lines b      the same, with each tab as a space
--     input_lines b        the same, cleaned
--     clean_line l         a tab is a space, other bytes that don't print are dropped, and 255 are kept
use Rattle.std.specs.Prelude.{ℕ, Bool, ◌&&◌, ◌==◌, nat_le, if◌then◌else◌, List, [], ◌∷◌, map, filter, take}
use Rattle.std.specs.Str.Lines.{strip_carriage_return}

-- a byte in front of the first piece
abbrev pub onto_first : ℕ → List (List ℕ) → List (List ℕ)
onto_first b [] = (b ∷ []) ∷ []
onto_first b (l ∷ ls) = (b ∷ l) ∷ ls

-- a byte 10 ends a piece; after a last byte 10 no piece begins
abbrev pub pieces : List ℕ → List (List ℕ)
pieces [] = []
pieces (b ∷ bs) = if b == 10 then [] ∷ pieces bs else onto_first b (pieces bs)

abbrev pub lines : List ℕ → List (List ℕ)
lines b = map strip_carriage_return (pieces b)

-- a tab counts as a space
abbrev pub tab_as_space : ℕ → ℕ
tab_as_space b = if b == 9 then 32 else b

-- a byte from space to tilde
abbrev pub is_printable : ℕ → Bool
is_printable b = nat_le 32 b && nat_le b 126

abbrev pub program_lines : List ℕ → List (List ℕ)
program_lines b = map (map tab_as_space) (lines b)

-- how many bytes of an input line are kept
abbrev pub line_limit : ℕ
line_limit = 255

abbrev pub clean_line : List ℕ → List ℕ
clean_line l = take line_limit (filter is_printable (map tab_as_space l))

abbrev pub input_lines : List ℕ → List (List ℕ)
input_lines b = map clean_line (lines b)
