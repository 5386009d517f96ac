-- This file defines how cleaned lines are cut from bytes that come one after the other.
-- A piece that has not begun is None. One that has begun, be it with a byte that is dropped, is what is kept of it.
-- Main definition: `whole_lines`.
--     started_piece started kept   a piece, by whether it has started
--     cleaned_byte b               what the cleaning makes of one byte: that byte, another or nothing
--     StayUpTo bytes n             the cleaning leaves the first n bytes as they are
--     with_byte kept b             what is kept after one more byte of a line
--     IsClean kept                 at most 255 bytes, each from space to tilde
--     kept_bytes p                 what is kept of the piece p
--     whole_lines p bytes          the lines that these bytes end, where the piece p has begun before them
--     last_piece p bytes           the piece that has begun after these bytes
--     line_of_piece p                  the line that p is at the end of the bytes, if it is one
--     IsLine line bytes            these bytes are the line and its end, and the cleaned line is the same
--     Cuts p bytes given q         these bytes end the lines given, and then q has begun
--     AddsLines p bytes old new q  the lines that these bytes end come after the old ones
use Rattle.std.specs.Prelude.{◌≡◌, ℕ, ◌==◌, ◌<◌, ◌≤◌, get_or, Bool, true, false, IsTrue, if◌then◌else◌, List, []}
use Rattle.std.specs.Prelude.{◌∷◌, ◌++◌, length, filter, take, Option, Some, None}
use Rattle.std.specs.List.{list_all}
use Rattle.ptb_text.specs.Lines.{tab_as_space, is_printable, line_limit}

abbrev pub started_piece : Bool → List ℕ → Option (List ℕ)
started_piece false kept = None
started_piece true kept = Some kept

abbrev pub cleaned_byte : ℕ → List ℕ
cleaned_byte b = filter is_printable (tab_as_space b ∷ [])

-- the cleaning leaves the first n bytes as they are
abbrev pub StayUpTo : List ℕ → ℕ → Type 0
StayUpTo bytes n = (i : ℕ) → i < n → cleaned_byte (get_or bytes i 0) ≡ get_or bytes i 0 ∷ []

-- a byte for which there is no room adds nothing
abbrev pub with_byte : List ℕ → ℕ → List ℕ
with_byte kept b = take line_limit (kept ++ cleaned_byte b)

abbrev pub IsClean : List ℕ → Type 0
IsClean kept = (length kept ≤ line_limit) × IsTrue (list_all is_printable kept)

abbrev pub kept_bytes : Option (List ℕ) → List ℕ
kept_bytes None = []
kept_bytes (Some kept) = kept

abbrev pub whole_lines : Option (List ℕ) → List ℕ → List (List ℕ)
whole_lines p [] = []
whole_lines p (b ∷ bytes) =
    if b == 10 then kept_bytes p ∷ whole_lines None bytes else whole_lines (Some (with_byte (kept_bytes p) b)) bytes

abbrev pub last_piece : Option (List ℕ) → List ℕ → Option (List ℕ)
last_piece p [] = p
last_piece p (b ∷ bytes) = if b == 10 then last_piece None bytes else last_piece
    (Some (with_byte (kept_bytes p) b)) bytes

-- a last piece that has not begun is no line
abbrev pub line_of_piece : Option (List ℕ) → List (List ℕ)
line_of_piece None = []
line_of_piece (Some kept) = kept ∷ []

abbrev pub Cuts : Option (List ℕ) → List ℕ → List (List ℕ) → Option (List ℕ) → Type 0
Cuts p bytes given q = (whole_lines p bytes ≡ given) × (last_piece p bytes ≡ q)

abbrev pub IsLine : List ℕ → List ℕ → Type 0
IsLine line bytes = Cuts None bytes (line ∷ []) None

abbrev pub AddsLines : Option (List ℕ) → List ℕ → List (List ℕ) → List (List ℕ) → Option (List ℕ) → Type 0
AddsLines p bytes old new q = (new ≡ old ++ whole_lines p bytes) × (last_piece p bytes ≡ q)
