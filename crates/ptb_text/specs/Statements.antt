-- This file defines a program, the texts of its statements under their numbers, and how lines are entered into it.
-- The map is the list of its pairs in rising order of the numbers, so equal maps are equal lists.
-- Main definition: `StoredProgram`.
--     text_at p n                                    what the map has at number n
--     first_number p, number_after p n               the least number; the least number above n
--     with_text p n text, without_number p n         the map with another text at n; with none
--     text_of_number p z, number_above p z           the same for a number with a sign
--     cost p                                         what the program takes of the memory
--     StoredProgram, size_of p                       a program with its memory, and the memory that it leaves
--     IsSound p, IsText t                            what every stored program keeps, and each of its texts
--     after_line p memory line                       the map after a line is entered, or why the line is refused
--     text_after_number line, HasText line          the text that a line is to store; it has one
--     program memory b                               the map that an entire text gives, or which source line is refused
--                                                    first, and why
--     listing p                                      the program as text
--     is_program p                                   whether a list of pairs is such a map
use Rattle.std.specs.Prelude.{◌≡◌, ℕ, ◌+◌, ◌-◌, ◌<◌, ◌≤◌, ℤ, pos, negsuc, IsTrue, Bool, not, ◌&&◌}
use Rattle.std.specs.Prelude.{◌==◌, nat_lt, nat_le, if◌then◌else◌, List, [], ◌∷◌, ◌++◌, length}
use Rattle.std.specs.Prelude.{drop, Option, Some, None, Result, Ok, Err, decimal, sum_by, position}
use Rattle.std.specs.Prelude.{flat_map, take}
use Rattle.std.specs.List.{list_all, prefix_len}
use Rattle.std.specs.Ordering.{nat_cmp}
use Rattle.std.specs.FinMap.{find, put, is_sorted}
use Rattle.std.specs.FinMap.Entries.{where_key}
use Rattle.ptb_text.specs.declared.fault.LoadFault.{LoadFault}
use Rattle.ptb_text.specs.declared.fault.LoadFault.TheVariants.{NoNumber, NumberTooBig, TextTooLong, BadByte, Full}
use Rattle.ptb_text.specs.Lines.{is_printable, program_lines}
use Rattle.ptb_text.specs.Digits.{is_blank, is_digit, digits_value, number_limit}

-- ---- the map

abbrev pub Statements : Type 0
Statements = List (ℕ × List ℕ)

abbrev pub text_at : Statements → ℕ → Option (List ℕ)
text_at p n = find nat_cmp n p

abbrev pub first_number : Statements → Option ℕ
first_number [] = None
first_number (s ∷ p) = Some s.0

abbrev pub number_after : Statements → ℕ → Option ℕ
number_after [] n = None
number_after (s ∷ p) n = if nat_lt n s.0 then Some s.0 else number_after p n

-- the text under a number with a sign: below 0 there is none
abbrev pub text_of_number : Statements → ℤ → Option (List ℕ)
text_of_number p (pos n) = text_at p n
text_of_number p (negsuc n) = None

abbrev pub number_above : Statements → ℤ → Option ℕ
number_above p (pos n) = number_after p n
number_above p (negsuc n) = first_number p

abbrev pub with_text : Statements → ℕ → List ℕ → Statements
with_text p n text = put nat_cmp n text p

abbrev pub without_number : Statements → ℕ → Statements
without_number p n = where_key nat_cmp (λ k. not (k == n)) p

-- two for a statement's number and one for its end
abbrev pub cost : Statements → ℕ
cost p = sum_by (λ s. length s.1 + 3) p

-- ---- limits

abbrev pub text_limit : ℕ
text_limit = 255

abbrev pub program_limit : ℕ
program_limit = 1048576

-- a memory that a program can be given
abbrev pub IsMemorySize : ℕ → Type 0
IsMemorySize memory = (64 ≤ memory) × (memory ≤ 32767)

-- ---- entering a line

-- a text without the blanks in front of it
abbrev pub trim_start : List ℕ → List ℕ
trim_start t = drop (prefix_len is_blank t) t

-- a map that the memory has room for
abbrev pub if_room : ℕ → Statements → Result Statements LoadFault
if_room memory p = if nat_lt memory (cost p) then Err Full else Ok p

-- a statement's text is put under its number; an empty text deletes the statement
abbrev pub after_statement : Statements → ℕ → ℕ → List ℕ → Result Statements LoadFault
after_statement p memory n [] = Ok (without_number p n)
after_statement p memory n (b ∷ bs) =
    if nat_lt text_limit (length (b ∷ bs)) then Err TextTooLong else if_room memory (with_text p n (b ∷ bs))

-- a line of printable bytes with no blanks in front: a number, and what follows it
abbrev pub after_trimmed : Statements → ℕ → List ℕ → Result Statements LoadFault
after_trimmed p memory [] = Ok p
after_trimmed p memory (b ∷ bs) =
    let k = prefix_len is_digit (b ∷ bs) in
    let n = digits_value (take k (b ∷ bs)) in
    if n == 0 then Err NoNumber
    else (if nat_lt number_limit n then Err NumberTooBig
    else after_statement p memory n (trim_start (drop k (b ∷ bs))))

-- the first byte that doesn't print, by its index, is refused before anything else is looked at
abbrev pub unless_bad_byte : Option ℕ → Statements → ℕ → List ℕ → Result Statements LoadFault
unless_bad_byte (Some k) p memory line = Err (BadByte (k + 1))
unless_bad_byte None p memory line = after_trimmed p memory (trim_start line)

abbrev pub after_line : Statements → ℕ → List ℕ → Result Statements LoadFault
after_line p memory line = unless_bad_byte (position (λ b. not (is_printable b)) line) p memory line

-- what follows the number of a line, without blanks in front
abbrev pub text_after_number : List ℕ → List ℕ
text_after_number line = let t = trim_start line in trim_start (drop (prefix_len is_digit t) t)

-- the line has a text to store: it isn't blank, and deletes no statement
abbrev pub HasText : List ℕ → Type 0
HasText line = 0 < length (text_after_number line)

-- ---- an entire text

-- lines are entered one after the other, from source line k on, up to the first refusal
unfoldable pub after_lines : List (List ℕ) → ℕ → Statements → ℕ → Result Statements (ℕ × LoadFault)
after_lines [] k p memory = Ok p
after_lines (line ∷ lines) k p memory =
    elim (after_line p memory line) [ Ok q ↦ after_lines lines (k + 1) q memory | Err fault ↦ Err (k, fault) ]

abbrev pub program : ℕ → List ℕ → Result Statements (ℕ × LoadFault)
program memory b = after_lines (program_lines b) 1 [] memory

-- a statement as a line: its number, a space and its text
abbrev pub line_of : ℕ × List ℕ → List ℕ
line_of s = decimal s.0 ++ 32 ∷ s.1 ++ 10 ∷ []

abbrev pub listing : Statements → List ℕ
listing p = flat_map line_of p

-- a statement that the map may have
abbrev pub is_statement : ℕ × List ℕ → Bool
is_statement s =
    nat_lt 0 s.0 && nat_le s.0 number_limit && nat_lt 0 (length s.1) && nat_le (length s.1) text_limit
    && list_all is_printable s.1 && length (trim_start s.1) == length s.1

-- the same of a text, in plain facts
pub record IsText (t : List ℕ) : Type 0 where
  pub not_empty : 0 < length t
  pub short : length t ≤ text_limit
  pub printable : IsTrue (list_all is_printable t)
  pub no_blank_in_front : length (trim_start t) ≡ length t

-- the numbers rise, and each statement is one
abbrev pub is_program : Statements → Bool
is_program p = is_sorted nat_cmp p && list_all is_statement p

-- ---- a stored program

-- a program and the memory that it is given
pub record StoredProgram : Type 0 where
  pub lines : Statements
  pub memory : ℕ

-- SIZE: the memory that the program leaves
abbrev pub size_of : StoredProgram → ℕ
size_of p = p.memory - cost p.lines

-- the lines are a program's, and the memory has room for them
pub record IsSound (p : StoredProgram) : Type 0 where
  pub is_map : IsTrue (is_program p.lines)
  pub fits : cost p.lines ≤ p.memory
  pub memory_size : IsMemorySize p.memory
