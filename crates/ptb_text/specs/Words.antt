-- This file defines what is at a place of a text. A place counts the bytes before it.
-- Blanks before and after are passed, and nothing else is taken.
-- Main definition: `word_at`.
--     past_blanks t i              where the blanks at i end
--     next_byte_at t i             the byte that is there
--     is_over t i                  whether only blanks follow from i on
--     word_at table t i            the first word of the table that is there, and the place after it
--     token_at c t i               the place after the byte c, if it is there
--     pair_at c d t i              the place after two adjacent bytes
--     letter_at t i                a letter A to Z, and the place after it
--     number_at t i                what the longest run of digits writes, and the place after it
--     quotation_at t i             the text between two equal quotes, and the place after it
use Rattle.std.specs.Prelude.{◌≡◌, ℕ, ◌+◌, Bool, true, false, ◌&&◌, ◌||◌, ◌==◌, nat_le, nat_eq}
use Rattle.std.specs.Prelude.{if◌then◌else◌, List, [], ◌∷◌, length, map, drop, take, Option, Some}
use Rattle.std.specs.Prelude.{None, option_map, find, position, codes, slice_get, slice_range, pos}
use Rattle.std.specs.List.{starts_with, prefix_len, list_any}
use Rattle.std.specs.Option.{option_or}
use Rattle.ptb_text.specs.declared.word.Table.{Table}
use Rattle.ptb_text.specs.declared.word.Table.TheVariants.{Commands, Functions, To, Step}
use Rattle.ptb_text.specs.declared.word.Word.{Word}
use Rattle.ptb_text.specs.declared.word.Word.TheVariants.{NextKw, LetKw, IfKw, GotoKw, GosubKw}
use Rattle.ptb_text.specs.declared.word.Word.TheVariants.{ReturnKw, RemKw, ForKw, InputKw, PrintKw}
use Rattle.ptb_text.specs.declared.word.Word.TheVariants.{StopKw, RndKw, AbsKw, SizeKw, ToKw}
use Rattle.ptb_text.specs.declared.word.Word.TheVariants.{StepKw}
use Rattle.ptb_text.specs.declared.word.Number.{Number}
use Rattle.ptb_text.specs.declared.word.Number.TheVariants.{Absent, Value, TooBig}
use Rattle.ptb_text.specs.declared.word.Quoted.{Quoted}
use Rattle.ptb_text.specs.declared.word.Quoted.TheVariants as quoted
use Rattle.ptb_text.specs.Digits.{is_blank, is_digit, digits_value, number_limit}

unfoldable pub past_blanks : List ℕ → ℕ → ℕ
past_blanks t i = i + prefix_len is_blank (drop i t)

abbrev pub next_byte_at : List ℕ → ℕ → Option ℕ
next_byte_at t i = slice_get t (past_blanks t i)

abbrev pub is_over : List ℕ → ℕ → Bool
is_over t i = nat_le (length t) (past_blanks t i)

-- ---- words

-- a word and its letters
abbrev pub Spelling : Type 0
Spelling = Word × List ℕ

-- the words of a table, in the order in which they are tried
abbrev pub words : Table → List Spelling
words Commands =
    (NextKw, codes "NEXT") ∷ (LetKw, codes "LET") ∷ (IfKw, codes "IF") ∷ (GotoKw, codes "GOTO")
    ∷ (GosubKw, codes "GOSUB")
    ∷ (ReturnKw, codes "RETURN") ∷ (RemKw, codes "REM") ∷ (ForKw, codes "FOR") ∷ (InputKw, codes "INPUT")
    ∷ (PrintKw, codes "PRINT")
    ∷ (StopKw, codes "STOP") ∷ []
words Functions = (RndKw, codes "RND") ∷ (AbsKw, codes "ABS") ∷ (SizeKw, codes "SIZE") ∷ []
words To = (ToKw, codes "TO") ∷ []
words Step = (StepKw, codes "STEP") ∷ []

-- a word's abbreviations: some of its letters from the front, but not all, and a period
abbrev pub abbreviations : List ℕ → List (List ℕ)
abbreviations [] = []
abbreviations (c ∷ []) = []
abbreviations (c ∷ d ∷ cs) = (c ∷ codes ".") ∷ map (λ s. c ∷ s) (abbreviations (d ∷ cs))

-- the ways to write a word
abbrev pub spellings : List ℕ → List (List ℕ)
spellings letters = letters ∷ abbreviations letters

-- the spelling of a word that a text begins with
unfoldable pub spelling_in_front : List ℕ → List ℕ → Option (List ℕ)
spelling_in_front letters rest = find (λ s. starts_with nat_eq rest s) (spellings letters)

-- the first of these words that is at place b
abbrev pub first_word : List Spelling → List ℕ → ℕ → Option (Word × ℕ)
first_word [] t b = None
first_word (w ∷ ws) t b =
    option_or (option_map (λ s. (w.0, past_blanks t (b + length s))) (spelling_in_front w.1 (drop b t)))
    (first_word ws t b)

unfoldable pub word_at : Table → List ℕ → ℕ → Option (Word × ℕ)
word_at table t i = first_word (words table) t (past_blanks t i)

-- whether a word of the table begins with this byte
abbrev pub begins_word : Table → ℕ → Bool
begins_word table b = list_any (λ w. starts_with nat_eq w.1 (b ∷ [])) (words table)

-- the word is one of the table's
abbrev pub IsFunction : Word → Type 0
IsFunction RndKw = Unit {0}
IsFunction AbsKw = Unit {0}
IsFunction SizeKw = Unit {0}
IsFunction _ = ⊥

abbrev pub IsCommand : Word → Type 0
IsCommand RndKw = ⊥
IsCommand AbsKw = ⊥
IsCommand SizeKw = ⊥
IsCommand ToKw = ⊥
IsCommand StepKw = ⊥
IsCommand _ = Unit {0}

abbrev pub IsWordOf : Table → Word → Type 0
IsWordOf Commands w = IsCommand w
IsWordOf Functions w = IsFunction w
IsWordOf To w = w ≡ ToKw
IsWordOf Step w = w ≡ StepKw

-- ---- tokens

-- the place after these bytes, if they are together at i
unfoldable pub bytes_at : List ℕ → List ℕ → ℕ → Option ℕ
bytes_at s t i = let b = past_blanks t i in
    if starts_with nat_eq (drop b t) s then Some (past_blanks t (b + length s)) else None

abbrev pub token_at : ℕ → List ℕ → ℕ → Option ℕ
token_at c t i = bytes_at (c ∷ []) t i

abbrev pub pair_at : ℕ → ℕ → List ℕ → ℕ → Option ℕ
pair_at c d t i = bytes_at (c ∷ d ∷ []) t i

abbrev pub is_letter : ℕ → Bool
is_letter b = nat_le 65 b && nat_le b 90

-- a letter at b
abbrev pub letter_there : List ℕ → ℕ → Option ℕ → Option (ℕ × ℕ)
letter_there t b (Some c) = if is_letter c then Some (c, past_blanks t (b + 1)) else None
letter_there t b None = None

unfoldable pub letter_at : List ℕ → ℕ → Option (ℕ × ℕ)
letter_at t i = let b = past_blanks t i in letter_there t b (slice_get t b)

-- ---- numbers and strings

-- a number as it is used, if it isn't too big
abbrev pub small_number : ℕ → Number
small_number n = if nat_le n number_limit then Value (pos n) else TooBig

-- whether there is a number, be it too big
abbrev pub is_number : Number → Bool
is_number Absent = false
is_number (Value v) = true
is_number TooBig = true

unfoldable pub number_at : List ℕ → ℕ → Number × ℕ
number_at t i =
    let b = past_blanks t i in
    let k = prefix_len is_digit (drop b t) in
    if k == 0 then (Absent, i) else (small_number (digits_value (take k (drop b t))), past_blanks t (b + k))

pub data Quotation : Type 0 where
  -- no quote is there
  NoQuote : Quotation
  -- a quote without its partner
  OpenQuote : Quotation
  -- the text between two quotes, and the place after the second
  QuotedText : (s : List ℕ) (after : ℕ) → Quotation

-- a quote is ' or "
abbrev pub is_quote : ℕ → Bool
is_quote b = b == 39 || b == 34

-- what is from place i on up to the next quote, which is the k-th byte from there on
abbrev pub quotation_up_to : List ℕ → ℕ → Option ℕ → Quotation
quotation_up_to t i (Some k) = QuotedText (take k (drop i t)) (past_blanks t (i + k + 1))
quotation_up_to t i None = OpenQuote

abbrev pub quotation_there : List ℕ → ℕ → Option ℕ → Quotation
quotation_there t b (Some q) =
    if is_quote q then quotation_up_to t (b + 1) (position (λ c. c == q) (drop (b + 1) t)) else NoQuote
quotation_there t b None = NoQuote

unfoldable pub quotation_at : List ℕ → ℕ → Quotation
quotation_at t i = let b = past_blanks t i in quotation_there t b (slice_get t b)

-- whether there is a quote, be it without its partner
abbrev pub is_quotation : Quotation → Bool
is_quotation NoQuote = false
is_quotation OpenQuote = true
is_quotation (QuotedText s after) = true

-- ---- strings in the program's words

-- whether there is a quote with its partner
abbrev pub is_text : Quoted → Bool
is_text quoted.Absent = false
is_text (quoted.Text s) = true
is_text quoted.Unclosed = false

-- the same with the place after it, which counts for a text alone
abbrev pub quotation_of : Quoted → ℕ → Quotation
quotation_of quoted.Absent after = NoQuote
quotation_of (quoted.Text s) after = QuotedText s.now after
quotation_of quoted.Unclosed after = OpenQuote

-- a string is the piece of the text that begins at this place
abbrev pub IsPieceFrom : ℕ → List ℕ → Quoted → Type 0
IsPieceFrom from t quoted.Absent = Unit {0}
IsPieceFrom from t (quoted.Text s) = s.now ≡ slice_range t from (from + length s.now)
IsPieceFrom from t quoted.Unclosed = Unit {0}
