-- This file proves what a cursor takes: its text is x, and n is the next place without a blank.
-- Main lemmas: `letter_ahead`, `number_value` and `word_taken`.
use Rattle.std.proofs.Common.{◌≡◌, ℕ, ◌+◌, ◌-◌, ◌<◌, ◌≤◌, ◌∙◌, true, false, cond, List, [], ◌∷◌, length, get_or}
use Rattle.std.proofs.Common.{slice_get, zero, suc}
use Rattle.std.proofs.Common.{take, drop, min, Some, None, refl, sym, ap, arith, ℤ, pos}
use Rattle.std.proofs.Common.{length-take-le, length-drop, to_z, of_z, w16, SFits, inl}
use Rattle.std.proofs.Common.{inr, Option, Bool, subst}
use Rattle.std.specs.Prelude.{◌==◌, position, option_map, IsSome}
use Rattle.std.specs.List.{prefix_len, slice_range}
use Rattle.std.proofs.lemmas.Bool.{ne_eqb, le-leb, lt-leb, cases_lt, false≢true}
use Rattle.std.proofs.lemmas.Int.{ints, to_z-of_z}
use Rattle.std.proofs.lemmas.List.{take_rest}
use Rattle.std.proofs.lemmas.List.Sums.{prefix_len-le-length}
use Rattle.ptb_text.specs.declared.numerals.TheConstants.{TOO_BIG}
use Rattle.ptb_text.specs.declared.word.Table.{Table}
use Rattle.ptb_text.specs.declared.word.Word.{Word}
use Rattle.ptb_text.specs.declared.word.Number.{Number}
use Rattle.ptb_text.specs.declared.word.Number.TheVariants.{Absent, Value, TooBig}
use Rattle.ptb_text.specs.CursorState.{CursorState, bytes_left}
use Rattle.ptb_text.specs.Digits.{is_digit, digits_value}
use Rattle.ptb_text.specs.Words.{past_blanks, next_byte_at, words, first_word, word_at, is_letter}
use Rattle.ptb_text.specs.Words.{letter_there, letter_at, small_number, number_at, is_number, is_quote}
use Rattle.ptb_text.specs.Words.{quotation_at, QuotedText, OpenQuote}
use Rattle.ptb_text.specs.FoundParts.{LiesAhead, past_byte, IsNextToken}
use Rattle.ptb_text.proofs.Digits.{digits_stop, digits_end}
use Rattle.ptb_text.proofs.FoundParts.{number_ahead, stands_next}
use Rattle.std.proofs.lemmas.Option.{slice_get-get_or, slice_get_past}

-- what follows from a place on, as the code cuts it
abbrev pub following : List ℕ → ℕ → List ℕ
following x n = take (length x - n) (drop n x)

-- ---- where a cursor is

pub text_is : {v s : CursorState} → v ≡ s → v.text ≡ s.text
text_is e = ap (λ (s : CursorState). s.text) e

pub next_is : {v s : CursorState} {n : ℕ} → v ≡ s → n ≡ past_blanks v.text v.place → n ≡ past_blanks s.text s.place
next_is e at = at ∙ ap (λ (s : CursorState). past_blanks s.text s.place) e

-- what is found leaves fewer bytes
pub ahead_left : (a b : CursorState) → a.text ≡ b.text → LiesAhead b.text b.place a.place → bytes_left a < bytes_left b
ahead_left a b e h = omega (arith, ap length e, h.after, h.within)

-- a number that is taken leaves fewer bytes
pub number_left : (a b : CursorState) (n : Number) → a.text ≡ b.text → number_at b.text b.place ≡ (n, a.place)
    → is_number n ≡ true → bytes_left a < bytes_left b
number_left a b n same found some = ahead_left a b same (number_ahead b.text b.place n a.place found some)

-- ---- a quotation

pub quotation_closed : (t x : List ℕ) (i n m q k p : ℕ) → x ≡ t → n ≡ past_blanks t i → m ≡ past_blanks t i
    → next_byte_at t i ≡ Some q → is_quote q ≡ true → position (λ b. b == q) (following x (n + 1)) ≡ Some k
    → p ≡ past_blanks t (m + 1 + k + 1) → quotation_at t i ≡ QuotedText (take k (following x (n + 1))) p
unfolding quotation_at
quotation_closed t x i n m q k p same at goes byte quote found place =
    let there = rw (take_rest x (n + 1), same, at) at found in
    rw (place, take_rest x (n + 1), same, at, goes, byte, quote, there) refl

pub quotation_open : (t x : List ℕ) (i n q : ℕ) → x ≡ t → n ≡ past_blanks t i → next_byte_at t i ≡ Some q
    → is_quote q ≡ true → position (λ b. b == q) (following x (n + 1)) ≡ None → quotation_at t i ≡ OpenQuote
unfolding quotation_at
quotation_open t x i n q same at byte quote found =
    let there = rw (take_rest x (n + 1), same, at) at found in
    rw (byte, quote, there) refl

pub quoted_piece : (t x : List ℕ) (i n k : ℕ) → x ≡ t → n ≡ past_blanks t i → k < length (following x (n + 1))
    → take k (following x (n + 1)) ≡ slice_range t (past_blanks t i + 1)
    (past_blanks t i + 1 + length (take k (following x (n + 1))))
quoted_piece t x i n k same at h =
    let size : length (take k (following x (n + 1))) ≡ k = length-take-le k (following x (n + 1)) (omega arith) in
    let part : past_blanks t i + 1 + k - (past_blanks t i + 1) ≡ k = omega arith in
    rw (size, part, take_rest x (n + 1), same, at) refl

-- ---- a number

pub digits_within : (t x : List ℕ) (n e : ℕ) → x ≡ t → n ≤ length x → e ≡ n + prefix_len is_digit (drop n x)
    → e ≤ length t
digits_within t x n e same h end =
    rw (sym same) (omega (arith, prefix_len-le-length is_digit (drop n x), length-drop n x, h, end))

pub number_absent : (t x : List ℕ) (i n k : ℕ) → x ≡ t → n ≡ past_blanks t i → k ≡ prefix_len is_digit (following x n)
    → k ≡ 0 → number_at t i ≡ (Absent, i)
unfolding number_at
number_absent t x i n k same at count none =
    let there = rw (take_rest x n, same, at, none) at count in
    rw (sym there) refl

no_digits : (x : List ℕ) (n : ℕ) → is_digit (get_or x n 0) ≡ false → prefix_len is_digit (drop n x) ≡ 0
no_digits x n other = elim (cases_lt n (length x)) [
  | inl h ↦ digits_stop x n h other
  | inr h ↦ digits_end x n h
]

-- the next byte is no digit
pub number_missing : (t x : List ℕ) (i n b : ℕ) → x ≡ t → n ≡ past_blanks t i → b ≡ get_or x n 0 → is_digit b ≡ false
    → number_at t i ≡ (Absent, i)
number_missing t x i n b same at byte other =
    let none : prefix_len is_digit (drop n x) ≡ 0 = no_digits x n (ap is_digit (sym byte) ∙ other) in
    number_absent t x i n 0 same at (sym (ap (prefix_len is_digit) (take_rest x n) ∙ none)) refl

-- a number that is there, whichever it is
number_there : (t x : List ℕ) (i n m k : ℕ) → x ≡ t → n ≡ past_blanks t i → m ≡ past_blanks t i
    → k ≡ prefix_len is_digit (following x n) → (k ≡ 0 → ⊥)
    → number_at t i ≡ (small_number (digits_value (take k (following x n))), past_blanks t (m + k))
unfolding number_at
number_there t x i n m k same at goes count some =
    let there = rw (take_rest x n, same, at) at count in
    rw (take_rest x n, same, at, goes, sym there, ne_eqb k 0 some) refl

pub number_value : (t x : List ℕ) (i n m k v p : ℕ) (z : ℤ) → x ≡ t → n ≡ past_blanks t i → m ≡ past_blanks t i
    → k ≡ prefix_len is_digit (following x n) → (k ≡ 0 → ⊥) → v ≡ min (digits_value (take k (following x n))) TOO_BIG
    → SFits w16 (pos v) × (z ≡ pos v) → p ≡ past_blanks t (m + k) → number_at t i ≡ (Value (to_z w16 (of_z w16 z)), p)
number_value t x i n m k v p z same at goes count some value fits place =
    let low : v ≤ 32767 = omega (arith, ints, fits.0) in
    let all : digits_value (take k (following x n)) ≡ v = omega (arith, value, low) in
    let kept : to_z w16 (of_z w16 z) ≡ pos v = rw fits.1 (to_z-of_z w16 (pos v) fits.0) in
    number_there t x i n m k same at goes count some ∙ rw (place, kept, all, le-leb v 32767 low) refl

pub number_too_big : (t x : List ℕ) (i n m k v p : ℕ) → x ≡ t → n ≡ past_blanks t i → m ≡ past_blanks t i
    → k ≡ prefix_len is_digit (following x n) → (k ≡ 0 → ⊥) → v ≡ min (digits_value (take k (following x n))) TOO_BIG
    → (SFits w16 (pos v) → ⊥) → p ≡ past_blanks t (m + k) → number_at t i ≡ (TooBig, p)
number_too_big t x i n m k v p same at goes count some value big place =
    let high : 32767 < v = elim (cases_lt 32767 v) [
      | inl h ↦ h
      | inr h ↦ let fits : SFits w16 (pos v) = omega (arith, ints) in absurd (big fits)
    ] in
    let all : 32767 < digits_value (take k (following x n)) = omega (arith, value, high) in
    number_there t x i n m k same at goes count some
    ∙ rw (place, lt-leb (digits_value (take k (following x n))) 32767 all) refl

-- digits up to a place
digits_up_to : (x : List ℕ) (n e : ℕ) → e ≡ n + prefix_len is_digit (drop n x)
    → e - n ≡ prefix_len is_digit (following x n)
digits_up_to x n e end =
    let count : e - n ≡ prefix_len is_digit (drop n x) = omega (arith, end) in
    count ∙ ap (prefix_len is_digit) (sym (take_rest x n))

value_up_to : (x : List ℕ) (n k v : ℕ) → v ≡ min (digits_value (take k (drop n x))) TOO_BIG
    → v ≡ min (digits_value (take k (following x n))) TOO_BIG
value_up_to x n k v value = value ∙ ap (λ l. min (digits_value (take k l)) TOO_BIG) (sym (take_rest x n))

place_up_to : (t : List ℕ) (n e p : ℕ) → n < e → p ≡ past_blanks t e → p ≡ past_blanks t (n + (e - n))
place_up_to t n e p some place =
    let whole : e ≡ n + (e - n) = omega (arith, some) in
    place ∙ ap (past_blanks t) whole

pub number_value_at : (t x : List ℕ) (i n e v p : ℕ) (z : ℤ) → x ≡ t → n ≡ past_blanks t i → n < e
    → e ≡ n + prefix_len is_digit (drop n x) → v ≡ min (digits_value (take (e - n) (drop n x))) TOO_BIG
    → SFits w16 (pos v) × (z ≡ pos v) → p ≡ past_blanks t e → number_at t i ≡ (Value (to_z w16 (of_z w16 z)), p)
number_value_at t x i n e v p z same at some end value fits place =
    number_value t x i n n (e - n) v p z same at at (digits_up_to x n e end) (λ q. omega (arith, some, q))
    (value_up_to x n (e - n) v value) fits (place_up_to t n e p some place)

pub number_too_big_at : (t x : List ℕ) (i n e v p : ℕ) → x ≡ t → n ≡ past_blanks t i → n < e
    → e ≡ n + prefix_len is_digit (drop n x) → v ≡ min (digits_value (take (e - n) (drop n x))) TOO_BIG
    → (SFits w16 (pos v) → ⊥) → p ≡ past_blanks t e → number_at t i ≡ (TooBig, p)
number_too_big_at t x i n e v p same at some end value big place =
    number_too_big t x i n n (e - n) v p same at at (digits_up_to x n e end) (λ q. omega (arith, some, q))
    (value_up_to x n (e - n) v value) big (place_up_to t n e p some place)

-- ---- the next byte: b is it, or 0

past_end : (t : List ℕ) (n : ℕ) → length t ≤ n → get_or t n 0 ≡ 0
past_end [] n h = refl
past_end (x ∷ t) zero h = absurd (omega (arith, h))
past_end (x ∷ t) (suc n) h = past_end t n (omega (arith, h))

there : (t : List ℕ) (i n b : ℕ) → n ≡ past_blanks t i → b ≡ get_or t n 0 → n < length t → IsNextToken t i (Some b)
there t i n b at byte h =
    stands_next t i (Some b) (ap (slice_get t) (sym at) ∙ slice_get-get_or t n 0 h ∙ ap Some (sym byte))

pub next_there : (t x : List ℕ) (i n b : ℕ) → x ≡ t → n ≡ past_blanks t i → b ≡ get_or x n 0 → (b ≡ 0 → ⊥)
    → IsNextToken t i (Some b)
next_there t x i n b same at byte some =
    let is : b ≡ get_or t n 0 = byte ∙ ap (λ l. get_or l n 0) same in
    elim (cases_lt n (length t)) [
      | inl h ↦ there t i n b at is h
      | inr h ↦ absurd (some (is ∙ past_end t n h))
    ]

pub next_within : (t x : List ℕ) (i n b : ℕ) → x ≡ t → n ≡ past_blanks t i → b ≡ get_or x n 0 → n ≤ length x
    → (n ≡ length x → ⊥) → IsNextToken t i (Some b)
next_within t x i n b same at byte low before =
    there t i n b at (byte ∙ ap (λ l. get_or l n 0) same) (omega (arith, low, before, ap length same))

pub next_none : (t x : List ℕ) (i n : ℕ) → x ≡ t → n ≡ past_blanks t i → n ≡ length x → IsNextToken t i None
next_none t x i n same at end =
    stands_next t i None (ap (slice_get t) (sym at) ∙ slice_get_past t n (omega (arith, end, ap length same)))

-- ---- a letter

-- what the next byte says of it: b is that byte, or 0
pub letter_ahead : (t x : List ℕ) (i n b : ℕ) (r : Option ℕ) → x ≡ t → n ≡ past_blanks t i → b ≡ get_or x n 0
    → n ≤ length x → r ≡ cond (is_letter b) (Some b) None
    → letter_at t i ≡ option_map (λ c. (c, past_byte t i)) r
letter_ahead t x i n b r same at byte low is = elim (cases_lt n (length x)) [
  | inl h ↦
      (next_within t x i n b same at byte low (λ e. omega (arith, h, e))).letter ∙ go (is_letter b)
      ∙ ap (option_map (λ c. (c, past_byte t i))) (sym is)
  | inr h ↦
      let zero : b ≡ 0 = byte ∙ past_end x n h in
      (next_none t x i n same at (omega (arith, h, low))).letter
      ∙ ap (option_map (λ c. (c, past_byte t i))) (sym (is ∙ ap (λ d. cond (is_letter d) (Some d) None) zero))
] where
  go : (y : Bool) → cond {A = Option (ℕ × ℕ)} y (Some (b, past_byte t i)) None
      ≡ option_map (λ (c : ℕ). (c, past_byte t i)) (cond {A = Option ℕ} y (Some b) None)
  go true = refl
  go false = refl

pub letter_is_there : (t x : List ℕ) (i n b : ℕ) (r : Option ℕ) → x ≡ t → n ≡ past_blanks t i → b ≡ get_or x n 0
    → r ≡ cond (is_letter b) (Some b) None → IsSome r → IsSome (next_byte_at t i)
letter_is_there t x i n b r same at byte is some =
    let not_zero : b ≡ 0 → ⊥ = λ e.
    let none : r ≡ None = is ∙ ap (λ (d : ℕ). cond {A = Option ℕ} (is_letter d) (Some d) None) e in
    false≢true (subst (λ (o : Option ℕ). IsSome o) none some) in
    subst (λ (o : Option ℕ). IsSome o) (sym (next_there t x i n b same at byte not_zero).byte) refl

-- ---- a word

pub word_none : (table : Table) (t x : List ℕ) (i n : ℕ) → x ≡ t → n ≡ past_blanks t i
    → first_word (words table) x n ≡ None → word_at table t i ≡ None
unfolding word_at
word_none table t x i n same at found = rw (same, at) at found

pub word_taken : (table : Table) (t x : List ℕ) (i n : ℕ) (w : Word) (end p : ℕ) → x ≡ t → n ≡ past_blanks t i
    → first_word (words table) x n ≡ Some (w, past_blanks x end) → p ≡ past_blanks t end
    → word_at table t i ≡ Some (w, p)
unfolding word_at
word_taken table t x i n w end p same at found place = rw place (rw (same, at) at found)
