-- This file proves what holds of all that is found: that it lies ahead, and what the next byte says about it.
-- Main lemma: `finding_laws`.
use Rattle.std.proofs.Common.{◌≡◌, ℕ, ◌+◌, ◌<◌, ◌≤◌, ◌⊎◌, ◌∙◌, Bool, true, false, cond, leb, eqb}
use Rattle.std.proofs.Common.{List, [], ◌∷◌, map, length, drop, take, Option, Some, None, refl, sym}
use Rattle.std.proofs.Common.{ap, subst, arith, length-drop, ℤ, pos, inl, inr, rules}
use Rattle.std.specs.Prelude.{◌&&◌, ◌==◌, nat_eq, find, position, option_map, ◌≤ℤ◌}
use Rattle.std.specs.Option.{option_or}
use Rattle.std.specs.List.{starts_with, prefix_len, AllByRecursion}
use Rattle.std.proofs.lemmas.Bool.{and_parts, false≢true, eqb-false, eqb-true, ltb-true, leb-true}
use Rattle.std.proofs.lemmas.Bool.{cases_lt, le-leb, lt-leb, cond-false}
use Rattle.std.proofs.lemmas.Option.{cond_some, some_pair_parts, slice_get_within, slice_get-get_or}
use Rattle.std.proofs.lemmas.Option.{get_or_from_slice_get}
use Rattle.std.proofs.lemmas.Int.{ints}
use Rattle.std.proofs.lemmas.List.{drop_more, drop_all}
use Rattle.std.proofs.lemmas.List.Sums.{prefix_len-le-length}
use Rattle.ptb_text.specs.declared.word.Table.{Table}
use Rattle.ptb_text.specs.declared.word.Table.TheVariants.{Commands, Functions, To, Step}
use Rattle.ptb_text.specs.declared.word.Word.{Word}
use Rattle.ptb_text.specs.declared.word.Number.{Number}
use Rattle.ptb_text.specs.declared.word.Number.TheVariants.{Absent, Value, TooBig}
use Rattle.ptb_text.specs.Digits.{is_digit, digits_value}
use Rattle.ptb_text.specs.Words.{past_blanks, next_byte_at, Spelling, words, abbreviations, spellings}
use Rattle.ptb_text.specs.Words.{spelling_in_front, first_word, word_at, begins_word, IsWordOf}
use Rattle.ptb_text.specs.Words.{bytes_at, is_letter, letter_there, letter_at, small_number}
use Rattle.ptb_text.specs.Words.{is_number, number_at, Quotation, NoQuote, QuotedText, is_quote}
use Rattle.ptb_text.specs.Words.{quotation_up_to, quotation_there, quotation_at, is_quotation}
use Rattle.ptb_text.specs.FoundParts.{LiesAhead, past_byte, IsNextToken, FindingLaws}
use Rattle.ptb_text.proofs.Words.{words_have_letters, first_word_end, finds_none}
use Rattle.ptb_text.proofs.Blanks.{past_blanks_from, past_blanks_within, past_blanks_twice}

-- ---- it lies ahead

-- the place after k bytes and the blanks after them
ahead : (t : List ℕ) (i b k : ℕ) → i ≤ b → 0 < k → b + k ≤ length t → LiesAhead t i (past_blanks t (b + k))
ahead t i b k h some w = record {
  after = omega (arith, past_blanks_from t (b + k));
  within = past_blanks_within t (b + k) w;
  settled = past_blanks_twice t (b + k);
}

-- a text that begins with some bytes is no shorter
starts_length : (s xs : List ℕ) → starts_with nat_eq xs s ≡ true → length s ≤ length xs
starts_length [] xs e = omega arith
starts_length (c ∷ s) [] e = absurd (false≢true e)
starts_length (c ∷ s) (x ∷ xs) e =
    omega (arith, starts_length s xs (and_parts (nat_eq c x) (starts_with nat_eq xs s) e).1)

starts_within : (s t : List ℕ) (b : ℕ) → 0 < length s → starts_with nat_eq (drop b t) s ≡ true → b + length s ≤ length t
starts_within s t b some e = omega (arith, starts_length s (drop b t) e, length-drop b t)

pub bytes_ahead : (c : ℕ) (s t : List ℕ) (i j : ℕ) → bytes_at (c ∷ s) t i ≡ Some j → LiesAhead t i j
unfolding bytes_at
bytes_ahead c s t i j e =
    let h = cond_some _ _ _ e in
    subst (λ n. LiesAhead t i n) h.1 (ahead t i (past_blanks t i) (length (c ∷ s)) (past_blanks_from t i) (omega arith)
    (starts_within (c ∷ s) t (past_blanks t i) (omega arith) h.0))

-- ---- a letter

letter_parts : (t : List ℕ) (b : ℕ) (o : Option ℕ) (c j : ℕ) → letter_there t b o ≡ Some (c, j)
    → (o ≡ Some c) × (is_letter c ≡ true) × (past_blanks t (b + 1) ≡ j)
letter_parts t b None c j e = absurd cc
letter_parts t b (Some d) c j e =
    let h = cond_some (is_letter d) (d, past_blanks t (b + 1)) (c, j) e in
    let same : d ≡ c = ap (λ (p : ℕ × ℕ). p.0) h.1 in
    (ap Some same, subst (λ x. is_letter x ≡ true) same h.0, ap (λ (p : ℕ × ℕ). p.1) h.1)

pub letter_ahead : (t : List ℕ) (i c j : ℕ) → letter_at t i ≡ Some (c, j) → LiesAhead t i j
unfolding letter_at
letter_ahead t i c j e =
    let h = letter_parts t (past_blanks t i) (next_byte_at t i) c j e in
    subst (λ n. LiesAhead t i n) h.2 (ahead t i (past_blanks t i) 1 (past_blanks_from t i) (omega arith)
    (omega (arith, slice_get_within t (past_blanks t i) c h.0)))

pub letter_range : (t : List ℕ) (i c j : ℕ) → letter_at t i ≡ Some (c, j) → (65 ≤ c) × (c ≤ 90)
unfolding letter_at
letter_range t i c j e =
    let h = letter_parts t (past_blanks t i) (next_byte_at t i) c j e in
    let range = and_parts (leb 65 c) (leb c 90) h.1 in
    (leb-true 65 c range.0, leb-true c 90 range.1)

-- ---- a number

pub small_number_is : (n : ℕ) → is_number (small_number n) ≡ true
small_number_is n =
    elim (leb n 32767) as (λ v. is_number (cond v (Value (pos n)) TooBig) ≡ true) [ true ↦ refl | false ↦ refl ]

pub small_number_value : (n : ℕ) (v : ℤ) → small_number n ≡ Value v → (n ≤ 32767) × (pos n ≡ v)
small_number_value n v e = go (leb n 32767) refl e
  where
    go : (b : Bool) → leb n 32767 ≡ b → cond b (Value (pos n)) TooBig ≡ Value v → (n ≤ 32767) × (pos n ≡ v)
    go true h e = (leb-true n 32767 h, cc)
    go false h e = absurd cc

-- what a number at i is: none, or the digits there
pub number_cases : (t : List ℕ) (i : ℕ) (n : Number) (j : ℕ) → number_at t i ≡ (n, j)
    → ((prefix_len is_digit (drop (past_blanks t i) t) ≡ 0) × (n ≡ Absent) × (j ≡ i))
    ⊎ ((0 < prefix_len is_digit (drop (past_blanks t i) t)) × (small_number
    (digits_value (take (prefix_len is_digit (drop (past_blanks t i) t)) (drop (past_blanks t i) t))) ≡ n)
    × (past_blanks t (past_blanks t i + prefix_len is_digit (drop (past_blanks t i) t)) ≡ j))
unfolding number_at
number_cases t i n j e = go (eqb k 0) refl e
  where
    k : ℕ
    k = prefix_len is_digit (drop (past_blanks t i) t)

    x : Number
    x = small_number (digits_value (take k (drop (past_blanks t i) t)))

    go : (b : Bool) → eqb k 0 ≡ b
        → ◌≡◌ {A = Number × ℕ} (cond b (Absent, i) (x, past_blanks t (past_blanks t i + k))) (n, j)
        → ((k ≡ 0) × (n ≡ Absent) × (j ≡ i)) ⊎ ((0 < k) × (x ≡ n) × (past_blanks t (past_blanks t i + k) ≡ j))
    go true h e = inl (eqb-true k 0 h, sym (ap (λ (p : Number × ℕ). p.0) e), sym (ap (λ (p : Number × ℕ). p.1) e))
    go false h e = inr (omega (arith, eqb-false k 0 h), ap (λ (p : Number × ℕ). p.0) e, ap (λ (p : Number × ℕ). p.1) e)

pub number_ahead : (t : List ℕ) (i : ℕ) (n : Number) (j : ℕ) → number_at t i ≡ (n, j) → is_number n ≡ true
    → LiesAhead t i j
number_ahead t i n j e some = elim (number_cases t i n j e) [
  | inl h ↦ absurd (false≢true (sym (ap is_number h.1) ∙ some))
  | inr h ↦ subst (λ m. LiesAhead t i m) h.2
      (ahead t i (past_blanks t i) (prefix_len is_digit (drop (past_blanks t i) t)) (past_blanks_from t i) h.0 (omega
      (arith, h.0, prefix_len-le-length is_digit (drop (past_blanks t i) t), length-drop (past_blanks t i) t)))
]

pub no_number : (t : List ℕ) (i j : ℕ) → number_at t i ≡ (Absent, j) → j ≡ i
no_number t i j e = elim (number_cases t i Absent j e) [
  | inl h ↦ h.2
  | inr h ↦ absurd (false≢true (sym (ap is_number h.1) ∙ small_number_is _))
]

in_range : (n : ℕ) (v : ℤ) → (n ≤ 32767) × (pos n ≡ v) → (pos 0 ≤ℤ v) × (v ≤ℤ pos 32767)
in_range n v h =
    let low : pos 0 ≤ℤ pos n = omega (arith, ints) in
    let high : pos n ≤ℤ pos 32767 = omega (arith, ints, h.0) in
    subst (λ w. (pos 0 ≤ℤ w) × (w ≤ℤ pos 32767)) h.1 (low, high)

pub number_range : (t : List ℕ) (i : ℕ) (v : ℤ) (j : ℕ) → number_at t i ≡ (Value v, j) → (pos 0 ≤ℤ v) × (v ≤ℤ pos 32767)
number_range t i v j e = elim (number_cases t i (Value v) j e) [
  | inl h ↦ absurd cc
  | inr h ↦ in_range _ v (small_number_value _ v h.1)
]

-- ---- a word

abbrev HasByte : List ℕ → Type 0
HasByte s = 0 < length s

after_have_bytes : (c : ℕ) (ss : List (List ℕ)) → AllByRecursion HasByte (map (λ s. c ∷ s) ss)
after_have_bytes c [] = tt
after_have_bytes c (s ∷ ss) = (omega arith, after_have_bytes c ss)

abbreviations_have_bytes : (letters : List ℕ) → AllByRecursion HasByte (abbreviations letters)
abbreviations_have_bytes [] = tt
abbreviations_have_bytes (c ∷ []) = tt
abbreviations_have_bytes (c ∷ d ∷ cs) = (omega arith, after_have_bytes c (abbreviations (d ∷ cs)))

-- what is found has what all have, and passes the test
find_has : {A : Type 0} (P : A → Type 0) (p : A → Bool) (xs : List A) (y : A) → AllByRecursion P xs → find p xs ≡ Some y
    → P y × (p y ≡ true)
find_has P p [] y h e = absurd cc
find_has P p (x ∷ xs) y h e = go (p x) refl (λ e. find_has P p xs y h.1 e) e
  where
    go : (b : Bool) → p x ≡ b → (find p xs ≡ Some y → P y × (p y ≡ true)) → cond b (Some x) (find p xs) ≡ Some y
        → P y × (p y ≡ true)
    go true t others e = let same : x ≡ y = cc in (subst P same h.0, subst (λ z. p z ≡ true) same t)
    go false t others e = others e

-- a spelling has a byte at least, where the word has
spelling_has : (letters rest s : List ℕ) → HasByte letters → spelling_in_front letters rest ≡ Some s
    → HasByte s × (starts_with nat_eq rest s ≡ true)
unfolding spelling_in_front
spelling_has letters rest s some e =
    find_has HasByte (λ s. starts_with nat_eq rest s) (spellings letters) s (some, abbreviations_have_bytes letters) e

-- an entry has a letter, and a word that the table has
abbrev IsSpellingOf : Table → Spelling → Type 0
IsSpellingOf table w = HasByte w.1 × IsWordOf table w.0

words_are : (table : Table) → AllByRecursion (IsSpellingOf table) (words table)
words_are Commands = search rules
words_are Functions = search rules
words_are To = search rules
words_are Step = search rules

first_word_ahead : (table : Table) (ws : List Spelling) (t : List ℕ) (i b : ℕ) (w : Word) (j : ℕ) → i ≤ b
    → AllByRecursion (IsSpellingOf table) ws → first_word ws t b ≡ Some (w, j) → LiesAhead t i j × IsWordOf table w
first_word_ahead table [] t i b w j h all e = absurd cc
first_word_ahead table (x ∷ ws) t i b w j h all e =
    go (spelling_in_front x.1 (drop b t)) refl (λ e. first_word_ahead table ws t i b w j h all.1 e) e
  where
    go : (o : Option (List ℕ)) → spelling_in_front x.1 (drop b t) ≡ o
        → (first_word ws t b ≡ Some (w, j) → LiesAhead t i j × IsWordOf table w)
        → option_or (option_map (λ s. (x.0, past_blanks t (b + length s))) o) (first_word ws t b) ≡ Some (w, j)
        → LiesAhead t i j × IsWordOf table w
    go None o others e = others e
    go (Some s) o others e =
        let found = spelling_has x.1 (drop b t) s all.0.0 o in
        let parts = some_pair_parts x.0 w (past_blanks t (b + length s)) j e in (
          subst (λ n. LiesAhead t i n) parts.1 (ahead t i b (length s) h found.0 (starts_within s t b found.0 found.1)),
          subst (IsWordOf table) parts.0 all.0.1,
        )

pub word_ahead : (table : Table) (t : List ℕ) (i : ℕ) (w : Word) (j : ℕ) → word_at table t i ≡ Some (w, j)
    → LiesAhead t i j × IsWordOf table w
unfolding word_at
word_ahead table t i w j e =
    first_word_ahead table (words table) t i (past_blanks t i) w j (past_blanks_from t i) (words_are table) e

-- ---- a string

quotation_up_to_ahead : (t : List ℕ) (i b : ℕ) (q : ℕ) (s : List ℕ) (j : ℕ) → i ≤ b
    → quotation_up_to t b (position (λ c. c == q) (drop b t)) ≡ QuotedText s j → LiesAhead t i j
quotation_up_to_ahead t i b q s j h e = go (position (λ c. c == q) (drop b t)) refl e
  where
    go : (o : Option ℕ) → position (λ c. c == q) (drop b t) ≡ o → quotation_up_to t b o ≡ QuotedText s j
        → LiesAhead t i j
    go None o e = absurd cc
    go (Some k) o e =
        let found = cond_some _ _ _ o in
        let end : past_blanks t (b + k + 1) ≡ j = cc in
        subst (λ n. LiesAhead t i n) end (ahead t i (b + k) 1 (omega arith) (omega arith)
        (omega (arith, ltb-true _ _ found.0, found.1, length-drop b t)))

pub quotation_ahead : (t : List ℕ) (i : ℕ) (s : List ℕ) (j : ℕ) → quotation_at t i ≡ QuotedText s j → LiesAhead t i j
unfolding quotation_at
quotation_ahead t i s j e = go (next_byte_at t i) e
  where
    there : (c : Bool) (q : ℕ)
        → cond c (quotation_up_to t (past_blanks t i + 1) (position (λ c. c == q) (drop (past_blanks t i + 1) t)))
        NoQuote ≡ QuotedText s j
        → LiesAhead t i j
    there true q e = quotation_up_to_ahead t i (past_blanks t i + 1) q s j (omega (arith, past_blanks_from t i)) e
    there false q e = absurd cc

    go : (o : Option ℕ) → quotation_there t (past_blanks t i) o ≡ QuotedText s j → LiesAhead t i j
    go None e = absurd cc
    go (Some q) e = there (is_quote q) q e

-- ---- what the next byte says

byte_there : (t : List ℕ) (i b : ℕ) → next_byte_at t i ≡ Some b
    → drop (past_blanks t i) t ≡ b ∷ drop (past_blanks t i + 1) t
byte_there t i b e =
    let h = slice_get_within t (past_blanks t i) b e in
    drop_more t (past_blanks t i) 0 h
    ∙ ap (λ c. c ∷ drop (past_blanks t i + 1) t) (get_or_from_slice_get t (past_blanks t i) b 0 e)

past_end : (t : List ℕ) (i : ℕ) → next_byte_at t i ≡ None → length t ≤ past_blanks t i
past_end t i e = elim (cases_lt (past_blanks t i) (length t)) [
  | inl h ↦ let there = slice_get-get_or t (past_blanks t i) 0 h in absurd cc
  | inr h ↦ h
]

-- what a byte makes of a token, a number and a string

token_by : (c b : ℕ) (x : Option ℕ) → cond (eqb c b && true) x None ≡ cond (eqb c b) x None
token_by c b x =
    elim (eqb c b) as (λ v. ◌≡◌ {A = Option ℕ} (cond (v && true) x None) (cond v x None)) [ true ↦ refl | false ↦ refl ]

no_number_by : (t : List ℕ) (i b : ℕ) → drop (past_blanks t i) t ≡ b ∷ drop (past_blanks t i + 1) t → is_digit b ≡ false
    → number_at t i ≡ (Absent, i)
unfolding number_at
no_number_by t i b there n = rw (there, n) refl

number_by : (t : List ℕ) (i b : ℕ) → drop (past_blanks t i) t ≡ b ∷ drop (past_blanks t i + 1) t
    → is_number (number_at t i).0 ≡ is_digit b
number_by t i b there = go (is_digit b) refl
  where
    go : (v : Bool) → is_digit b ≡ v → is_number (number_at t i).0 ≡ v
    go false n = ap (λ (x : Number × ℕ). is_number x.0) (no_number_by t i b there n)
    go true y = elim (number_cases t i (number_at t i).0 (number_at t i).1 refl) [
      | inl h ↦ let one : prefix_len is_digit (drop (past_blanks t i) t)
          ≡ 1 + prefix_len is_digit (drop (past_blanks t i + 1) t) = rw (there, y) refl in
          absurd (omega (arith, h.0))
      | inr h ↦ ap is_number (sym h.1) ∙ small_number_is _
    ]

quotation_up_to_is : (t : List ℕ) (b : ℕ) (o : Option ℕ) → is_quotation (quotation_up_to t b o) ≡ true
quotation_up_to_is t b None = refl
quotation_up_to_is t b (Some k) = refl

quotation_by : (t : List ℕ) (b q : ℕ) → is_quotation (quotation_there t b (Some q)) ≡ is_quote q
quotation_by t b q = go (is_quote q)
  where
    x : Quotation
    x = quotation_up_to t (b + 1) (position (λ c. c == q) (drop (b + 1) t))

    go : (v : Bool) → is_quotation (cond v x NoQuote) ≡ v
    go true = quotation_up_to_is t (b + 1) _
    go false = refl

no_word : (table : Table) (t : List ℕ) (i b : ℕ) → next_byte_at t i ≡ Some b → begins_word table b ≡ false
    → word_at table t i ≡ None
unfolding word_at
no_word table t i b e n =
    let h = slice_get_within t (past_blanks t i) b e in
    (finds_none table t (past_blanks t i) h (rw (get_or_from_slice_get t (past_blanks t i) b 0 e) n)).first

stands_byte : (t : List ℕ) (i b : ℕ) → next_byte_at t i ≡ Some b → IsNextToken t i (Some b)
unfolding bytes_at letter_at quotation_at
stands_byte t i b e = let there = byte_there t i b e in record {
  byte = e;
  over = lt-leb (length t) (past_blanks t i) (slice_get_within t (past_blanks t i) b e);
  token = λ c. rw there (token_by c b (Some (past_byte t i)));
  pair = λ c d n. rw (there, n) refl;
  letter = ap (λ o. letter_there t (past_blanks t i) o) e;
  word = λ table n. no_word table t i b e n;
  no_number = λ n. no_number_by t i b there n;
  number = number_by t i b there;
  no_quotation = λ n. ap (λ o. quotation_there t (past_blanks t i) o) e ∙ cond-false (is_quote b) _ NoQuote n;
  quotation = ap (λ o. is_quotation (quotation_there t (past_blanks t i) o)) e ∙ quotation_by t (past_blanks t i) b;
}

represents_end : (t : List ℕ) (i : ℕ) → next_byte_at t i ≡ None → IsNextToken t i None
unfolding bytes_at letter_at word_at number_at quotation_at
represents_end t i e = let end = drop_all (past_blanks t i) t (past_end t i e) in record {
  byte = e;
  over = le-leb (length t) (past_blanks t i) (past_end t i e);
  token = λ c. rw end refl;
  pair = λ c d n. rw end refl;
  letter = ap (λ o. letter_there t (past_blanks t i) o) e;
  word = λ table n. first_word_end (words table) t (past_blanks t i) (words_have_letters table) end;
  no_number = λ n. rw end refl;
  number = rw end refl;
  no_quotation = λ n. ap (λ o. quotation_there t (past_blanks t i) o) e;
  quotation = ap (λ o. is_quotation (quotation_there t (past_blanks t i) o)) e;
}

pub stands_next : (t : List ℕ) (i : ℕ) (next : Option ℕ) → next_byte_at t i ≡ next → IsNextToken t i next
stands_next t i None e = represents_end t i e
stands_next t i (Some b) e = stands_byte t i b e

-- ---- the laws

pub finding_laws : FindingLaws
finding_laws = record {
  forward = past_blanks_from;
  within = past_blanks_within;
  twice = past_blanks_twice;
  word = λ table t i w j e. (word_ahead table t i w j e).0;
  word_of = λ table t i w j e. (word_ahead table t i w j e).1;
  token = λ c t i j e. bytes_ahead c [] t i j e;
  pair = λ c d t i j e. bytes_ahead c (d ∷ []) t i j e;
  letter = letter_ahead;
  letter_range = letter_range;
  number = number_ahead;
  no_number = no_number;
  number_range = number_range;
  quotation = quotation_ahead;
  next = λ t i. stands_next t i (next_byte_at t i) refl;
}
