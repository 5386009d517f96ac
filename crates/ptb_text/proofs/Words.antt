-- This file proves how the words of a table are found.
-- Main lemmas: `spelt_word` and `finds_begins`.
use Rattle.std.proofs.Common.{◌≡◌, ℕ, ◌+◌, ◌<◌, ◌≤◌, ◌∙◌, ap, sym, subst, Bool, true, false, cond}
use Rattle.std.proofs.Common.{List, [], ◌∷◌, map, length, drop, get_or, eqb, arith, refl, Option}
use Rattle.std.proofs.Common.{Some, None, inl, inr}
use Rattle.std.specs.Prelude.{◌&&◌, ◌||◌, ◌==◌, not, nat_eq, nat_le, nat_lt, find, filter, option_map, IfSome}
use Rattle.std.specs.Option.{option_or}
use Rattle.std.specs.List.{starts_with, list_any, list_all}
use Rattle.std.proofs.lemmas.Bool.{or_parts, and_parts, cases_eq, eq-eqb, ne_eqb, eqb-false}
use Rattle.std.proofs.lemmas.Bool.{not-true, false≢true, lt-ltb, cases_lt}
use Rattle.std.proofs.lemmas.List.{drop_more, drop_all}
use Rattle.ptb_text.specs.declared.word.Table.{Table}
use Rattle.ptb_text.specs.declared.word.Table.TheVariants.{Commands, Functions, To, Step}
use Rattle.ptb_text.specs.declared.word.Word.{Word}
use Rattle.ptb_text.specs.WordSearch.{FindsWord}
use Rattle.ptb_text.specs.Words.{past_blanks, Spelling, words, abbreviations, spellings}
use Rattle.ptb_text.specs.Words.{spelling_in_front, first_word, word_at, begins_word}

-- ---- spellings, one letter after the other

-- what may follow the first letter of a word, these letters being the others
abbrev endings : List ℕ → List (List ℕ)
endings [] = [] ∷ []
endings (d ∷ ds) = (d ∷ ds) ∷ (46 ∷ []) ∷ abbreviations (d ∷ ds)

spellings_are : (c : ℕ) (cs : List ℕ) → spellings (c ∷ cs) ≡ map (λ s. c ∷ s) (endings cs)
spellings_are c [] = refl
spellings_are c (d ∷ ds) = refl

-- the first of these pieces that is in front
abbrev in_front : List ℕ → List (List ℕ) → Option (List ℕ)
in_front rest ss = find (λ s. starts_with nat_eq rest s) ss

-- the others and this one, all after one more byte
one_more : (same here : Bool) (c : ℕ) (s : List ℕ) (others following : Option (List ℕ))
    → following ≡ cond same (option_map (λ s. c ∷ s) others) None
    → cond (same && here) (Some (c ∷ s)) following
    ≡ cond same (option_map (λ s. c ∷ s) (cond here (Some s) others)) None
one_more true true c s others following e = refl
one_more true false c s others following e = e
one_more false here c s others following e = e

-- pieces that begin with one more byte are in front if that byte is, and the pieces follow it
in_front-map : (c b : ℕ) (rest : List ℕ) (ss : List (List ℕ))
    → in_front (b ∷ rest) (map (λ s. c ∷ s) ss) ≡ cond (eqb c b) (option_map (λ s. c ∷ s) (in_front rest ss)) None
in_front-map c b rest [] =
    elim (eqb c b) as (λ v. ◌≡◌ {A = Option (List ℕ)} None (cond v None None)) [ true ↦ refl | false ↦ refl ]
in_front-map c b rest (s ∷ ss) =
    one_more (eqb c b) (starts_with nat_eq rest s) c s (in_front rest ss) (in_front (b ∷ rest) (map (λ s. c ∷ s) ss))
    (in_front-map c b rest ss)

in_front-map_end : (c : ℕ) (ss : List (List ℕ)) → in_front [] (map (λ s. c ∷ s) ss) ≡ None
in_front-map_end c [] = refl
in_front-map_end c (s ∷ ss) = in_front-map_end c ss

-- ---- the loop over a word's letters

-- the place after the letters that are left of a word, at place p: all of them, or, once a letter was there, fewer and
-- a period
pub spelt : Bool → List ℕ → ℕ → List ℕ → Option ℕ
spelt started [] p s = cond started (Some p) None
spelt started (c ∷ w) p [] = None
spelt started (c ∷ w) p (b ∷ s) =
    cond (eqb b c) (spelt true w (p + 1) s) (cond (started && eqb b 46) (Some (p + 1)) None)

-- no letter is a period
abbrev pub has_no_period : List ℕ → Bool
has_no_period letters = list_all (λ c. not (c == 46)) letters

-- what the abbreviations are worth in front of a text
abbreviations_end : (d : ℕ) (ds : List ℕ) → in_front [] (abbreviations (d ∷ ds)) ≡ None
abbreviations_end d ds = ap (λ ss. in_front [] ss) (spellings_are d ds) ∙ in_front-map_end d (endings ds)

spellings_there : (d b : ℕ) (ds s : List ℕ)
    → in_front (b ∷ s) (spellings (d ∷ ds)) ≡ cond (eqb d b) (option_map (λ w. d ∷ w) (in_front s (endings ds))) None
spellings_there d b ds s = ap (λ ss. in_front (b ∷ s) ss) (spellings_are d ds) ∙ in_front-map d b s (endings ds)

spellings_same : (d b : ℕ) (ds s : List ℕ) → b ≡ d
    → in_front (b ∷ s) (spellings (d ∷ ds)) ≡ option_map (λ w. d ∷ w) (in_front s (endings ds))
spellings_same d b ds s e =
    spellings_there d b ds s
    ∙ ap (λ v. cond v (option_map (λ w. d ∷ w) (in_front s (endings ds))) None) (eq-eqb d b (sym e))

spellings_other : (d b : ℕ) (ds s : List ℕ) → (b ≡ d → ⊥) → in_front (b ∷ s) (spellings (d ∷ ds)) ≡ None
spellings_other d b ds s n =
    spellings_there d b ds s
    ∙ ap (λ v. cond v (option_map (λ w. d ∷ w) (in_front s (endings ds))) None) (ne_eqb d b (λ q. n (sym q)))

one_longer : (p d : ℕ) (o : Option (List ℕ))
    → option_map (λ w. p + 1 + length w) o ≡ option_map (λ w. p + length w) (option_map (λ w. d ∷ w) o)
one_longer p d None = refl
one_longer p d (Some w) = let e : p + 1 + length w ≡ p + length (d ∷ w) = omega arith in ap Some e

spelt_on : (d : ℕ) (ds : List ℕ) (b : ℕ) (s : List ℕ) (p : ℕ) → b ≡ d → (b ≡ 46 → ⊥)
    → spelt true ds (p + 1) s ≡ option_map (λ w. p + 1 + length w) (in_front s (endings ds))
    → spelt true (d ∷ ds) p (b ∷ s) ≡ option_map (λ w. p + length w) (in_front (b ∷ s) (endings (d ∷ ds)))
unfolding spelt
spelt_on d ds b s p e n others =
    let there = rw (eq-eqb d b (sym e)) at (spellings_there d b ds s) in
    rw (eq-eqb b d e, eq-eqb d b (sym e), ne_eqb 46 b (λ q. n (sym q)))
    (others ∙ one_longer p d (in_front s (endings ds)) ∙ ap (λ o. option_map (λ w. p + length w) o) (sym there))

spelt_off : (d : ℕ) (ds : List ℕ) (b : ℕ) (s : List ℕ) (p : ℕ) → (b ≡ d → ⊥)
    → spelt true (d ∷ ds) p (b ∷ s) ≡ option_map (λ w. p + length w) (in_front (b ∷ s) (endings (d ∷ ds)))
unfolding spelt
spelt_off d ds b s p n =
    let there = rw (ne_eqb d b (λ q. n (sym q))) at (spellings_there d b ds s) in
    rw (ne_eqb b d n, ne_eqb d b (λ q. n (sym q)), there) (elim (cases_eq b 46) [
      | inl e ↦ rw (eq-eqb b 46 e, eq-eqb 46 b (sym e)) refl
      | inr m ↦ rw (ne_eqb b 46 m, ne_eqb 46 b (λ q. m (sym q))) refl
    ])

spelt_endings : (cs s : List ℕ) (p : ℕ) → has_no_period cs ≡ true
    → spelt true cs p s ≡ option_map (λ w. p + length w) (in_front s (endings cs))
unfolding spelt
spelt_endings [] s p h = let e : p ≡ p + 0 = omega arith in ap Some e
spelt_endings (d ∷ ds) [] p h = rw (abbreviations_end d ds) refl
spelt_endings (d ∷ ds) (b ∷ s) p h =
    let letters = and_parts (not (d == 46)) (has_no_period ds) h in
    elim (cases_eq b d) [
      | inl e ↦
          spelt_on d ds b s p e (λ q. eqb-false d 46 (not-true (d == 46) letters.0) (sym e ∙ q))
          (spelt_endings ds s (p + 1) letters.1)
      | inr n ↦ spelt_off d ds b s p n
    ]

-- the loop gives what the definition gives
pub spelt_word : (letters : List ℕ) (p : ℕ) (s : List ℕ) → 0 < length letters → has_no_period letters ≡ true
    → spelt false letters p s ≡ option_map (λ w. p + length w) (spelling_in_front letters s)
unfolding spelt spelling_in_front
spelt_word [] p s some h = absurd (omega arith)
spelt_word (c ∷ cs) p [] some h = rw (abbreviations_end c cs) refl
spelt_word (c ∷ cs) p (b ∷ s) some h =
    let letters = and_parts (not (c == 46)) (has_no_period cs) h in
    elim (cases_eq b c) [
      | inl e ↦ rw (eq-eqb b c e) (spelt_endings cs s (p + 1) letters.1 ∙ one_longer p c (in_front s (endings cs))
          ∙ ap (λ o. option_map (λ w. p + length w) o) (sym (spellings_same c b cs s e)))
      | inr n ↦ rw (ne_eqb b c n) (ap (λ o. option_map (λ w. p + length w) o) (sym (spellings_other c b cs s n)))
    ]

-- ---- a turn of the loop, and its end

pub spelt_more : (w : List ℕ) (k p : ℕ) (t : List ℕ) (i : ℕ) → k < length w → i < length t → get_or t i 0 ≡ get_or w k 0
    → spelt (nat_lt 0 (k + 1)) (drop (k + 1) w) (p + 1) (drop (i + 1) t) ≡ spelt (nat_lt 0 k) (drop k w) p (drop i t)
unfolding spelt
spelt_more w k p t i h g e =
    let started : nat_lt 0 (k + 1) ≡ true = lt-ltb 0 (k + 1) (omega arith) in
    rw (started, drop_more w k 0 h, drop_more t i 0 g, eq-eqb (get_or t i 0) (get_or w k 0) e) refl

pub spelt_stop : (started : Bool) (w : List ℕ) (k p : ℕ) (t : List ℕ) (i : ℕ) → k < length w → i < length t
    → (get_or t i 0 ≡ get_or w k 0 → ⊥)
    → spelt started (drop k w) p (drop i t) ≡ cond (started && eqb (get_or t i 0) 46) (Some (p + 1)) None
unfolding spelt
spelt_stop started w k p t i h g n =
    rw (drop_more w k 0 h, drop_more t i 0 g, ne_eqb (get_or t i 0) (get_or w k 0) n) refl

pub spelt_cut : (started : Bool) (w : List ℕ) (k p : ℕ) (t : List ℕ) (i : ℕ) → k < length w → length t ≤ i
    → spelt started (drop k w) p (drop i t) ≡ None
unfolding spelt
spelt_cut started w k p t i h g = rw (drop_more w k 0 h, drop_all i t g) refl

pub spelt_end : (started : Bool) (w : List ℕ) (k p : ℕ) (s : List ℕ) → length w ≤ k
    → spelt started (drop k w) p s ≡ cond started (Some p) None
unfolding spelt
spelt_end started w k p s h = rw (drop_all k w h) refl

-- ---- the first byte

-- whether a word begins with this byte, and whether it has a letter
abbrev pub begins : ℕ → Spelling → Bool
begins b w = starts_with nat_eq w.1 (b ∷ [])

abbrev pub has_letter : Spelling → Bool
has_letter w = nat_lt 0 (length w.1)

spelling_other : (c b : ℕ) (cs s : List ℕ) → (b ≡ c → ⊥) → spelling_in_front (c ∷ cs) (b ∷ s) ≡ None
unfolding spelling_in_front
spelling_other c b cs s n = spellings_other c b cs s n

spelling_end : (c : ℕ) (cs : List ℕ) → spelling_in_front (c ∷ cs) [] ≡ None
unfolding spelling_in_front
spelling_end c cs = abbreviations_end c cs

-- only the words that begin with the byte there are to be tried
pub first_word_begins : (ws : List Spelling) (t : List ℕ) (i b : ℕ) (s : List ℕ) → list_all has_letter ws ≡ true
    → drop i t ≡ b ∷ s → first_word ws t i ≡ first_word (filter (begins b) ws) t i
first_word_begins [] t i b s h e = refl
first_word_begins ((k, []) ∷ ws) t i b s h e = absurd (false≢true h)
first_word_begins ((k, c ∷ cs) ∷ ws) t i b s h e =
    let letters = and_parts (has_letter (k, c ∷ cs)) (list_all has_letter ws) h in
    let others = first_word_begins ws t i b s letters.1 e in
    elim (cases_eq b c) [
      | inl q ↦ rw (eq-eqb b c q) (ap (λ o. option_or (option_map (λ s. (k, past_blanks t (i + length s)))
          (spelling_in_front (c ∷ cs) (drop i t))) o) others)
      | inr n ↦ rw (ne_eqb b c n, e, spelling_other c b cs s n) others
    ]

-- at the end there is no word
pub first_word_end : (ws : List Spelling) (t : List ℕ) (i : ℕ) → list_all has_letter ws ≡ true → drop i t ≡ []
    → first_word ws t i ≡ None
first_word_end [] t i h e = refl
first_word_end ((k, []) ∷ ws) t i h e = absurd (false≢true h)
first_word_end ((k, c ∷ cs) ∷ ws) t i h e =
    let letters = and_parts (has_letter (k, c ∷ cs)) (list_all has_letter ws) h in
    rw (e, spelling_end c cs) (first_word_end ws t i letters.1 e)

pub words_have_letters : (table : Table) → list_all has_letter (words table) ≡ true
words_have_letters Commands = refl
words_have_letters Functions = refl
words_have_letters To = refl
words_have_letters Step = refl

-- what finds the words that begin with the byte there finds the table's
pub finds_begins : (table : Table) (b : ℕ) (t : List ℕ) (place : ℕ) (r : Option (Word × ℕ)) → place < length t
    → get_or t place 0 ≡ b → FindsWord (filter (begins b) (words table)) t place r → FindsWord (words table) t place r
finds_begins table b t place r h e found = record {
  first =
      first_word_begins (words table) t place b (drop (place + 1) t) (words_have_letters table)
      (drop_more t place 0 h ∙ ap (λ c. c ∷ drop (place + 1) t) e) ∙ found.first;
  ahead = found.ahead;
}

filter_none : (b : ℕ) (ws : List Spelling) → list_any (begins b) ws ≡ false → filter (begins b) ws ≡ []
filter_none b [] h = refl
filter_none b (w ∷ ws) h =
    let parts = or_parts (begins b w) (list_any (begins b) ws) h in
    rw parts.0 (filter_none b ws parts.1)

-- a byte with which no word begins
pub finds_none : (table : Table) (t : List ℕ) (place : ℕ) → place < length t
    → begins_word table (get_or t place 0) ≡ false → FindsWord (words table) t place None
finds_none table t place h none =
    finds_begins table (get_or t place 0) t place None h refl
    (rw (filter_none (get_or t place 0) (words table) none) (record { first = refl; ahead = tt }))

or_other : (o p : Option (Word × ℕ)) → option_or o None ≡ None → option_or o p ≡ p
or_other None p e = refl
or_other (Some x) p e = absurd cc

or_first : (o p : Option (Word × ℕ)) (x : Word × ℕ) → option_or o None ≡ Some x → option_or o p ≡ Some x
or_first None p x e = absurd cc
or_first (Some y) p x e = e

-- the second of two words is tried where the first isn't found
finds_second : (v w : Spelling) (t : List ℕ) (place : ℕ) (r s : Option (Word × ℕ)) → FindsWord (v ∷ []) t place r
    → (r ≡ None → FindsWord (w ∷ []) t place s) → ((x : Word × ℕ) → r ≡ Some x → s ≡ Some x)
    → FindsWord (v ∷ w ∷ []) t place s
finds_second v w t place None s one two same = record {
  first = or_other _ _ one.first ∙ (two refl).first;
  ahead = (two refl).ahead;
}
finds_second v w t place (Some x) s one two same =
    let found : FindsWord (v ∷ w ∷ []) t place (Some x) =
    record { first = or_first _ _ _ one.first; ahead = one.ahead } in
    subst (λ r. FindsWord (v ∷ w ∷ []) t place r) (sym (same x refl)) found

-- where two words of a table begin with a byte, the second is tried where the first isn't found
pub begins_either : (table : Table) (b : ℕ) (v w : Spelling) (t : List ℕ) (place : ℕ) (r s : Option (Word × ℕ))
    → filter (begins b) (words table) ≡ v ∷ w ∷ [] → place < length t → get_or t place 0 ≡ b
    → FindsWord (v ∷ []) t place r
    → (r ≡ None → FindsWord (w ∷ []) t place s) → ((x : Word × ℕ) → r ≡ Some x → s ≡ Some x)
    → FindsWord (words table) t place s
begins_either table b v w t place r s are h e one two same =
    finds_begins table b t place s h e
    (subst (λ ws. FindsWord ws t place s) (sym are) (finds_second v w t place r s one two same))

-- what holds of a word holds of what is found, if that is the word
pub is_of : (P : Word → Type 0) (r : Option (Word × ℕ)) (w : Word) → IfSome r (λ found. found.0 ≡ w) → P w
    → IfSome r (λ found. P found.0)
is_of P None w e h = tt
is_of P (Some x) w e h = subst P (sym e) h

word_at_end : (table : Table) (t : List ℕ) (i : ℕ) → length t ≤ past_blanks t i → word_at table t i ≡ None
unfolding word_at
word_at_end table t i h =
    first_word_end (words table) t (past_blanks t i) (words_have_letters table) (drop_all (past_blanks t i) t h)

-- ---- the second byte

-- whether a byte can be the second of a word
abbrev pub continues : ℕ → Bool
continues b = nat_le 65 b || (b == 46)

-- whether a word has such a letter there
abbrev is_continued : Spelling → Bool
is_continued (k, []) = false
is_continued (k, c ∷ []) = false
is_continued (k, c ∷ d ∷ cs) = nat_le 65 d && has_no_period (c ∷ d ∷ cs)

words_are_continued : (table : Table) → list_all is_continued (words table) ≡ true
words_are_continued Commands = refl
words_are_continued Functions = refl
words_are_continued To = refl
words_are_continued Step = refl

none_mapped : (p : ℕ) (o : Option (List ℕ)) → option_map (λ w. p + length w) o ≡ None → o ≡ None
none_mapped p None h = refl
none_mapped p (Some w) h = absurd cc

spelling_none : (c d : ℕ) (cs s : List ℕ) → has_no_period (c ∷ d ∷ cs) ≡ true → spelt false (c ∷ d ∷ cs) 0 s ≡ None
    → spelling_in_front (c ∷ d ∷ cs) s ≡ None
spelling_none c d cs s h e = none_mapped 0 _ (sym (spelt_word (c ∷ d ∷ cs) 0 s (omega arith) h) ∙ e)

spelt_last : (c d : ℕ) (cs : List ℕ) (a : ℕ) → spelt false (c ∷ d ∷ cs) 0 (a ∷ []) ≡ None
unfolding spelt
spelt_last c d cs a =
    elim (eqb a c) as (λ v. ◌≡◌ {A = Option ℕ} (cond v None None) None) [ true ↦ refl | false ↦ refl ]

spelt_other : (c d : ℕ) (cs : List ℕ) (a b : ℕ) (s : List ℕ) → (b ≡ d → ⊥) → (b ≡ 46 → ⊥)
    → spelt false (c ∷ d ∷ cs) 0 (a ∷ b ∷ s) ≡ None
unfolding spelt
spelt_other c d cs a b s n m = rw (ne_eqb b d n, ne_eqb b 46 m)
    (elim (eqb a c) as (λ v. ◌≡◌ {A = Option ℕ} (cond v None None) None) [ true ↦ refl | false ↦ refl ])

-- none is spelled there
first_word_none : (ws : List Spelling) (t : List ℕ) (i : ℕ) → list_all is_continued ws ≡ true
    → ((c d : ℕ) (cs : List ℕ) → nat_le 65 d ≡ true → spelt false (c ∷ d ∷ cs) 0 (drop i t) ≡ None)
    → first_word ws t i ≡ None
first_word_none [] t i h f = refl
first_word_none ((k, []) ∷ ws) t i h f = absurd (false≢true h)
first_word_none ((k, c ∷ []) ∷ ws) t i h f = absurd (false≢true h)
first_word_none ((k, c ∷ d ∷ cs) ∷ ws) t i h f =
    let parts = and_parts (is_continued (k, c ∷ d ∷ cs)) (list_all is_continued ws) h in
    let letters = and_parts (nat_le 65 d) (has_no_period (c ∷ d ∷ cs)) parts.0 in
    rw (spelling_none c d cs (drop i t) letters.1 (f c d cs letters.0)) (first_word_none ws t i parts.1 f)

-- no word is one byte
pub word_at_last : (table : Table) (t : List ℕ) (i : ℕ) → length t ≤ past_blanks t i + 1 → word_at table t i ≡ None
unfolding word_at
word_at_last table t i h = elim (cases_lt (past_blanks t i) (length t)) [
  | inl first ↦
      let rest : drop (past_blanks t i) t ≡ get_or t (past_blanks t i) 0 ∷ [] =
      drop_more t (past_blanks t i) 0 first
      ∙ ap (λ s. get_or t (past_blanks t i) 0 ∷ s) (drop_all (past_blanks t i + 1) t h) in
      first_word_none (words table) t (past_blanks t i) (words_are_continued table)
      (λ c d cs low. ap (spelt false (c ∷ d ∷ cs) 0) rest ∙ spelt_last c d cs (get_or t (past_blanks t i) 0))
  | inr end ↦ word_at_end table t i end
]

-- no word has another second byte
pub word_at_other : (table : Table) (t : List ℕ) (i b : ℕ) → past_blanks t i + 1 < length t
    → get_or t (past_blanks t i + 1) 0 ≡ b → continues b ≡ false → word_at table t i ≡ None
unfolding word_at
word_at_other table t i b h e n =
    let first : past_blanks t i < length t = omega arith in
    let parts = or_parts (nat_le 65 b) (b == 46) n in
    let rest : drop (past_blanks t i) t ≡ get_or t (past_blanks t i) 0 ∷ b ∷ drop (past_blanks t i + 1 + 1) t =
    drop_more t (past_blanks t i) 0 first ∙ ap (λ s. get_or t (past_blanks t i) 0 ∷ s)
    (drop_more t (past_blanks t i + 1) 0 h ∙ ap (λ c. c ∷ drop (past_blanks t i + 1 + 1) t) e) in
    first_word_none (words table) t (past_blanks t i) (words_are_continued table) (λ c d cs low.
    ap (spelt false (c ∷ d ∷ cs) 0) rest
    ∙ spelt_other c d cs _ b _ (λ q. false≢true (sym parts.0 ∙ ap (nat_le 65) q ∙ low)) (eqb-false b 46 parts.1)
    )
