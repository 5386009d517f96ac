-- This file proves what the texts of answers and of lists look like, and that `parse` reads it.
-- Main lemma: `one_list_of_answers`.
use Rattle.std.proofs.Common.{append-nil, length-append, subst, ◌≡◌, ◌≢◌, ◌∙◌, ap, sym, refl, ℕ}
use Rattle.std.proofs.Common.{◌+◌, ◌<◌, ◌≤◌, ◌^◌, List, length, get_or, zero, suc, ℤ, pos, negsuc}
use Rattle.std.proofs.Common.{arith, Result, Ok, Err, IfOk, Option, Some, None, ap₂}
use Rattle.std.specs.Prelude.{◌==◌, false, [], ◌∷◌, ◌++◌, map, All, codes, count_by}
use Rattle.std.specs.List.{slice_split, join_with_byte, before_first, after_first}
use Rattle.std.proofs.lemmas.List.Splits.{slice_split_none, slice_split_at, length-slice_split}
use Rattle.std.proofs.lemmas.List.Splits.{join_with_byte-slice_split}
use Rattle.std.proofs.lemmas.List.Elements.{All-head, All-tail, All-get_or, All-from_get_or}
use Rattle.std.proofs.lemmas.List.Elements.{All-append, All-cons, All-nil}
use Rattle.std.proofs.lemmas.Bool.{ne_eqb}
use Rattle.clap.proofs.CutLemmas.{Lacks, before_first-Lacks, before_first-at, after_first-Lacks, after_first-at}
use Rattle.std.proofs.lemmas.List.{get_or_append_left, get_or_at, get_or-map, length-map, map-append}
use lib.Signed.{mag}
use Rattle.std.specs.Borrow.{Bor}
use Rattle.std.specs.Fmt.{decimal, signed_decimal}
use Rattle.std.specs.Str.Parse.{AllDigits, digits_value, ParsesSigned}
use Rattle.std.proofs.lemmas.Int.{ints}
use Rattle.std.proofs.lemmas.Fmt.{decimal_digit, decimal_is_IsNumeral, first_decimal}
use Rattle.std.proofs.lemmas.Fmt.{decimal-digits_value, parse-signed_decimal}
use Rattle.std.proofs.lemmas.Fmt.{signed_decimal_injective}
use Rattle.std.proofs.lemmas.Str.Parse.{IsNumeralModel, numerals_by_value, tells_digits, digit_at, parse_signed_plain}
use Rattle.std.proofs.lemmas.Option.{none-some}
use mir.Syntax.{w16}
use Rattle.ptb_answers.specs.declared.form.Marked.{Marked}
use Rattle.ptb_answers.specs.AnswerText.{answers_of, bound_text, item_text, spelling, unmarked}
use Rattle.ptb_answers.specs.AnswerText.{with_bound, without_bound}
use Rattle.ptb_options.specs.AnswerLists.{IsAnswer, IsItem, SpellsNumber, SpellsItem, SpellsList, SpellsAnswers}

-- the first byte of a number is a digit, and no zero
pub SpellsNumber-first : (s : List ℕ) (k : ℤ) → SpellsNumber s k
    → (0 < length s) × (49 ≤ get_or s 0 0) × (get_or s 0 0 ≤ 57)
SpellsNumber-first s (pos n) h =
    let low : 0 < n = omega (arith, ints) in
    let high : n < 2 ^ 64 = omega (arith, ints) in
    let numeral = decimal_is_IsNumeral n high in
    let first = digit_at (decimal n) 0 numeral.0.1 numeral.0.0 in
    rw (← h.1) (numeral.0.0, first_decimal n low high, first.1)
SpellsNumber-first s (negsuc n) h = absurd (omega (arith, ints))

own : IsNumeralModel (AllDigits 10) (digits_value 10)
own = numerals_by_value (AllDigits 10) tells_digits

positive : (n : ℕ) (s : List ℕ) → decimal n ≡ s → 49 ≤ get_or s 0 0 → 0 < n
positive zero s text low =
    let first : get_or s 0 0 ≡ 48 = ap (λ (t : List ℕ). get_or t 0 0) (sym text ∙ decimal_digit 0 (omega arith)) in
    omega arith
positive (suc n) s text low = omega arith

-- what `parse` reads of a text with such a first byte is the number that it spells
pub SpellsNumber-from_parse : (E : Type 0) (s : List ℕ) (r : Result ℤ E) → 49 ≤ get_or s 0 0 → get_or s 0 0 ≤ 57
    → ParsesSigned w16 10 s r → IfOk r (SpellsNumber s)
SpellsNumber-from_parse E s (Ok k) low high h =
    let plain = parse_signed_plain own {E = E} w16 s (Ok k) h (λ e. omega arith) (λ e. omega arith) in
    let n = digits_value 10 s in
    let short : n < 2 ^ 15 = plain.0.2 in
    let text : decimal n ≡ s = decimal-digits_value own s plain.0.0 plain.0.1 (λ e. omega arith) (omega arith) in
    let above : 0 < n = positive n s text low in
    let value : k ≡ pos n = plain.1 in
    rw value ((omega (arith, ints), omega (arith, ints)), text)
SpellsNumber-from_parse E s (Err e) low high h = tt

-- and `parse` reads each number
pub parse-SpellsNumber : (E : Type 0) (s : List ℕ) (k : ℤ) (r : Result ℤ E) → SpellsNumber s k → ParsesSigned w16 10 s r
    → r ≡ Ok k
parse-SpellsNumber E s (pos n) r h p =
    parse-signed_decimal w16 (pos n) s r (omega (arith, ints)) (omega (arith, ints)) (sym h.1) p
parse-SpellsNumber E s (negsuc n) r h p = absurd (omega (arith, ints))

-- ---- items

small : (k : ℤ) → IsAnswer k → mag k < 2 ^ 63
small (pos n) h = omega (arith, ints)
small (negsuc n) h = absurd (omega (arith, ints))

-- a number is written in digits
number_lacks : (c : ℕ) → c < 48 → (k : ℤ) → IsAnswer k → Lacks c (signed_decimal k)
number_lacks c low (pos n) h = λ i lt e.
    let high : n < 2 ^ 64 = omega (arith, ints) in
    let digit = digit_at (decimal n) i (decimal_is_IsNumeral n high).0.1 lt in
    omega arith
number_lacks c low (negsuc n) h = absurd (omega (arith, ints))

none_of : (c : ℕ) (xs : List ℕ) → Lacks c xs → All (λ b. (b == c) ≡ false) xs
none_of c xs h = All-from_get_or (λ b. (b == c) ≡ false) xs 0 (λ i lt. ne_eqb _ _ (h i lt))

no_comma_in_bound : (o : Option ℤ) → ((n : ℤ) → o ≡ Some n → IsAnswer n) → All (λ b. (b == 44) ≡ false) (bound_text o)
no_comma_in_bound None h = All-nil (λ b. (b == 44) ≡ false)
no_comma_in_bound (Some n) h =
    All-cons (λ b. (b == 44) ≡ false) 47 (signed_decimal n) refl
    (none_of 44 (signed_decimal n) (number_lacks 44 (omega arith) n (h n refl)))

-- an item has no comma in it
no_comma : (m : Marked) → IsItem m → All (λ b. (b == 44) ≡ false) (item_text m)
no_comma m h =
    All-append (λ b. (b == 44) ≡ false) (signed_decimal m.answer) (bound_text m.bound)
    (none_of 44 (signed_decimal m.answer) (number_lacks 44 (omega arith) m.answer h.0)) (no_comma_in_bound m.bound h.1)

-- what comes after `/`
abbrev number_after : Option ℤ → List ℕ
number_after None = []
number_after (Some n) = signed_decimal n

item_front : (m : Marked) → IsItem m → before_first (λ b. b == 47) (item_text m) ≡ signed_decimal m.answer
item_front m h = go m.bound
  where
    go : (o : Option ℤ)
        → before_first (λ b. b == 47) (signed_decimal m.answer ++ bound_text o) ≡ signed_decimal m.answer
    go None =
        ap (before_first (λ b. b == 47)) (append-nil (signed_decimal m.answer))
        ∙ before_first-Lacks 47 (signed_decimal m.answer) (number_lacks 47 (omega arith) m.answer h.0)
    go (Some n) =
        before_first-at 47 (signed_decimal m.answer) (signed_decimal n) (number_lacks 47 (omega arith) m.answer h.0)

item_after : (m : Marked) → IsItem m → after_first (λ b. b == 47) (item_text m) ≡ number_after m.bound
item_after m h = go m.bound
  where
    go : (o : Option ℤ) → after_first (λ b. b == 47) (signed_decimal m.answer ++ bound_text o) ≡ number_after o
    go None =
        ap (after_first (λ b. b == 47)) (append-nil (signed_decimal m.answer))
        ∙ after_first-Lacks 47 (signed_decimal m.answer) (number_lacks 47 (omega arith) m.answer h.0)
    go (Some n) =
        after_first-at 47 (signed_decimal m.answer) (signed_decimal n) (number_lacks 47 (omega arith) m.answer h.0)

same_number : (k j : ℤ) → IsAnswer k → IsAnswer j → signed_decimal k ≡ signed_decimal j → k ≡ j
same_number k j h g e = signed_decimal_injective k j (small k h) (small j g) e

not_empty : (n : ℤ) → IsAnswer n → signed_decimal n ≡ [] → ⊥
not_empty n h e = let first = SpellsNumber-first (signed_decimal n) n (h, refl) in omega (arith, first.0, ap length e)

same_bound : (o p : Option ℤ) → ((n : ℤ) → o ≡ Some n → IsAnswer n) → ((n : ℤ) → p ≡ Some n → IsAnswer n)
    → number_after o ≡ number_after p → o ≡ p
same_bound None None h g e = refl
same_bound None (Some n) h g e = absurd (not_empty n (g n refl) (sym e))
same_bound (Some n) None h g e = absurd (not_empty n (h n refl) e)
same_bound (Some n) (Some k) h g e = ap Some (same_number n k (h n refl) (g k refl) e)

-- a text spells one item at most
pub one_item : (m j : Marked) → IsItem m → IsItem j → item_text m ≡ item_text j → m ≡ j
one_item m j h g e =
    let answer = same_number m.answer j.answer h.0 g.0 (sym (item_front m h) ∙ ap (before_first (λ b. b == 47)) e
    ∙ item_front j g) in
    let bound = same_bound m.bound j.bound h.1 g.1 (sym (item_after m h) ∙ ap (after_first (λ b. b == 47)) e
    ∙ item_after j g) in
    ap₂ (λ (k : ℤ) (o : Option ℤ). record { answer = k; bound = o }) answer bound

-- the first byte of an item is that of its answer
pub SpellsItem-first : (s : List ℕ) (m : Marked) → SpellsItem s m
    → (0 < length s) × (49 ≤ get_or s 0 0) × (get_or s 0 0 ≤ 57)
SpellsItem-first s m h =
    let first = SpellsNumber-first (signed_decimal m.answer) m.answer (h.0.0, refl) in
    let same : get_or s 0 0 ≡ get_or (signed_decimal m.answer) 0 0 = ap (λ (t : List ℕ). get_or t 0 0) (sym h.1)
    ∙ get_or_append_left (signed_decimal m.answer) (bound_text m.bound) 0 0 first.0 in
    let long : length s ≡ length (signed_decimal m.answer) + length (bound_text m.bound) =
    ap length (sym h.1) ∙ length-append (signed_decimal m.answer) (bound_text m.bound) in
    (omega (arith, first.0, long), omega (arith, same, first.1), omega (arith, same, first.1))

-- ---- an item as it is read

-- a word without `/` spells an answer alone
pub item_of_number : (s : List ℕ) (k : ℤ) → SpellsNumber s k → SpellsItem s (without_bound k)
item_of_number s k h = ((h.0, λ n e. absurd (none-some n e)), append-nil (signed_decimal k) ∙ h.1)

-- and one with `/` an answer with its bound
pub item_of_numbers : (s a b : List ℕ) (k n : ℤ) → s ≡ a ++ 47 ∷ b → SpellsNumber a k → SpellsNumber b n
    → SpellsItem s (with_bound k n)
item_of_numbers s a b k n parts h g =
    ((h.0, λ j e. let same : n ≡ j = cc in rw (← same) g.0), ap₂ (λ x y. x ++ 47 ∷ y) h.1 g.1 ∙ sym parts)

lacks_if : (c : ℕ) (s xs ys : List ℕ) → s ≡ xs ++ c ∷ ys → Lacks c s → ⊥
lacks_if c s xs ys e lacks =
    let at : get_or s (length xs) 0 ≡ c = ap (λ (t : List ℕ). get_or t (length xs) 0) e
    ∙ get_or_at xs c ys 0 (length xs) refl in
    lacks (length xs) (omega (arith, ap length e, length-append xs (c ∷ ys))) at

-- so an item whose text has no `/` is an answer alone
pub item_is_number : (s : List ℕ) (m : Marked) → Lacks 47 s → SpellsItem s m
    → SpellsNumber s m.answer × (m ≡ without_bound m.answer)
item_is_number s m lacks h = go m.bound refl
  where
    go : (o : Option ℤ) → m.bound ≡ o → SpellsNumber s m.answer × (m ≡ without_bound m.answer)
    go None e = (
      (
        h.0.0,
        sym (append-nil (signed_decimal m.answer)) ∙ ap (λ (p : Option ℤ). signed_decimal m.answer
            ++ bound_text p) (sym e) ∙ h.1,
      ),
      ap (λ (p : Option ℤ). record { answer = m.answer; bound = p }) e,
    )
    go (Some n) e = absurd (lacks_if 47 s (signed_decimal m.answer) (signed_decimal n)
        (sym h.1 ∙ ap (λ (p : Option ℤ). signed_decimal m.answer ++ bound_text p) e) lacks)

-- and one whose text has it is what comes before it and after it
pub item_is_numbers : (s a b : List ℕ) (m : Marked) → s ≡ a ++ 47 ∷ b → Lacks 47 a → SpellsItem s m
    → (n : ℤ) × SpellsNumber a m.answer × SpellsNumber b n × (m ≡ with_bound m.answer n)
item_is_numbers s a b m parts lacks h = go m.bound refl
  where
    front : before_first (λ b. b == 47) s ≡ a
    front = ap (before_first (λ b. b == 47)) parts ∙ before_first-at 47 a b lacks

    following : after_first (λ b. b == 47) s ≡ b
    following = ap (after_first (λ b. b == 47)) parts ∙ after_first-at 47 a b lacks

    answer : signed_decimal m.answer ≡ a
    answer = sym (item_front m h.0) ∙ ap (before_first (λ b. b == 47)) h.1 ∙ front

    go : (o : Option ℤ) → m.bound ≡ o
        → (n : ℤ) × SpellsNumber a m.answer × SpellsNumber b n × (m ≡ with_bound m.answer n)
    go None e = absurd (lacks_if 47 s a b parts (subst (Lacks 47) (sym (append-nil (signed_decimal m.answer))
        ∙ ap (λ (p : Option ℤ). signed_decimal m.answer ++ bound_text p) (sym e) ∙ h.1)
        (number_lacks 47 (omega arith) m.answer h.0.0)))
    go (Some n) e = (
      n,
      (h.0.0, answer),
      (h.0.1 n e, ap number_after (sym e) ∙ sym (item_after m h.0) ∙ ap (after_first (λ b. b == 47)) h.1 ∙ following),
      ap (λ (p : Option ℤ). record { answer = m.answer; bound = p }) e,
    )

-- ---- lists

-- cut at its commas, a list is its items
pub slice_split-spelling : (m : Marked) (list : List Marked) → All IsItem (m ∷ list)
    → slice_split (λ b. b == 44) (spelling (m ∷ list)) ≡ map item_text (m ∷ list)
slice_split-spelling m [] each =
    ap (slice_split (λ b. b == 44)) (append-nil (item_text m))
    ∙ slice_split_none (λ b. b == 44) (item_text m) (no_comma m (All-head IsItem m [] each))
slice_split-spelling m (j ∷ list) each =
    slice_split_at (λ b. b == 44) (item_text m) 44 (spelling (j ∷ list))
    (no_comma m (All-head IsItem m (j ∷ list) each)) refl
    ∙ ap (λ (ws : List (List ℕ)). item_text m ∷ ws) (slice_split-spelling j list (All-tail IsItem m (j ∷ list) each))

first_byte : (m : Marked) (list : List Marked) → IsItem m → get_or (spelling (m ∷ list)) 0 0 ≤ 57
first_byte m [] h = rw append-nil (SpellsItem-first (item_text m) m (h, refl)).2
first_byte m (j ∷ list) h =
    let first = SpellsItem-first (item_text m) m (h, refl) in
    rw (get_or_append_left (item_text m) (44 ∷ spelling (j ∷ list)) 0 0 first.0) first.2

-- which is not `none`
not_none : (s : List ℕ) (m : Marked) (list : List Marked) → SpellsList s (m ∷ list) → s ≢ codes "none"
not_none s m list h e =
    let low = first_byte m list (All-head IsItem m list h.0) in
    let none : get_or (spelling (m ∷ list)) 0 0 ≡ 110 = ap (λ (t : List ℕ). get_or t 0 0) (h.1 ∙ e) in
    omega arith

map-injective : (a b : List Marked) → All IsItem a → All IsItem b → map item_text a ≡ map item_text b → a ≡ b
map-injective [] [] h g e = refl
map-injective [] (j ∷ b) h g e = absurd (cc)
map-injective (m ∷ a) [] h g e = absurd (cc)
map-injective (m ∷ a) (j ∷ b) h g e =
    let first : item_text m ≡ item_text j = cc in
    let others : map item_text a ≡ map item_text b = cc in
    let same : m ≡ j = one_item m j (All-head IsItem m a h) (All-head IsItem j b g) first in
    let rest : a ≡ b = map-injective a b (All-tail IsItem m a h) (All-tail IsItem j b g) others in
    cc

-- a text spells one list at most
pub one_list : (s : List ℕ) (a b : List Marked) → SpellsList s a → SpellsList s b → a ≡ b
one_list s [] [] h g = refl
one_list s [] (j ∷ b) h g = absurd (not_none s j b g (sym h.1))
one_list s (m ∷ a) [] h g = absurd (not_none s m a h (sym g.1))
one_list s (m ∷ a) (j ∷ b) h g =
    map-injective (m ∷ a) (j ∷ b) h.0 g.0
    (sym (slice_split-spelling m a h.0) ∙ ap (slice_split (λ b. b == 44)) (h.1 ∙ sym g.1)
    ∙ slice_split-spelling j b g.0)

-- each word of such a text spells an item
pub word_at : (s : List ℕ) (list : List Marked) (i : ℕ) (w : List ℕ) (d : Marked) → s ≢ codes "none" → SpellsList s list
    → i < length (slice_split (λ b. b == 44) s)
    → w ≡ get_or (slice_split (λ b. b == 44) s) i w → (i < length list) × SpellsItem w (get_or list i d)
word_at s [] i w d some h lt at = absurd (some (sym h.1))
word_at s (m ∷ list) i w d some h lt at =
    let words : slice_split (λ b. b == 44) s ≡ map item_text (m ∷ list) =
    ap (slice_split (λ b. b == 44)) (sym h.1) ∙ slice_split-spelling m list h.0 in
    let within : i < length (m ∷ list) = rw (words, length-map (m ∷ list) item_text) at lt in
    let is_it : w ≡ item_text (get_or (m ∷ list) i d) = at ∙ ap (λ (ws : List (List ℕ)). get_or ws i w) words
    ∙ get_or-map item_text (m ∷ list) i d w within in
    (within, (All-get_or IsItem (m ∷ list) i d within h.0, sym is_it))

pub word_of_list : (s : List ℕ) (list : List Marked) (i : ℕ) (w : List ℕ) → s ≢ codes "none" → SpellsList s list
    → i < length (slice_split (λ b. b == 44) s)
    → w ≡ get_or (slice_split (λ b. b == 44) s) i w → (m : Marked) × SpellsItem w m
word_of_list s list i w some h lt at = (_, (word_at s list i w (without_bound (pos 0)) some h lt at).1)

at_map : {A B : Type 0} (P : B → Type 0) (f : A → B) (xs : List A) (i : ℕ) (d : B) → i < length xs
    → P (get_or (map f xs) i d) → (x : A) × P (f x)
at_map P f [] i d lt h = absurd (omega arith)
at_map P f (x ∷ xs) zero d lt h = (x, h)
at_map P f (x ∷ xs) (suc i) d lt h = at_map P f xs i d (omega arith) h

-- and where each item is that of an x by f, the item of such an x
pub word_of_items : {X : Type 0} (f : X → Marked) (s : List ℕ) (xs : List X) (i : ℕ) (w : List ℕ) → s ≢ codes "none"
    → SpellsList s (map f xs) → i < length (slice_split (λ b. b == 44) s)
    → w ≡ get_or (slice_split (λ b. b == 44) s) i w → (x : X) × SpellsItem w (f x)
word_of_items f s xs i w some h lt at =
    let word = word_at s (map f xs) i w (without_bound (pos 0)) some h lt at in
    at_map (SpellsItem w) f xs i (without_bound (pos 0)) (rw (length-map xs f) at word.0) word.1

-- one more word, and the item that it spells
pub more_words : (ws : List (Bor (List ℕ))) (a : List Marked) (w : Bor (List ℕ)) (m : Marked)
    → map (λ v. v.now) ws ≡ map item_text a → item_text m ≡ w.now
    → map (λ v. v.now) (ws ++ w ∷ []) ≡ map item_text (a ++ m ∷ [])
more_words ws a w m words is = simp map-append (cc)

join-spelling : (m : Marked) (list : List Marked) → join_with_byte 44 (map item_text (m ∷ list)) ≡ spelling (m ∷ list)
join-spelling m [] = sym (append-nil (item_text m))
join-spelling m (j ∷ list) = ap (λ (rest : List ℕ). item_text m ++ 44 ∷ rest) (join-spelling j list)

-- the words of a text, as a list
pub list_of_words : (s : List ℕ) (list : List Marked) → All IsItem list
    → slice_split (λ b. b == 44) s ≡ map item_text list → SpellsList s list
list_of_words s [] each words =
    let none : count_by (λ b. b == 44) s + 1 ≡ 0 = rw words at (sym (length-slice_split (λ b. b == 44) s)) in
    absurd (omega arith)
list_of_words s (m ∷ list) each words =
    (each, sym (join-spelling m list) ∙ ap (join_with_byte 44) (sym words) ∙ join_with_byte-slice_split 44 s)

-- ---- lists without bounds

answers_of-unmarked : (a : List ℤ) → answers_of (unmarked a) ≡ a
answers_of-unmarked [] = refl
answers_of-unmarked (k ∷ a) = ap (λ (b : List ℤ). k ∷ b) (answers_of-unmarked a)

pub one_list_of_answers : (s : List ℕ) (a b : List ℤ) → SpellsAnswers s a → SpellsAnswers s b → a ≡ b
one_list_of_answers s a b h g =
    sym (answers_of-unmarked a) ∙ ap answers_of (one_list s (unmarked a) (unmarked b) h g) ∙ answers_of-unmarked b
