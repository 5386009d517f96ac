-- This file proves the worked rows of lists of answers.
-- Main lemma: `list_rows`.
use Rattle.std.proofs.Common.{◌≡◌, ◌≢◌, refl, sym, ap, ◌∙◌, ℕ, zero, suc, ◌<◌, ◌≤◌, List, length}
use Rattle.std.proofs.Common.{get_or, ℤ, pos, negsuc, arith, Option, Some, None}
use Rattle.std.specs.Prelude.{◌==◌, [], ◌∷◌, ◌++◌, All, codes}
use Rattle.std.specs.Fmt.{digits}
use Rattle.std.specs.List.{slice_split}
use Rattle.std.proofs.lemmas.Int.{ints}
use Rattle.std.proofs.lemmas.List.Elements.{All-nil, All-cons}
use Rattle.std.proofs.lemmas.Fmt.{signed_decimal_injective}
use Rattle.std.proofs.lemmas.Option.{none-some}
use Rattle.clap.proofs.CutLemmas.{Lacks}
use Rattle.ptb_answers.specs.declared.form.Marked.{Marked}
use Rattle.ptb_answers.specs.AnswerText.{with_bound, without_bound}
use Rattle.ptb_options.specs.AnswerLists.{IsAnswer, IsItem, SpellsNumber, SpellsItem, IsMisspelled, HasNoAnswers}
use Rattle.ptb_rows.specs.Rows.{ListRows}
use Rattle.ptb_options.proofs.PublicLemmas.{SpellsNumber-first, SpellsItem-first, item_is_number, item_is_numbers}
use Rattle.ptb_options.proofs.PublicLemmas.{one_item, word_of_items, word_of_list}

-- a text of which one word writes no item
by_word : (s : List ℕ) (i : ℕ) (w : List ℕ) → s ≢ codes "none" → i < length (slice_split (λ b. b == 44) s)
    → w ≡ get_or (slice_split (λ b. b == 44) s) i w
    → ((m : Marked) → SpellsItem w m → ⊥) → IsMisspelled s
by_word s i w some within at bad list h = let p = word_of_list s list i w some h within at in bad p.0 p.1

-- a word that doesn't begin with a digit from 1 to 9
begins_wrong : (w : List ℕ) → get_or w 0 0 < 49 → (m : Marked) → SpellsItem w m → ⊥
begins_wrong w low m h = let first = SpellsItem-first w m h in omega (arith, first.1)

begins_high : (w : List ℕ) → 57 < get_or w 0 0 → (m : Marked) → SpellsItem w m → ⊥
begins_high w high m h = let first = SpellsItem-first w m h in omega (arith, first.2)

other_first : (s : List ℕ) → get_or s 0 0 < 110 → s ≢ codes "none"
other_first s low e = let first : get_or s 0 0 ≡ 110 = ap (λ (t : List ℕ). get_or t 0 0) e in omega arith

above : (k : ℤ) → SpellsNumber (codes "32768") k → ⊥
unfolding digits
above (pos n) h =
    let same : pos n ≡ pos 32768 = signed_decimal_injective (pos n) (pos 32768) (omega (arith, ints))
    (omega (arith, ints)) h.1 in
    omega (arith, ints)
above (negsuc n) h = absurd (omega (arith, ints))

-- a text of five digits has no `/`
no_cut : Lacks 47 (codes "32768")
no_cut zero lt e = absurd (omega (arith, e))
no_cut (suc zero) lt e = absurd (omega (arith, e))
no_cut (suc (suc zero)) lt e = absurd (omega (arith, e))
no_cut (suc (suc (suc zero))) lt e = absurd (omega (arith, e))
no_cut (suc (suc (suc (suc zero)))) lt e = absurd (omega (arith, e))
no_cut (suc (suc (suc (suc (suc i))))) lt e = absurd (omega (arith, lt))

above_item : (m : Marked) → SpellsItem (codes "32768") m → ⊥
above_item m h = above m.answer (item_is_number (codes "32768") m no_cut h).0

-- the text "1" has none
no_cut_in_one : Lacks 47 (codes "1")
no_cut_in_one zero lt e = absurd (omega (arith, e))
no_cut_in_one (suc i) lt e = absurd (omega (arith, lt))

-- a bound that doesn't begin with a digit from 1 to 9
bound_wrong : (b : List ℕ) → get_or b 0 0 < 49 → (m : Marked) → SpellsItem (codes "1/" ++ b) m → ⊥
bound_wrong b low m h =
    let parts = item_is_numbers (codes "1/" ++ b) (codes "1") b m refl no_cut_in_one h in
    let first = SpellsNumber-first b parts.0 parts.2 in
    omega (arith, first.1, low)

listed : (k : ℤ) (a : List Marked) → IsAnswer k → All IsItem a → All IsItem (without_bound k ∷ a)
listed k a h each = All-cons IsItem (without_bound k) a (h, λ n e. absurd (none-some n e)) each

-- an answer of at most 32767
answer_from : (n : ℕ) → 0 < n → n ≤ 32767 → IsAnswer (pos n)
answer_from n low high = (omega (arith, ints), omega (arith, ints))

two_of_two : IsItem (with_bound (pos 2) (pos 2))
two_of_two = (
  answer_from 2 (omega arith) (omega arith),
  λ n e. let same : pos 2 ≡ n = cc in
      rw (← same) (answer_from 2 (omega arith) (omega arith)),
)

-- the item 2/2 is no answer alone
no_answer_alone : (k : ℤ) → SpellsItem (codes "2/2") (without_bound k) → ⊥
unfolding digits
no_answer_alone k h =
    let same : without_bound k ≡ with_bound (pos 2) (pos 2) =
    one_item (without_bound k) (with_bound (pos 2) (pos 2)) h.0 two_of_two h.1 in
    let bound : ◌≡◌ {A = Option ℤ} None (Some (pos 2)) = ap (λ (m : Marked). m.bound) same in
    absurd (cc)

pub list_rows : ListRows
unfolding digits
list_rows = record {
  empty_list = (All-nil IsItem, refl);
  greatest = (listed (pos 32767) [] (answer_from 32767 (omega arith) (omega arith)) (All-nil IsItem), refl);
  three = (
    listed (pos 2) (without_bound (pos 1) ∷ without_bound (pos 30000) ∷ []) (answer_from 2 (omega arith) (omega arith))
        (listed (pos 1) (without_bound (pos 30000) ∷ []) (answer_from 1 (omega arith) (omega arith))
        (listed (pos 30000) [] (answer_from 30000 (omega arith) (omega arith)) (All-nil IsItem))),
    refl,
  );
  one_bound = (
    All-cons IsItem (with_bound (pos 2) (pos 2)) (without_bound (pos 1) ∷ []) two_of_two
        (listed (pos 1) [] (answer_from 1 (omega arith) (omega arith)) (All-nil IsItem)),
    refl,
  );
  no_bound_after = by_word (codes "2/2,1/") 1 (codes "1/") (other_first (codes "2/2,1/") (omega arith))
      (omega arith) refl (bound_wrong [] (omega arith));
  bound_of_0 = by_word (codes "1/0") 0 (codes "1/0") (other_first (codes "1/0") (omega arith)) (omega arith) refl
      (bound_wrong (codes "0") (omega arith));
  bound_in_answers = λ a h.
      let p = word_of_items without_bound (codes "2/2") a 0 (codes "2/2") (other_first (codes "2/2") (omega arith)) h
      (omega arith) refl in
      no_answer_alone p.0 p.1;
  nothing = by_word [] 0 [] (other_first [] (omega arith)) (omega arith) refl (begins_wrong [] (omega arith));
  zero_in_front = by_word (codes "01") 0 (codes "01") (other_first (codes "01") (omega arith)) (omega arith) refl
      (begins_wrong (codes "01") (omega arith));
  no_answer_between = by_word (codes "1,,2") 1 [] (other_first (codes "1,,2") (omega arith)) (omega arith) refl
      (begins_wrong [] (omega arith));
  zero = by_word (codes "0") 0 (codes "0") (other_first (codes "0") (omega arith)) (omega arith) refl
      (begins_wrong (codes "0") (omega arith));
  too_great = by_word (codes "32768") 0 (codes "32768") (other_first (codes "32768") (omega arith))
      (omega arith) refl above_item;
  blank = by_word (codes "1, 2") 1 (codes " 2") (other_first (codes "1, 2") (omega arith)) (omega arith) refl
      (begins_wrong (codes " 2") (omega arith));
  large_letter = by_word (codes "None") 0 (codes "None") (other_first (codes "None") (omega arith)) (omega arith) refl
      (begins_high (codes "None") (omega arith));
}
