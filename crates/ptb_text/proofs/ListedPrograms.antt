-- This file proves that what is listed loads as the same program.
-- Main lemma: `GivesProgram-listing`.
use Rattle.std.proofs.Common.{◌≡◌, ℕ, zero, suc, ◌+◌, ◌-◌, ◌*◌, ◌/◌, ◌%◌, ◌<◌, ◌≤◌, Bool, true}
use Rattle.std.proofs.Common.{false, cond, ◌==◌, List, [], ◌∷◌, ◌++◌, length, map, take, drop}
use Rattle.std.proofs.Common.{get_or, Some, slice_get, Result, Ok, Err, refl, sym, ap, ◌∙◌, arith}
use Rattle.std.proofs.Common.{append_assoc, append-nil, length-append, length-drop}
use Rattle.std.specs.Prelude.{decimal}
use Rattle.std.specs.List.{insert, list_all, prefix_len}
use Rattle.std.specs.FinMap.{is_sorted}
use Rattle.std.specs.Ordering.{nat_cmp}
use Rattle.std.specs.Str.Lines.{strip_carriage_return}
use Rattle.std.proofs.Math.Seq.{take-append_seam, drop-append_seam, get_or-append_seam}
use Rattle.std.proofs.lemmas.Bool.Decides.{nat_tests}
use Rattle.std.proofs.lemmas.Fmt.{decimal_by_steps}
use Rattle.std.proofs.lemmas.List.{get_or_append_left}
use Rattle.std.proofs.lemmas.List.Edits.{insert-append_right}
use Rattle.std.proofs.lemmas.List.Folds.{list_all-append}
use Rattle.std.proofs.lemmas.List.Sums.{fold-append, sum_by-append, sum_by-cons, prefix_len-le-length}
use Rattle.ptb_text.specs.declared.fault.LoadFault.{LoadFault}
use Rattle.ptb_text.specs.Lines.{pieces, onto_first, program_lines, is_printable, tab_as_space}
use Rattle.ptb_text.specs.ProgramTexts.{GivesProgram}
use Rattle.ptb_text.specs.NumberOrder.{IsGapFor, statement_number}
use Rattle.ptb_text.specs.Statements.{Statements, after_line, after_lines, after_statement, cost}
use Rattle.ptb_text.specs.Statements.{is_program, is_statement, line_of, listing, text_limit}
use Rattle.ptb_text.specs.Statements.{trim_start, with_text, IsText}
use Rattle.ptb_text.specs.Digits.{digits_value, is_blank, is_digit}
use Rattle.ptb_text.proofs.ByteTests.{none_from_list_all, prefix_len-whole}
use Rattle.ptb_text.proofs.Edits.{both, one_cost}
use Rattle.ptb_text.proofs.Entries.{with_text-gap}
use Rattle.ptb_text.proofs.LineParts.{after_digits, digits_of, after_number}
use Rattle.ptb_text.proofs.SoundPrograms.{StatementFacts, StatementFacts-from_test, both_true, rising}

-- ---- decimals, as they are read

record IsNumeralOf (n : ℕ) (ds : List ℕ) : Type 0 where
  all_digits : list_all is_digit ds ≡ true
  value : digits_value ds ≡ n
  some : 0 < length ds

digit_is : (n : ℕ) → n < 10 → is_digit (48 + n) ≡ true
digit_is n small = grind (arith, nat_tests)

IsNumeralOf-one : (n : ℕ) → n < 10 → IsNumeralOf n ((48 + n) ∷ [])
IsNumeralOf-one n small =
    record { all_digits = both _ _ (digit_is n small) refl; value = omega arith; some = omega arith }

IsNumeralOf-more : (n : ℕ) (ds : List ℕ) → 10 ≤ n → IsNumeralOf (n / 10) ds → IsNumeralOf n (ds ++ ((48 + n % 10) ∷ []))
IsNumeralOf-more n ds big front = record {
  all_digits =
      list_all-append is_digit ds ((48 + n % 10) ∷ [])
      ∙ both _ _ front.all_digits (both _ _ (digit_is (n % 10) (omega arith)) refl);
  value =
      fold-append (λ m d. m * 10 + (d - 48)) 0 ds ((48 + n % 10) ∷ [])
      ∙ ap (λ m. m * 10 + ((48 + n % 10) - 48)) front.value ∙ omega arith;
  some = omega (arith, length-append ds ((48 + n % 10) ∷ []));
}

numeral : (n : ℕ) → n ≤ 32767 → IsNumeralOf n (decimal n)
numeral n small = decimal_by_steps IsNumeralOf IsNumeralOf-one IsNumeralOf-more n (omega arith)

-- ---- lines that print

-- what passes one test passes a weaker one
list_all-weaker : (p q : ℕ → Bool) → ((b : ℕ) → p b ≡ true → q b ≡ true) → (xs : List ℕ) → list_all p xs ≡ true
    → list_all q xs ≡ true
list_all-weaker p q weaker [] all = refl
list_all-weaker p q weaker (x ∷ xs) all =
    both _ _ (weaker x (both_true _ _ all).0) (list_all-weaker p q weaker xs (both_true _ _ all).1)

digit_prints : (b : ℕ) → is_digit b ≡ true → is_printable b ≡ true
digit_prints b is = grind (arith, nat_tests)

digit_is_no_blank : (b : ℕ) → is_digit b ≡ true → is_blank b ≡ false
digit_is_no_blank b is = grind (arith, nat_tests)

prints_no_newline : (b : ℕ) → is_printable b ≡ true → (b == 10) ≡ false
prints_no_newline b is = grind (arith, nat_tests)

prints_no_return : (b : ℕ) → is_printable b ≡ true → (b == 13) ≡ false
prints_no_return b is = grind (arith, nat_tests)

prints_no_tab : (b : ℕ) → is_printable b ≡ true → tab_as_space b ≡ b
prints_no_tab b is = grind (arith, nat_tests)

abbrev Prints : List ℕ → Type 0
Prints l = list_all is_printable l ≡ true

no_return_at : (l : List ℕ) (k : ℕ) → Prints l → (get_or l k 0 == 13) ≡ false
no_return_at [] k prints = refl
no_return_at (b ∷ l) zero prints = prints_no_return b (both_true _ _ prints).0
no_return_at (b ∷ l) (suc k) prints = no_return_at l k (both_true _ _ prints).1

strip-prints : (l : List ℕ) → Prints l → strip_carriage_return l ≡ l
strip-prints l prints = ap (λ c. cond c (take (length l - 1) l) l) (no_return_at l (length l - 1) prints)

without_tabs-prints : (l : List ℕ) → Prints l → map tab_as_space l ≡ l
without_tabs-prints [] prints = refl
without_tabs-prints (b ∷ l) prints =
    λ i. prints_no_tab b (both_true _ _ prints).0 i ∷ without_tabs-prints l (both_true _ _ prints).1 i

-- a line that prints, in front of a newline, is cut off as it is
pieces-prints : (l rest : List ℕ) → Prints l → pieces (l ++ 10 ∷ rest) ≡ l ∷ pieces rest
pieces-prints [] rest prints = refl
pieces-prints (b ∷ l) rest prints =
    ap (λ c. cond c ([] ∷ pieces (l ++ 10 ∷ rest)) (onto_first b (pieces (l ++ 10 ∷ rest))))
    (prints_no_newline b (both_true _ _ prints).0)
    ∙ ap (onto_first b) (pieces-prints l rest (both_true _ _ prints).1)

program_lines-prints : (l rest : List ℕ) → Prints l → program_lines (l ++ 10 ∷ rest) ≡ l ∷ program_lines rest
program_lines-prints l rest prints =
    ap (λ ls. map (map tab_as_space) (map strip_carriage_return ls)) (pieces-prints l rest prints)
    ∙ ap (λ m. m ∷ program_lines rest) (ap (map tab_as_space) (strip-prints l prints) ∙ without_tabs-prints l prints)

-- ---- a listing's lines

-- a statement as a line without its newline
abbrev pub entry : ℕ × List ℕ → List ℕ
entry s = decimal s.0 ++ 32 ∷ s.1

entry-prints : (n : ℕ) (t : List ℕ) → StatementFacts n t → Prints (entry (n, t))
entry-prints n t facts =
    let digits = list_all-weaker is_digit is_printable digit_prints (decimal n) (numeral n facts.high).all_digits in
    list_all-append is_printable (decimal n) (32 ∷ t) ∙ both _ _ digits (both _ _ refl facts.text.printable)

program_lines-listing : (p : Statements) → list_all is_statement p ≡ true → program_lines (listing p) ≡ map entry p
program_lines-listing [] all = refl
program_lines-listing (s ∷ p) all =
    let facts = StatementFacts-from_test s.0 s.1 (both_true _ _ all).0 in
    ap program_lines (append_assoc (entry s) (10 ∷ []) (listing p))
    ∙ program_lines-prints (entry s) (listing p) (entry-prints s.0 s.1 facts)
    ∙ ap (λ ls. entry s ∷ ls) (program_lines-listing p (both_true _ _ all).1)

-- ---- what such a line enters

-- a text without a blank in front stays
nothing_dropped : (k : ℕ) (t : List ℕ) → k ≤ length t → length (drop k t) ≡ length t → k ≡ 0
nothing_dropped k t le same = omega (arith, length-drop k t)

trim_start-text : (t : List ℕ) → IsText t → prefix_len is_blank t ≡ 0
trim_start-text t text =
    nothing_dropped (prefix_len is_blank t) t (prefix_len-le-length is_blank t) text.no_blank_in_front

trim_start-after_blank : (t : List ℕ) → IsText t → trim_start (32 ∷ t) ≡ t
trim_start-after_blank t text = ap (λ k. drop (1 + k) (32 ∷ t)) (trim_start-text t text)

trim_start-digits : (ds rest : List ℕ) → list_all is_digit ds ≡ true → 0 < length ds
    → trim_start (ds ++ rest) ≡ ds ++ rest
trim_start-digits [] rest all some = absurd (omega arith)
trim_start-digits (d ∷ ds) rest all some =
    ap (λ c. drop (cond c (1 + prefix_len is_blank (ds ++ rest)) 0) ((d ∷ ds) ++ rest))
    (digit_is_no_blank d (both_true _ _ all).0)

store_text : (p : Statements) (memory n : ℕ) (t : List ℕ) → 0 < length t → length t ≤ text_limit
    → cost (with_text p n t) ≤ memory → after_statement p memory n t ≡ Ok (with_text p n t)
store_text p memory n [] some short fits = absurd (omega arith)
store_text p memory n (b ∷ t) some short fits = grind (arith, nat_tests)

after_line-entry : (p : Statements) (memory n : ℕ) (t : List ℕ) → StatementFacts n t → cost (with_text p n t) ≤ memory
    → after_line p memory (entry (n, t)) ≡ Ok (with_text p n t)
after_line-entry p memory n t facts fits =
    let line = entry (n, t) in
    let ds = decimal n in
    let is = numeral n facts.high in
    let clean = none_from_list_all is_printable line (entry-prints n t facts) in
    let size : prefix_len is_digit line ≡ length ds = prefix_len-whole is_digit ds 32 t is.all_digits refl in
    let digits : digits_of line ≡ ds = ap (λ k. take k line) size ∙ take-append_seam ds (32 ∷ t) in
    let following : after_digits line ≡ 32 ∷ t = ap (λ k. drop k line) size ∙ drop-append_seam ds (32 ∷ t) in
    let some : 0 < length line = omega (arith, is.some, length-append ds (32 ∷ t)) in
    let numbered = after_number line line clean (sym (trim_start-digits ds (32 ∷ t) is.all_digits is.some)) n some
    (ap digits_value digits ∙ is.value) facts.low facts.high in
    numbered.enters p memory
    ∙ ap (after_statement p memory n) (ap trim_start following ∙ trim_start-after_blank t facts.text)
    ∙ store_text p memory n t facts.text.not_empty facts.text.short fits

-- ---- all lines, one after the other

-- a statement that comes after all others is put after them
with_text-following : (p : Statements) (s : ℕ × List ℕ) (rest : Statements) → is_sorted nat_cmp (p ++ s ∷ rest) ≡ true
    → with_text p s.0 s.1 ≡ p ++ s ∷ []
with_text-following p s rest sorted =
    let all = p ++ s ∷ rest in
    let size = length-append p (s ∷ rest) in
    let here : statement_number all (length p) ≡ s.0 = ap (λ t. t.0) (get_or-append_seam p s rest (0, [])) in
    let gap : IsGapFor p s.0 (length p) = record {
      in_range = omega arith;
      smaller_before = λ j before.
          let there : statement_number all j ≡ statement_number p j =
          ap (λ t. t.0) (get_or_append_left p (s ∷ rest) (0, []) j before) in
          omega (arith, rising all sorted j (length p) before (omega arith));
      greater_after = λ j after within. absurd (omega arith);
    } in
    let insert_at : insert (p ++ []) (length p) s ≡ p ++ insert [] (length p - length p) s =
    insert-append_right p [] (length p) (length p) s refl (omega arith) in
    let none : length p - length p ≡ 0 = omega arith in
    with_text-gap p s.0 (length p) s.1 gap ∙ ap (λ q. insert q (length p) s) (sym (append-nil p)) ∙ insert_at
    ∙ ap (λ k. p ++ insert [] k s) none

accepted_first : (line : List ℕ) (rest : List (List ℕ)) (k : ℕ) (p q : Statements) (memory : ℕ)
    → after_line p memory line ≡ Ok q → after_lines (line ∷ rest) k p memory ≡ after_lines rest (k + 1) q memory
unfolding after_lines
accepted_first line rest k p q memory e = ap (λ r. elim r as (λ _. Result Statements (ℕ × LoadFault))
    [ Ok p' ↦ after_lines rest (k + 1) p' memory | Err fault ↦ Err (k, fault) ]) e

none_left : (k : ℕ) (p : Statements) (memory : ℕ) → after_lines [] k p memory ≡ Ok p
unfolding after_lines
none_left k p memory = refl

-- a program costs no less than the part of it up to a statement
cost-front : (p : Statements) (s : ℕ × List ℕ) (rest : Statements) → cost (p ++ s ∷ []) ≤ cost (p ++ s ∷ rest)
cost-front p s rest =
    let front : cost (p ++ s ∷ []) ≡ cost p + cost (s ∷ []) = sum_by-append one_cost p (s ∷ []) in
    let one : cost (s ∷ []) ≡ one_cost s + 0 = sum_by-cons one_cost s [] in
    let whole : cost (p ++ s ∷ rest) ≡ cost p + cost (s ∷ rest) = sum_by-append one_cost p (s ∷ rest) in
    let parts : cost (s ∷ rest) ≡ one_cost s + cost rest = sum_by-cons one_cost s rest in
    omega arith

entries_entered : (p rest : Statements) (k memory : ℕ) → is_program (p ++ rest) ≡ true → cost (p ++ rest) ≤ memory
    → after_lines (map entry rest) k p memory ≡ Ok (p ++ rest)
entries_entered p [] k memory is fits = none_left k p memory ∙ ap Ok (sym (append-nil p))
entries_entered p (s ∷ rest) k memory is fits =
    let parts = both_true _ _ is in
    let stored = with_text-following p s rest parts.0 in
    let others : (p ++ s ∷ []) ++ rest ≡ p ++ s ∷ rest = append_assoc p (s ∷ []) rest in
    let facts = StatementFacts-from_test s.0 s.1
    (both_true _ _ (both_true _ _ (sym (list_all-append is_statement p (s ∷ rest)) ∙ parts.1)).1).0 in
    let costs : cost (p ++ s ∷ []) ≤ memory = omega (arith, cost-front p s rest) in
    let one = after_line-entry p memory s.0 s.1 facts (rw stored costs) in
    accepted_first (entry s) (map entry rest) k p (with_text p s.0 s.1) memory one
    ∙ ap (λ q. after_lines (map entry rest) (k + 1) q memory) stored
    ∙ entries_entered (p ++ s ∷ []) rest (k + 1) memory (rw others is) (rw others fits)
    ∙ ap Ok others

-- the listing of a program gives the program, where the memory has room for it
pub GivesProgram-listing : (memory : ℕ) (p : Statements) → is_program p ≡ true → cost p ≤ memory
    → GivesProgram memory (listing p) p
GivesProgram-listing memory p is fits =
    ap (λ ls. after_lines ls 1 [] memory) (program_lines-listing p (both_true _ _ is).1)
    ∙ entries_entered [] p 1 memory is fits

-- ---- the lines that are left to be written

pub listing-drop : (p : Statements) (i : ℕ) (s : ℕ × List ℕ) → slice_get p i ≡ Some s
    → listing (drop i p) ≡ line_of s ++ listing (drop (i + 1) p)
listing-drop [] i s there = cc
listing-drop (t ∷ p) zero s there = let same : t ≡ s = cc in ap (λ q. line_of q ++ listing p) same
listing-drop (t ∷ p) (suc i) s there = let next : suc i + 1 ≡ suc (i + 1) = omega arith in
    rw next (listing-drop p i s there)
