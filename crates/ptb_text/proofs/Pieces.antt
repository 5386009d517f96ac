-- This file proves how a program text is cut into lines, one after the other.
-- Main lemma: `lines-cut`.
use Rattle.std.proofs.Common.{◌≡◌, ℕ, suc, ◌+◌, ◌-◌, ◌<◌, ◌≤◌, ◌≢◌, Bool, true, false, not, cond}
use Rattle.std.proofs.Common.{◌==◌, List, [], ◌∷◌, ◌++◌, length, map, take, drop, get_or, set, Some}
use Rattle.std.proofs.Common.{None, refl, sym, ap, ◌∙◌, arith, one-add, add-one}
use Rattle.std.specs.Prelude.{position}
use Rattle.std.specs.List.{prefix_len}
use Rattle.std.specs.Str.Lines.{strip_carriage_return}
use Rattle.std.proofs.lemmas.Bool.{ltb-true, ltb-false}
use Rattle.std.proofs.lemmas.Bool.Decides.{nat_tests}
use Rattle.std.proofs.lemmas.List.{get_or_default, length-map, length-take, length-drop, length-append, take-map}
use Rattle.std.proofs.Math.ListN.{get_or-map}
use Rattle.std.proofs.lemmas.List.Edits.{map_over_more}
use Rattle.ptb_text.specs.Lines.{pieces, onto_first, lines, program_lines, tab_as_space}

-- ---- tabs

no_tab : (b : ℕ) → b ≢ 9 → tab_as_space b ≡ b
no_tab b differs = grind (arith, nat_tests)

module _ (xs ys : List ℕ) (i : ℕ) (in_range : i < length xs)
    (so_far : ys ≡ map tab_as_space (take i xs) ++ drop i xs) where
  same_length : length ys ≡ length xs
  same_length = ap length so_far ∙ simp (length-append, length-map, length-take, length-drop) (omega arith)

  read_at : (d : ℕ) → get_or ys i 0 ≡ get_or ys i d
  read_at d = get_or_default ys i 0 d (omega (arith, same_length))

  -- a tab at the next place is written over
  pub spaces_more : get_or ys i 0 ≡ 9 → set ys i 32 ≡ map tab_as_space (take (i + 1) xs) ++ drop (i + 1) xs
  spaces_more is = map_over_more tab_as_space xs ys i 9 in_range so_far (sym (sym (read_at 9) ∙ is))

  -- another byte stays
  pub spaces_same : get_or ys i 0 ≢ 9 → set ys i (get_or ys i 0) ≡ map tab_as_space (take (i + 1) xs) ++ drop (i + 1) xs
  spaces_same differs =
      let b = get_or ys i 0 in
      ap (set ys i) (sym (no_tab b differs)) ∙ map_over_more tab_as_space xs ys i b in_range so_far (read_at b)

-- ---- cutting at byte 10

-- how many bytes are before the first byte 10
abbrev pub piece_len : List ℕ → ℕ
piece_len t = prefix_len (λ b. not (b == 10)) t

found : (b : Bool) (n k : ℕ) → cond b (Some n) None ≡ Some k → (b ≡ true) × (n ≡ k)
found true n k e = (refl, cc)
found false n k e = cc

not_found : (b : Bool) (n : ℕ) → cond b (Some n) None ≡ None → b ≡ false
not_found true n e = cc
not_found false n e = refl

pieces-cut : (t : List ℕ) → piece_len t < length t
    → pieces t ≡ take (piece_len t) t ∷ pieces (drop (suc (piece_len t)) t)
pieces-cut [] short = absurd (omega arith)
pieces-cut (b ∷ bs) short =
    elim (b == 10) as (λ c. cond (not c) (1 + piece_len bs) 0 < suc (length bs)
    → cond c ([] ∷ pieces bs) (onto_first b (pieces bs)) ≡ take (cond (not c) (1 + piece_len bs) 0) (b ∷ bs)
    ∷ pieces (drop (suc (cond (not c) (1 + piece_len bs) 0)) (b ∷ bs))) [
      | true ↦ λ _. refl
      | false ↦ λ h. rw one-add (ap (onto_first b) (pieces-cut bs (omega arith)))
    ] short

pieces-whole : (t : List ℕ) → 0 < length t → length t ≤ piece_len t → pieces t ≡ t ∷ []
pieces-whole [] some all = absurd (omega arith)
pieces-whole (b ∷ []) some all =
    elim (b == 10) as (λ c. 1 ≤ cond (not c) (1 + 0) 0 → cond c ([] ∷ []) (onto_first b []) ≡ (b ∷ []) ∷ []) [
      | true ↦ λ h. absurd (omega arith)
      | false ↦ λ _. refl
    ] all
pieces-whole (b ∷ d ∷ bs) some all =
    elim (b == 10) as (λ c. suc (suc (length bs)) ≤ cond (not c) (1 + piece_len (d ∷ bs)) 0
    → cond c ([] ∷ pieces (d ∷ bs)) (onto_first b (pieces (d ∷ bs))) ≡ (b ∷ d ∷ bs) ∷ []) [
      | true ↦ λ h. absurd (omega arith)
      | false ↦ λ h. ap (onto_first b) (pieces-whole (d ∷ bs) (omega arith) (omega arith))
    ] all

-- a text with a byte 10: the line before the first, and those after it
pub lines-cut : (t : List ℕ) (k : ℕ) → position (λ b. b == 10) t ≡ Some k
    → lines t ≡ strip_carriage_return (take k t) ∷ lines (drop (k + 1) t)
lines-cut t k is =
    let there = found _ _ _ is in
    let before : piece_len t < length t = ltb-true _ _ there.0 in
    rw (← there.1, add-one) (ap (map strip_carriage_return) (pieces-cut t before))

-- a text without one is a line
pub lines-whole : (t : List ℕ) → 0 < length t → position (λ b. b == 10) t ≡ None
    → lines t ≡ strip_carriage_return t ∷ []
lines-whole t some is =
    let all : length t ≤ piece_len t = ltb-false _ _ (not_found _ _ is) in
    ap (map strip_carriage_return) (pieces-whole t some all)

-- ---- lines without tabs

newline_stays : (b : ℕ) → (tab_as_space b == 10) ≡ (b == 10)
newline_stays b = grind (arith, nat_tests)

return_stays : (b : ℕ) → (tab_as_space b == 13) ≡ (b == 13)
return_stays b = grind (arith, nat_tests)

abbrev without_tabs : List ℕ → List ℕ
without_tabs l = map tab_as_space l

onto_first-map : (b : ℕ) (ls : List (List ℕ))
    → onto_first (tab_as_space b) (map without_tabs ls) ≡ map without_tabs (onto_first b ls)
onto_first-map b [] = refl
onto_first-map b (l ∷ ls) = refl

pieces-map : (t : List ℕ) → pieces (without_tabs t) ≡ map without_tabs (pieces t)
pieces-map [] = refl
pieces-map (b ∷ bs) =
    ap (λ c. cond c ([] ∷ pieces (without_tabs bs)) (onto_first (tab_as_space b) (pieces (without_tabs bs))))
    (newline_stays b)
    ∙ elim (b == 10) as (λ c. cond c ([] ∷ pieces (without_tabs bs)) (onto_first (tab_as_space b)
    (pieces (without_tabs bs))) ≡ map without_tabs (cond c ([] ∷ pieces bs) (onto_first b (pieces bs)))) [
      | true ↦ ap (λ ls. [] ∷ ls) (pieces-map bs)
      | false ↦ ap (onto_first (tab_as_space b)) (pieces-map bs) ∙ onto_first-map b (pieces bs)
    ]

strip-map : (l : List ℕ) → strip_carriage_return (without_tabs l) ≡ without_tabs (strip_carriage_return l)
strip-map l =
    let last = get_or l (length l - 1) 0 in
    let size : length (without_tabs l) - 1 ≡ length l - 1 = ap (λ n. n - 1) (length-map l tab_as_space) in
    let same : (get_or (without_tabs l) (length (without_tabs l) - 1) 0 == 13) ≡ (last == 13)
    =
    ap (λ n. get_or (without_tabs l) n 0 == 13) size
    ∙ ap (λ b. b == 13) (get_or-map tab_as_space l (length l - 1) 0) ∙ return_stays last in
    ap (λ c. cond c (take (length (without_tabs l) - 1) (without_tabs l)) (without_tabs l)) same
    ∙ ap (λ n. cond (last == 13) (take n (without_tabs l)) (without_tabs l)) size
    ∙ elim (last == 13) as (λ c. cond c (take (length l - 1) (without_tabs l)) (without_tabs l)
    ≡ without_tabs (cond c (take (length l - 1) l) l)) [
      | true ↦ take-map tab_as_space (length l - 1) l
      | false ↦ refl
    ]

map-strip : (ls : List (List ℕ))
    → map strip_carriage_return (map without_tabs ls) ≡ map without_tabs (map strip_carriage_return ls)
map-strip [] = refl
map-strip (l ∷ ls) = λ i. strip-map l i ∷ map-strip ls i

-- tabs may be written over before the text is cut
pub lines-spaces : (t : List ℕ) → lines (map tab_as_space t) ≡ program_lines t
lines-spaces t = ap (map strip_carriage_return) (pieces-map t) ∙ map-strip (pieces t)
