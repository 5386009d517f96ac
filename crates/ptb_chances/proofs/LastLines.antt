-- This file proves what the last of some lines is, and that only the end of a text decides it.
-- Main lemma: `same_end_at`.
use Rattle.std.proofs.Common.{◌≡◌, ◌⊎◌, ◌<◌, ◌-◌, ℕ, zero, suc, inl, inr, Bool, true, false, cond}
use Rattle.std.proofs.Common.{List, [], ◌∷◌, ◌++◌, map, take, drop, length, get_or, refl, ap, sym}
use Rattle.std.proofs.Common.{subst, ◌∙◌, append_assoc, arith}
use Rattle.std.specs.Prelude.{◌==◌}
use Rattle.std.specs.Str.Lines.{strip_carriage_return}
use Rattle.std.proofs.Math.Seq.{drop-cons}
use Rattle.std.proofs.lemmas.List.{take-append-drop}
use Rattle.ptb_text.specs.Lines.{lines, pieces, onto_first}
use Rattle.ptb_chances.specs.Chances.{last_line}
use Rattle.ptb_chances.specs.StagePlays.{SameEnd}

pub last_after_empty : (ls : List (List ℕ)) → last_line ([] ∷ ls) ≡ last_line ls
last_after_empty [] = refl
last_after_empty (l ∷ ls) = refl

-- a text with a byte 10 is some pieces, and those of what is after it
record Parted (b : List ℕ) : Type 0 where
  first : List ℕ
  others : List (List ℕ)
  parted : (t : List ℕ) → pieces (b ++ 10 ∷ t) ≡ first ∷ (others ++ pieces t)

parted_text : (b : List ℕ) → Parted b
parted_text [] = record { first = []; others = []; parted = λ t. refl }
parted_text (x ∷ b) = let rest = parted_text b in record {
  first = first_of_both (x == 10) rest;
  others = others_of (x == 10) rest;
  parted = λ t. by (x == 10) rest t;
}
  where
    first_of_both : Bool → Parted b → List ℕ
    first_of_both true p = []
    first_of_both false p = x ∷ p.first

    others_of : Bool → Parted b → List (List ℕ)
    others_of true p = p.first ∷ p.others
    others_of false p = p.others

    by : (c : Bool) (p : Parted b) (t : List ℕ)
        → cond c ([] ∷ pieces (b ++ 10 ∷ t)) (onto_first x (pieces (b ++ 10 ∷ t)))
        ≡ first_of_both c p ∷ (others_of c p ++ pieces t)
    by true p t = ap (λ ls. [] ∷ ls) (p.parted t)
    by false p t = ap (onto_first x) (p.parted t)

-- a text that isn't empty has a piece
record HasPiece (t : List ℕ) : Type 0 where
  first : List ℕ
  others : List (List ℕ)
  is : pieces t ≡ first ∷ others

some_piece : (x : ℕ) (t : List ℕ) → HasPiece (x ∷ t)
some_piece x t = by (x == 10) (pieces t) refl
  where
    by : (c : Bool) (ls : List (List ℕ))
        → cond c ([] ∷ ls) (onto_first x ls) ≡ cond (x == 10) ([] ∷ pieces t) (onto_first x (pieces t))
        → HasPiece (x ∷ t)
    by true ls same = record { first = []; others = ls; is = sym same }
    by false [] same = record { first = x ∷ []; others = []; is = sym same }
    by false (l ∷ ls) same = record { first = x ∷ l; others = ls; is = sym same }

last_after : (ls : List (List ℕ)) (m : List ℕ) (ms : List (List ℕ))
    → last_line (map strip_carriage_return (ls ++ m ∷ ms)) ≡ last_line (map strip_carriage_return (m ∷ ms))
last_after [] m ms = refl
last_after (l ∷ []) m ms = refl
last_after (l ∷ k ∷ ks) m ms = last_after (k ∷ ks) m ms

last_parted : (b : List ℕ) (x : ℕ) (t : List ℕ) → last_line (lines (b ++ 10 ∷ x ∷ t)) ≡ last_line (lines (x ∷ t))
last_parted b x t =
    let p = parted_text b in
    let s = some_piece x t in
    ap (λ ls. last_line (map strip_carriage_return ls)) (p.parted (x ∷ t) ∙ ap (λ ls. p.first ∷ (p.others ++ ls)) s.is)
    ∙ last_after (p.first ∷ p.others) s.first s.others
    ∙ ap (λ ls. last_line (map strip_carriage_return ls)) (sym s.is)

-- after a byte 10, what comes before it doesn't matter
same_after : (b : List ℕ) (x : ℕ) (t : List ℕ) → SameEnd (b ++ 10 ∷ x ∷ t) (x ∷ t)
same_after b x t = λ more. ap (λ s. last_line (lines s)) (append_assoc b (10 ∷ x ∷ t) more)
    ∙ last_parted b x (t ++ more)

same_end_from : (s : List ℕ) (n : ℕ) → get_or s n 0 ≡ 10 → suc n < length s → SameEnd s (drop (suc n) s)
same_end_from s n is within = by (get_or s (suc n) 0) (drop (suc (suc n)) s) (drop-cons s (suc n) 0 within)
  where
    by : (x : ℕ) (t : List ℕ) → drop (suc n) s ≡ x ∷ t → SameEnd s (drop (suc n) s)
    by x t rest =
        let there : drop n s ≡ 10 ∷ x ∷ t = drop-cons s n 0 (omega (arith, within)) ∙ ap (λ y. y ∷ drop (suc n) s) is
        ∙ ap (λ u. 10 ∷ u) rest in
        let whole : take n s ++ 10 ∷ x ∷ t ≡ s = ap (λ u. take n s ++ u) (sym there) ∙ take-append-drop n s in
        λ more. ap (λ u. last_line (lines (u ++ more))) (sym whole) ∙ same_after (take n s) x t more
        ∙ ap (λ u. last_line (lines (u ++ more))) (sym rest)

-- what comes before the beginning of a line doesn't matter, where something is after it
pub same_end_at : (s : List ℕ) (start : ℕ) → (start ≡ 0) ⊎ (get_or s (start - 1) 0 ≡ 10) → start < length s
    → SameEnd s (drop start s)
same_end_at s zero begins within = λ more. refl
same_end_at s (suc n) (inl none) within = absurd (omega (arith, none))
same_end_at s (suc n) (inr is) within = same_end_from s n (let same : suc n - 1 ≡ n = omega arith in
    subst (λ k. get_or s k 0 ≡ 10) same is) within

pub some_of : (n : ℕ) → (n ≡ 0 → ⊥) → 0 < n
some_of zero some = absurd (some refl)
some_of (suc n) some = omega arith
