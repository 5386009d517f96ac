-- This file proves what a search by number finds among the statements of a program.
-- Main lemma: `searched`.
use Rattle.std.proofs.Common.{◌≡◌, ℕ, ◌-◌, ◌<◌, ◌≤◌, List, [], ◌∷◌, length, map, get_or, Result, Ok}
use Rattle.std.proofs.Common.{Err, IfOk, IfErr, Option, Some, None, IfSome, slice_get, true, sym}
use Rattle.std.proofs.Common.{ap, ◌∙◌, arith}
use Rattle.std.specs.FinMap.{is_sorted}
use Rattle.std.specs.Ordering.{nat_cmp, ordering_index}
use Rattle.std.specs.declared.cmp.Ordering.TheVariants.{Less, Equal, Greater}
use Rattle.std.specs.List.Sorted.{IsSearchInRange, IsBinarySearchResult, IsNonDecreasingBy}
use Rattle.std.proofs.lemmas.Bool.Decides.{nat_tests}
use Rattle.std.proofs.lemmas.List.{get_or-map, length-map}
use Rattle.std.proofs.lemmas.Option.{slice_get-get_or, get_or_from_slice_get}
use Rattle.ptb_text.specs.declared.program.Statement.{Statement}
use Rattle.ptb_text.specs.Statements.{Statements}
use Rattle.ptb_text.specs.NumberOrder.{statement_number, IsAt, IsGapFor}
use Rattle.ptb_text.proofs.SoundPrograms.{rising}
use Rattle.ptb_text.proofs.Pool.{shown}

-- what an answer of the comparison says
pub same_from_equal : (a b : ℕ) → nat_cmp a b ≡ Equal → a ≡ b
same_from_equal a b e = grind (arith, nat_tests)

less_from_less : (a b : ℕ) → nat_cmp a b ≡ Less → a < b
less_from_less a b e = grind (arith, nat_tests)

less_from_greater : (a b : ℕ) → nat_cmp a b ≡ Greater → b < a
less_from_greater a b e = grind (arith, nat_tests)

index_rises : (a b n : ℕ) → a ≤ b → ordering_index (nat_cmp a n) ≤ ordering_index (nat_cmp b n)
index_rises a b n le = grind (arith, nat_tests)

number_shown : (pool : List ℕ) (ss : List Statement) (i : ℕ) (d : Statement) → i < length ss
    → statement_number (map (shown pool) ss) i ≡ (get_or ss i d).number
number_shown pool ss i d in_range = ap (λ s. s.0) (get_or-map (shown pool) ss i d (0, []) in_range)

module _ (pool : List ℕ) (ss : List Statement) (sorted : is_sorted nat_cmp (map (shown pool) ss) ≡ true) where
  -- the numbers that are compared do not fall
  numbers_rise : (i j : ℕ) (d : Statement) → i ≤ j → j < length ss → (get_or ss i d).number ≤ (get_or ss j d).number
  numbers_rise i j d le in_range =
      let here = number_shown pool ss i d (omega arith) in
      let there = number_shown pool ss j d in_range in
      let size : length (map (shown pool) ss) ≡ length ss = length-map ss (shown pool) in
      grind (arith, rising (map (shown pool) ss) sorted i j, λ (same : i ≡ j). ap (λ k. (get_or ss k d).number) same)

  comparisons_rise : (n : ℕ) → IsNonDecreasingBy (λ s. ordering_index (nat_cmp s.number n)) ss
  comparisons_rise n i j d le in_range = index_rises _ _ n (numbers_rise i j d le in_range)

  IsAt-place : (i n : ℕ) (d : Statement) → i < length ss → (get_or ss i d).number ≡ n → IsAt (map (shown pool) ss) n i
  IsAt-place i n d in_range same =
      let size : length (map (shown pool) ss) ≡ length ss = length-map ss (shown pool) in
      let here : statement_number (map (shown pool) ss) i ≡ n = number_shown pool ss i d in_range ∙ same in
      record {
        in_range = omega arith;
        has_number = here;
        smaller_before = λ j before. omega (arith, rising (map (shown pool) ss) sorted j i before (omega arith));
        greater_after = λ j after within. omega (arith, rising (map (shown pool) ss) sorted i j after within);
      }

-- a binary search by number ends at the statement, or at the place where it would go
pub record IsSearched (p : Statements) (n : ℕ) (r : Result ℕ ℕ) : Type 0 where
  pub found : IfOk r (IsAt p n)
  pub absent : IfErr r (IsGapFor p n)

pub searched : (pool : List ℕ) (ss : List Statement) → is_sorted nat_cmp (map (shown pool) ss) ≡ true
    → (n : ℕ) (r : Result ℕ ℕ) → IsSearchInRange r (length ss) → IsBinarySearchResult (λ s. nat_cmp s.number n) ss r
    → IsSearched (map (shown pool) ss) n r
searched pool [] sorted n (Ok i) in_range equal = absurd (omega arith)
searched pool [] sorted n (Err i) in_range parted = record {
  found = tt;
  absent = record {
    in_range = in_range;
    smaller_before = λ j before. absurd (omega arith);
    greater_after = λ j after within. absurd (omega arith);
  };
}
searched pool (s ∷ ss) sorted n (Ok i) in_range equal =
    record { found = IsAt-place pool (s ∷ ss) sorted i n s in_range (same_from_equal _ n (equal s)); absent = tt }
searched pool (s ∷ ss) sorted n (Err i) in_range parted =
    let all = s ∷ ss in
    let size : length (map (shown pool) all) ≡ length all = length-map all (shown pool) in
    let point = parted (comparisons_rise pool all sorted n) in
    record {
      found = tt;
      absent = record {
        in_range = omega arith;
        smaller_before =
            λ j before. omega
            (arith, number_shown pool all j s (omega arith), less_from_less _ n (point.0 j s (omega arith) before));
        greater_after =
            λ j after within. omega
            (arith, number_shown pool all j s (omega arith), less_from_greater _ n (point.1 j s after (omega arith)));
      };
    }

-- a number above the last one, if there is one, would come after all
pub IsGapFor-end : (pool : List ℕ) (ss : List Statement) → is_sorted nat_cmp (map (shown pool) ss) ≡ true
    → (n : ℕ) (last : Option Statement) → last ≡ slice_get ss (length ss - 1) → IfSome last (λ s. s.number < n)
    → IsGapFor (map (shown pool) ss) n (length ss)
IsGapFor-end pool [] sorted n last is above = record {
  in_range = omega arith;
  smaller_before = λ j before. absurd (omega arith);
  greater_after = λ j after within. absurd (omega arith);
}
IsGapFor-end pool (s ∷ ss) sorted n None is above =
    let there = slice_get-get_or (s ∷ ss) (length (s ∷ ss) - 1) s (omega arith) in
    cc
IsGapFor-end pool (s ∷ ss) sorted n (Some last) is above =
    let all = s ∷ ss in
    let size : length (map (shown pool) all) ≡ length all = length-map all (shown pool) in
    let same = get_or_from_slice_get all (length all - 1) last s (sym is) in
    record {
      in_range = omega arith;
      smaller_before = λ j before. omega (
        arith,
        number_shown pool all j s (omega arith),
        numbers_rise pool all sorted j (length all - 1) s (omega arith) (omega arith),
        ap (λ t. t.number) same,
      );
      greater_after = λ j after within. absurd (omega arith);
    }
