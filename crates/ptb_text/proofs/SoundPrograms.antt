-- This file proves what is known of each statement of a program, and of the order of their numbers.
-- Main lemma: `text_at-number`.
use Rattle.std.proofs.Common.{◌≡◌, ℕ, zero, suc, ◌<◌, ◌≤◌, Bool, true, false, ◌&&◌, List, [], ◌∷◌}
use Rattle.std.proofs.Common.{length, get_or, Some, refl, arith}
use Rattle.std.specs.List.{list_all}
use Rattle.std.specs.Ordering.{nat_cmp, is_lt}
use Rattle.std.specs.FinMap.{is_sorted}
use Rattle.std.specs.FinMap.Entries.{below_all}
use Rattle.std.proofs.lemmas.Bool.{ltb-true, leb-true, eqb-true}
use Rattle.std.proofs.lemmas.Bool.Decides.{nat_tests}
use Rattle.ptb_text.specs.Statements.{Statements, text_at, is_statement, is_program, IsText}
use Rattle.ptb_text.specs.NumberOrder.{statement_number, IsAt}
use Rattle.ptb_text.proofs.Entries.{text_at-place}

pub both_true : (a b : Bool) → (a && b) ≡ true → (a ≡ true) × (b ≡ true)
both_true true b e = (refl, e)
both_true false b e = cc

-- ---- each statement is one

pub is_statement_at : (p : Statements) → list_all is_statement p ≡ true → (i : ℕ) → i < length p
    → is_statement (get_or p i (0, [])) ≡ true
is_statement_at [] all i in_range = absurd (omega arith)
is_statement_at (s ∷ p) all zero in_range = (both_true _ _ all).0
is_statement_at (s ∷ p) all (suc i) in_range = is_statement_at p (both_true _ _ all).1 i (omega arith)

-- the facts that the test of a statement says
pub record StatementFacts (n : ℕ) (t : List ℕ) : Type 0 where
  pub low : 0 < n
  pub high : n ≤ 32767
  pub text : IsText t

pub StatementFacts-from_test : (n : ℕ) (t : List ℕ) → is_statement (n, t) ≡ true → StatementFacts n t
StatementFacts-from_test n t e =
    let a = both_true _ _ e in
    let b = both_true _ _ a.0 in
    let c = both_true _ _ b.0 in
    let d = both_true _ _ c.0 in
    let f = both_true _ _ d.0 in
    record {
      low = ltb-true _ _ f.0;
      high = leb-true _ _ f.1;
      text = record {
        not_empty = ltb-true _ _ d.1;
        short = leb-true _ _ c.1;
        printable = b.1;
        no_blank_in_front = eqb-true _ _ a.1;
      };
    }

pub StatementFacts_at : (p : Statements) → is_program p ≡ true → (i n : ℕ) (t : List ℕ) → i < length p
    → get_or p i (0, []) ≡ (n, t) → StatementFacts n t
StatementFacts_at p is i n t in_range same =
    StatementFacts-from_test n t (rw same at (is_statement_at p (both_true _ _ is).1 i in_range))

-- ---- the numbers rise

less_from_test : (a b : ℕ) → is_lt (nat_cmp a b) ≡ true → a < b
less_from_test a b e = grind (arith, nat_tests)

below_each : (n : ℕ) (p : Statements) → below_all nat_cmp n p ≡ true → (j : ℕ) → j < length p → n < statement_number p j
below_each n [] below j in_range = absurd (omega arith)
below_each n (s ∷ p) below zero in_range = less_from_test n s.0 (both_true _ _ below).0
below_each n (s ∷ p) below (suc j) in_range = below_each n p (both_true _ _ below).1 j (omega arith)

pub rising : (p : Statements) → is_sorted nat_cmp p ≡ true → (i j : ℕ) → i < j → j < length p
    → statement_number p i < statement_number p j
rising [] sorted i j lt in_range = absurd (omega arith)
rising (s ∷ p) sorted i zero lt in_range = absurd (omega arith)
rising (s ∷ p) sorted zero (suc j) lt in_range = below_each s.0 p (both_true _ _ sorted).0 j (omega arith)
rising (s ∷ p) sorted (suc i) (suc j) lt in_range = rising p (both_true _ _ sorted).1 i j (omega arith) (omega arith)

-- so each statement is at the place of its number
pub IsAt-from_rising : (p : Statements) → is_sorted nat_cmp p ≡ true → (i : ℕ) → i < length p
    → IsAt p (statement_number p i) i
IsAt-from_rising p sorted i in_range = record {
  in_range = in_range;
  has_number = refl;
  smaller_before = λ j before. rising p sorted j i before in_range;
  greater_after = λ j after within. rising p sorted i j after within;
}

-- and its number has a text
pub text_at-number : (p : Statements) → is_program p ≡ true → (i : ℕ) → i < length p
    → text_at p (statement_number p i) ≡ Some (get_or p i (0, [])).1
text_at-number p is i in_range =
    text_at-place p (statement_number p i) i (IsAt-from_rising p (both_true _ _ is).0 i in_range)
