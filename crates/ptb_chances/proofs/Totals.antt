-- This file proves that the rows of a table have together what all runs have: their chances add up to 1, and their
-- numbers of runs to that of all runs.
-- Main lemma: `table_laws`.
use Rattle.std.proofs.Common.{◌≡◌, ℕ, zero, suc, ◌+◌, ◌<◌, Bool, true, false, ◌||◌, List, [], ◌∷◌, map, length}
use Rattle.std.specs.Prelude.{Contains, slice_index_or}
use Rattle.std.proofs.Common.{refl, ap, sym, subst, ◌∙◌, arith}
use Rattle.std.specs.List.{AllByRecursion}
use Rattle.std.specs.List.Sorted.{IsStrictlySortedBy}
use Rattle.std.specs.Ordering.{is_eq}
use Rattle.std.specs.declared.cmp.Ordering.{Ordering}
use Rattle.std.specs.declared.cmp.Ordering.TheVariants.{Less, Equal, Greater}
use Rattle.std.proofs.lemmas.Cmp.{tied_itself}
use Rattle.std.proofs.lemmas.Map.Keys.{sorted_head, sorted_tail}
use Rattle.ptb_numbers.specs.Fractions.{Ratio, plus, lowest, Equals}
use Rattle.ptb_answers.specs.Outcome.{Answers, Outcome, IsReader, bounds}
use Rattle.ptb_machine.specs.Play.{Finish}
use Rattle.ptb_chances.specs.Chances.{RunResult, Row, chance, chance_of_all, result_of}
use Rattle.ptb_chances.specs.Chances.{result_order, results, row_of, runs_with, table}
use Rattle.ptb_machine.specs.RunTree.{tree}
use Rattle.ptb_chances.proofs.ChanceSums.{whole_chance, sum_positive}
use Rattle.ptb_chances.specs.Accounts.{has_result, rows_with, chance_of_rows, runs_of_rows, ArePositive, account}
use Rattle.ptb_chances.specs.Order.{result_order_total}
use Rattle.ptb_chances.specs.TableLaws.{IsRowOf, ResultsIn, TableLaws}
use Rattle.ptb_chances.proofs.Accounts.{maybe, chance_is, runs_are, chance_positive}
use Rattle.ptb_chances.proofs.PositiveAccounts.{all_positive}
use Rattle.ptb_chances.proofs.LowestTerms.{lowest_equal, lowest_low, lowest_positive}
use Rattle.ptb_chances.proofs.Orders.{result_exact, less_apart, has, has_results, results_rise}
use Rattle.ptb_chances.proofs.Sums.{nothing, plus_nothing, plus_assoc, plus_turn, plus_positive}
use Rattle.ptb_chances.proofs.Sums.{equals_plus, equals_then}

-- ---- which results are there

equal_by_test : (o : Ordering) → is_eq o ≡ true → o ≡ Equal
equal_by_test Less h = absurd cc
equal_by_test Equal h = refl
equal_by_test Greater h = absurd cc

left_of : (a b : Bool) → a || b ≡ false → a ≡ false
left_of true b h = absurd cc
left_of false b h = refl

right_of : (a b : Bool) → a || b ≡ false → b ≡ false
right_of true b h = absurd cc
right_of false b h = h

or_right : (a b : Bool) → b ≡ true → a || b ≡ true
or_right true b h = refl
or_right false b h = h

-- what is less than all of them is none of them
absent_below : (r : RunResult) (rs : List RunResult) → AllByRecursion (λ y. result_order r y ≡ Less) rs
    → has r rs ≡ false
absent_below r [] h = refl
absent_below r (y ∷ rs) h = ap (λ b. b || has r rs) (less_apart r y h.0) ∙ absent_below r rs h.1

abbrev results_in : List Row → List RunResult
results_in ws = map (λ w. w.result) ws

all_there : (ws : List Row) (rs : List RunResult) → ((q : RunResult) → has q (results_in ws) ≡ true → has q rs ≡ true)
    → AllByRecursion (λ w. has w.result rs ≡ true) ws
all_there [] rs sub = tt
all_there (w ∷ ws) rs sub = (
  sub w.result (ap (λ b. b || has w.result (results_in ws)) (ap is_eq (tied_itself result_order_total w.result))),
  all_there ws rs (λ q h. sub q (or_right (is_eq (result_order q w.result)) (has q (results_in ws)) h)),
)

-- ---- what a list of results contains

has_contained : (q : RunResult) (ks : List RunResult) → has q ks ≡ true → Contains ks q
has_contained q [] h = absurd cc
has_contained q (k ∷ ks) h = by_test (is_eq (result_order q k)) refl h (has_contained q ks)
  where
    by_test : (b : Bool) → is_eq (result_order q k) ≡ b → b || has q ks ≡ true → (has q ks ≡ true → Contains ks q)
        → Contains (k ∷ ks) q
    by_test true e h later = (0, omega arith, sym (result_exact q k (equal_by_test (result_order q k) e)))
    by_test false e h later = let c = later h in (suc c.0, omega (arith, c.1), c.2)

contained_has : (q : RunResult) (ks : List RunResult) → Contains ks q → has q ks ≡ true
contained_has q ks c = at_place ks c.0 c.1 c.2
  where
    at_place : (ks : List RunResult) (i : ℕ) → i < length ks → slice_index_or ks i q ≡ q → has q ks ≡ true
    at_place [] i l e = absurd (omega arith)
    at_place (k ∷ ks) zero l e =
        let same : result_order q k ≡ Equal = subst (λ (x : RunResult). result_order q x ≡ Equal) (sym e)
        (tied_itself result_order_total q) in
        ap (λ b. b || has q ks) (ap is_eq same)
    at_place (k ∷ ks) (suc i) l e =
        or_right (is_eq (result_order q k)) (has q ks) (at_place ks i (omega arith) e)

-- ---- the sum over all rows is that over the results

module _ {M : Type 0} (add : M → M → M) (none : M) (value : Row → M) (alone : add none none ≡ none) (group : (a b c : M)
    → add (add a b) c ≡ add a (add b c)) (turn : (a b c : M) → add a (add b c) ≡ add b (add a c)) where
  abbrev sum : List Row → M
  sum [] = none
  sum (w ∷ ws) = add (value w) (sum ws)

  abbrev parts : List Row → List RunResult → M
  parts ws [] = none
  parts ws (r ∷ rs) = add (sum (rows_with r ws)) (parts ws rs)

  parts_none : (rs : List RunResult) → parts [] rs ≡ none
  parts_none [] = refl
  parts_none (r ∷ rs) = ap (add none) (parts_none rs) ∙ alone

  -- one row more counts for its own result alone
  more_absent : (w : Row) (ws : List Row) (rs : List RunResult) → has w.result rs ≡ false
      → parts (w ∷ ws) rs ≡ parts ws rs
  more_absent w ws [] h = refl
  more_absent w ws (r ∷ rs) h =
      ap (λ b. add (sum (maybe b w (rows_with r ws))) (parts (w ∷ ws) rs))
      (left_of (has_result r w) (has w.result rs) h)
      ∙ ap (add (sum (rows_with r ws))) (more_absent w ws rs (right_of (has_result r w) (has w.result rs) h))

  more_once : (w : Row) (ws : List Row) (rs : List RunResult) → IsStrictlySortedBy result_order rs
      → has w.result rs ≡ true → parts (w ∷ ws) rs ≡ add (value w) (parts ws rs)
  more_once w ws [] up h = absurd cc
  more_once w ws (r ∷ rs) up h = by_test (more_once w ws rs (sorted_tail result_order r rs up)) (has_result r w) refl
    where
      rest : has_result r w ≡ true → has w.result rs ≡ false
      rest e = subst (λ (q : RunResult). has q rs ≡ false) (sym (result_exact w.result r
          (equal_by_test (result_order w.result r) e))) (absent_below r rs (sorted_head result_order r rs up))

      by_test : (has w.result rs ≡ true → parts (w ∷ ws) rs ≡ add (value w) (parts ws rs)) → (b : Bool)
          → has_result r w ≡ b → parts (w ∷ ws) (r ∷ rs) ≡ add (value w) (parts ws (r ∷ rs))
      by_test later true e =
          ap (λ b. add (sum (maybe b w (rows_with r ws))) (parts (w ∷ ws) rs)) e
          ∙ ap (add (add (value w) (sum (rows_with r ws)))) (more_absent w ws rs (rest e))
          ∙ group (value w) (sum (rows_with r ws)) (parts ws rs)
      by_test later false e =
          ap (λ b. add (sum (maybe b w (rows_with r ws))) (parts (w ∷ ws) rs)) e
          ∙ ap (add (sum (rows_with r ws))) (later (ap (λ b. b || has w.result rs) (sym e) ∙ h))
          ∙ turn (sum (rows_with r ws)) (value w) (parts ws rs)

  pub all_parts : (ws : List Row) (rs : List RunResult) → IsStrictlySortedBy result_order rs
      → AllByRecursion (λ w. has w.result rs ≡ true) ws → parts ws rs ≡ sum ws
  all_parts [] rs up there = parts_none rs
  all_parts (w ∷ ws) rs up there = more_once w ws rs up there.0 ∙ ap (add (value w)) (all_parts ws rs up there.1)

-- ---- chances, and numbers of runs

abbrev chance_sum : List Row → Ratio
chance_sum ws = sum plus nothing (λ w. w.chance) (plus_nothing nothing) plus_assoc plus_turn ws

abbrev chance_parts : List Row → List RunResult → Ratio
chance_parts ws rs = parts plus nothing (λ w. w.chance) (plus_nothing nothing) plus_assoc plus_turn ws rs

chances_sum : (ws : List Row) → chance_sum ws ≡ chance_of_rows ws
chances_sum [] = refl
chances_sum (w ∷ ws) = ap (plus w.chance) (chances_sum ws)

add_assoc : (a b c : ℕ) → a + b + c ≡ a + (b + c)
add_assoc a b c = omega arith

add_turn : (a b c : ℕ) → a + (b + c) ≡ b + (a + c)
add_turn a b c = omega arith

abbrev run_sum : List Row → ℕ
run_sum ws = sum (λ a b. a + b) 0 (λ w. w.runs) refl add_assoc add_turn ws

abbrev run_parts : List Row → List RunResult → ℕ
run_parts ws rs = parts (λ a b. a + b) 0 (λ w. w.runs) refl add_assoc add_turn ws rs

runs_sum : (ws : List Row) → run_sum ws ≡ runs_of_rows ws
runs_sum [] = refl
runs_sum (w ∷ ws) = ap (λ n. w.runs + n) (runs_sum ws)

-- ---- the table

module _ (play : Answers → Outcome Finish (List ℕ)) where
  abbrev row_for : List Answers → RunResult → Row
  row_for runs r = row_of play r (runs_with play r runs)

  results_of_account : (runs : List Answers) → results_in (account play runs) ≡ map (λ a. result_of (play a)) runs
  results_of_account [] = refl
  results_of_account (a ∷ runs) = ap (λ rs. result_of (play a) ∷ rs) (results_of_account runs)

  chances_of_account : (runs : List Answers) → chance_of_rows (account play runs) ≡ chance_of_all play runs
  chances_of_account [] = refl
  chances_of_account (a ∷ runs) = ap (plus (chance (bounds play a))) (chances_of_account runs)

  runs_of_account : (runs : List Answers) → runs_of_rows (account play runs) ≡ length runs
  runs_of_account [] = refl
  runs_of_account (a ∷ runs) = omega (arith, runs_of_account runs)

  results_of_table : (runs : List Answers) (rs : List RunResult) → map (λ w. w.result) (map (row_for runs) rs) ≡ rs
  results_of_table runs [] = refl
  results_of_table runs (r ∷ rs) = ap (λ qs. r ∷ qs) (results_of_table runs rs)

  -- a run with each result of some runs, and the result of each of them
  run_with_result : (runs : List Answers) (r : RunResult) (i : ℕ) → i < length (map (λ a. result_of (play a)) runs)
      → slice_index_or (map (λ a. result_of (play a)) runs) i r ≡ r → ResultsIn play runs r
  run_with_result [] r i l e = absurd (omega arith)
  run_with_result (a ∷ runs) r zero l e = (a, (0, omega arith, refl), e)
  run_with_result (a ∷ runs) r (suc i) l e =
      let found = run_with_result runs r i (omega arith) e in
      (found.0, (suc found.1.0, omega (arith, found.1.1), found.1.2), found.2)

  result_of_run : (runs : List Answers) (a : Answers) (i : ℕ) → i < length runs → slice_index_or runs i a ≡ a
      → Contains (map (λ b. result_of (play b)) runs) (result_of (play a))
  result_of_run [] a i l e = absurd (omega arith)
  result_of_run (b ∷ runs) a zero l e = (0, omega arith, ap (λ (c : Answers). result_of (play c)) e)
  result_of_run (b ∷ runs) a (suc i) l e =
      let there = result_of_run runs a i (omega arith) e in
      (suc there.0, omega (arith, there.1), there.2)

  -- all results are those of the account
  all_results : (runs : List Answers)
      → AllByRecursion (λ w. has w.result (results (map (λ a. result_of (play a)) runs)) ≡ true) (account play runs)
  all_results runs =
      all_there (account play runs) (results (map (λ a. result_of (play a)) runs))
      (λ q h. has_results q (map (λ a. result_of (play a)) runs) ∙ sym (ap (has q) (results_of_account runs)) ∙ h)

  table_runs : (runs : List Answers) (rs : List RunResult)
      → runs_of_rows (map (row_for runs) rs) ≡ run_parts (account play runs) rs
  table_runs runs [] = refl
  table_runs runs (r ∷ rs) =
      let one : run_sum (rows_with r (account play runs)) ≡ length (runs_with play r runs) =
      runs_sum (rows_with r (account play runs)) ∙ runs_are play r runs in
      ap (λ n. length (runs_with play r runs) + n) (table_runs runs rs)
      ∙ ap (λ n. n + run_parts (account play runs) rs) (sym one)

  module _ (runs : List Answers) (positive : ArePositive (account play runs)) where
    some : (r : RunResult) → 0 < (chance_of_all play (runs_with play r runs)).denominator
    some r = subst (λ (f : Ratio). 0 < f.denominator) (chance_is play r runs)
        (chance_positive r (account play runs) positive)

    row_chance : (r : RunResult)
        → Equals (lowest (chance_of_all play (runs_with play r runs))) (chance_sum (rows_with r (account play runs)))
    row_chance r =
        let one : chance_sum (rows_with r (account play runs)) ≡ chance_of_all play (runs_with play r runs) =
        chances_sum (rows_with r (account play runs)) ∙ chance_is play r runs in
        subst (λ (f : Ratio). Equals (lowest (chance_of_all play (runs_with play r runs))) f) (sym one)
        (lowest_equal (chance_of_all play (runs_with play r runs)) (some r))

    table_chances : (rs : List RunResult)
        → Equals (chance_of_rows (map (row_for runs) rs)) (chance_parts (account play runs) rs)
    table_chances [] = refl
    table_chances (r ∷ rs) =
        equals_plus (lowest (chance_of_all play (runs_with play r runs))) (chance_sum (rows_with r (account play runs)))
        (chance_of_rows (map (row_for runs) rs)) (chance_parts (account play runs) rs)
        (row_chance r) (table_chances rs)

    row_has : (r : RunResult) → IsRowOf play runs (row_for runs r)
    row_has r = record {
      lowest = lowest_low (chance_of_all play (runs_with play r runs)) (some r);
      positive = lowest_positive (chance_of_all play (runs_with play r runs)) (some r);
      sum = lowest_equal (chance_of_all play (runs_with play r runs)) (some r);
      count = refl;
    }

    rows_have : (rs : List RunResult) → AllByRecursion (IsRowOf play runs) (map (row_for runs) rs)
    rows_have [] = tt
    rows_have (r ∷ rs) = (row_has r, rows_have rs)

    table_positive : (rs : List RunResult) → 0 < (chance_of_rows (map (row_for runs) rs)).denominator
    table_positive [] = omega arith
    table_positive (r ∷ rs) =
        plus_positive (lowest (chance_of_all play (runs_with play r runs))) (chance_of_rows (map (row_for runs) rs))
        (lowest_positive (chance_of_all play (runs_with play r runs)) (some r)) (table_positive rs)

  module _ (most : ℕ) (reads : IsReader play most) where
    abbrev all : List Answers
    all = tree play most

    abbrev keys : List RunResult
    keys = results (map (λ a. result_of (play a)) all)

    keys_rise : IsStrictlySortedBy result_order keys
    keys_rise = results_rise (map (λ a. result_of (play a)) all)

    whole : chance_parts (account play all) keys ≡ chance_of_all play all
    whole =
        all_parts plus nothing (λ w. w.chance) (plus_nothing nothing) plus_assoc plus_turn
        (account play all) keys keys_rise (all_results all)
        ∙ chances_sum (account play all) ∙ chances_of_account all

    equal : Equals (chance_of_rows (table play all)) (chance_of_all play all)
    equal = subst (λ (f : Ratio). Equals (chance_of_rows (table play all)) f) whole
        (table_chances all (all_positive play most reads) keys)

    -- a result is there where a run has it
    has_row : (r : RunResult) → Contains (map (λ w. w.result) (table play all)) r → ResultsIn play all r
    has_row r c =
        let results_are = map (λ a. result_of (play a)) all in
        let key : Contains keys r = subst (λ (ks : List RunResult). Contains ks r) (results_of_table all keys) c in
        let there : Contains results_are r =
        has_contained r results_are (sym (has_results r results_are) ∙ contained_has r keys key) in
        run_with_result all r there.0 there.1 there.2

    has_run : (r : RunResult) → ResultsIn play all r → Contains (map (λ w. w.result) (table play all)) r
    has_run r x =
        let results_are = map (λ a. result_of (play a)) all in
        let there : Contains results_are r = subst (λ (q : RunResult). Contains results_are q) x.2
        (result_of_run all x.0 x.1.0 x.1.1 x.1.2) in
        subst (λ (ks : List RunResult). Contains ks r) (sym (results_of_table all keys))
        (has_contained r keys (has_results r results_are ∙ contained_has r results_are there))

    pub table_has : TableLaws play most
    table_has = record {
      members = λ r. (has_row r, has_run r);
      rows = rows_have all (all_positive play most reads) keys;
      rising = subst (IsStrictlySortedBy result_order) (sym (results_of_table all keys)) keys_rise;
      sum = equals_then (chance_of_rows (table play all)) (chance_of_all play all) (record {
        numerator = 1;
        denominator = 1;
      }) (sum_positive play most reads) equal (whole_chance play most reads);
      positive = table_positive all (all_positive play most reads) keys;
      runs =
          table_runs all keys
          ∙ all_parts (λ a b. a + b) 0 (λ w. w.runs) refl add_assoc add_turn (account play all) keys keys_rise
          (all_results all)
          ∙ runs_sum (account play all) ∙ runs_of_account all;
    }

pub table_laws : (play : Answers → Outcome Finish (List ℕ)) (most : ℕ) → IsReader play most → TableLaws play most
table_laws play most reads = table_has play most reads
