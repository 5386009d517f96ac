-- This file proves that the rows of an account of some runs are their table, where each result has one row and the
-- results rise.
-- Main lemma: `table_is`.
use Rattle.std.proofs.Common.{◌≡◌, ℕ, ◌<◌, nat_lt, Bool, true, false, ◌||◌, List, [], ◌∷◌, map}
use Rattle.std.proofs.Common.{length, refl, ap, sym, subst, ◌∙◌, arith}
use Rattle.std.proofs.lemmas.Bool.Decides.{nat_tests}
use Rattle.std.specs.BTreeSet.{BTreeSet}
use Rattle.std.specs.List.{AllByRecursion}
use Rattle.std.specs.List.Sorted.{IsStrictlySortedBy}
use Rattle.std.specs.Ordering.{is_eq}
use Rattle.std.specs.declared.cmp.Ordering.TheVariants.{Less}
use Rattle.std.proofs.lemmas.Cmp.{tied_itself}
use Rattle.std.proofs.lemmas.Map.Keys.{sorted_head, sorted_tail}
use Rattle.std.proofs.lemmas.Map.Lookups.{btree_set_from_contains}
use Rattle.ptb_numbers.specs.Fractions.{Ratio, lowest, Equals}
use Rattle.ptb_answers.specs.Outcome.{Answers, Outcome}
use Rattle.ptb_machine.specs.Play.{Finish}
use Rattle.ptb_chances.specs.Chances.{RunResult, Row, chance_of_all, result_of, result_order}
use Rattle.ptb_chances.specs.Chances.{results, row_of, runs_with, table}
use Rattle.ptb_chances.specs.Accounts.{has_result, rows_with, chance_of_rows, runs_of_rows}
use Rattle.ptb_chances.specs.Accounts.{chance_in, runs_in, HasChance, ArePositive, account}
use Rattle.ptb_chances.specs.Accounts.{IsAccountOf, reduced, ResultsRise}
use Rattle.ptb_chances.proofs.Accounts.{maybe, chance_is, runs_are, chance_positive}
use Rattle.ptb_chances.proofs.LowestTerms.{lowest_same}
use Rattle.ptb_chances.proofs.Orders.{result_exact, equal_back, less_apart, has, has_results, results_rise}
use Rattle.ptb_chances.specs.Order.{result_order_total}
use Rattle.ptb_chances.proofs.Sums.{plus_nothing}

abbrev results_of : List Row → List RunResult
results_of ws = map (λ w. w.result) ws

-- ---- which results an account has

some_runs : (b h : Bool) (w : Row) (ws : List Row) → 0 < w.runs → h ≡ nat_lt 0 (runs_of_rows ws)
    → (b || h) ≡ nat_lt 0 (runs_of_rows (maybe b w ws))
some_runs true h w ws some e = grind (arith, nat_tests)
some_runs false h w ws some e = e

-- an account has a result where it has runs with it
has_runs : (q : RunResult) (ws : List Row) → ArePositive ws → has q (results_of ws) ≡ nat_lt 0 (runs_in q ws)
has_runs q [] p = refl
has_runs q (w ∷ ws) p =
    ap (λ b. b || has q (results_of ws)) (equal_back q w.result)
    ∙ some_runs (has_result q w) (has q (results_of ws)) w (rows_with q ws) (p.0).runs (has_runs q ws p.1)

set_of : List RunResult → BTreeSet RunResult
set_of ks = record { keys = ks }

same_results : (ks ls : List RunResult) → IsStrictlySortedBy result_order ks → IsStrictlySortedBy result_order ls
    → ((q : RunResult) → has q ks ≡ has q ls) → ks ≡ ls
unfolding set_of
same_results ks ls first second same =
    btree_set_from_contains result_order_total (set_of ks) (set_of ls) first second same result_exact

-- ---- each result has one row

all_two : (P Q S : Row → Type 0) → ((w : Row) → P w → Q w → S w) → (ws : List Row) → AllByRecursion P ws
    → AllByRecursion Q ws → AllByRecursion S ws
all_two P Q S f [] p q = tt
all_two P Q S f (w ∷ ws) p q = (f w p.0 q.0, all_two P Q S f ws p.1 q.1)

below_rows : (k : RunResult) (ws : List Row) → AllByRecursion (λ y. result_order k y ≡ Less) (results_of ws)
    → AllByRecursion (λ w. result_order k w.result ≡ Less) ws
below_rows k [] h = tt
below_rows k (w ∷ ws) h = (h.0, below_rows k ws h.1)

none_below : (r : RunResult) (ws : List Row) → AllByRecursion (λ w. result_order r w.result ≡ Less) ws
    → rows_with r ws ≡ []
none_below r [] h = refl
none_below r (w ∷ ws) h =
    let apart : has_result r w ≡ false = equal_back w.result r ∙ less_apart r w.result h.0 in
    ap (λ b. maybe b w (rows_with r ws)) apart ∙ none_below r ws h.1

alone : (ws : List Row) → ResultsRise ws → AllByRecursion (λ w. rows_with w.result ws ≡ w ∷ []) ws
alone [] up = tt
alone (w ∷ ws) up = (
  first,
  all_two (λ v. rows_with v.result ws ≡ v ∷ [])
      (λ v. result_order w.result v.result ≡ Less) (λ v. rows_with v.result (w ∷ ws) ≡ v ∷ []) later ws
      (alone ws (sorted_tail result_order w.result (results_of ws) up)) less,
)
  where
    less : AllByRecursion (λ v. result_order w.result v.result ≡ Less) ws
    less = below_rows w.result ws (sorted_head result_order w.result (results_of ws) up)

    first : rows_with w.result (w ∷ ws) ≡ w ∷ []
    first = ap (λ b. maybe b w (rows_with w.result ws)) (ap is_eq (tied_itself result_order_total w.result))
        ∙ ap (λ vs. w ∷ vs) (none_below w.result ws less)

    later : (v : Row) → rows_with v.result ws ≡ v ∷ [] → result_order w.result v.result ≡ Less
        → rows_with v.result (w ∷ ws) ≡ v ∷ []
    later v one l = ap (λ b. maybe b w (rows_with v.result ws)) (less_apart w.result v.result l) ∙ one

-- ---- the table

module _ (play : Answers → Outcome Finish (List ℕ)) (runs : List Answers) (positive : ArePositive (account play runs))
    (ws : List Row) (is : IsAccountOf play runs ws) where
  row_for : RunResult → Row
  row_for r = row_of play r (runs_with play r runs)

  row_same : (r s : RunResult) (c d : Ratio) (n m : ℕ) → r ≡ s → c ≡ d → n ≡ m
      → ◌≡◌ {A = Row} (record { result = r; chance = c; runs = n }) (record { result = s; chance = d; runs = m })
  row_same r s c d n m one two three = rw (one, two, three) refl

  one_row : (w : Row) → HasChance w → rows_with w.result ws ≡ w ∷ [] → reduced w ≡ row_for w.result
  unfolding row_for
  one_row w some one = row_same w.result w.result (lowest w.chance)
      (lowest (chance_of_all play (runs_with play w.result runs))) w.runs (length (runs_with play w.result runs))
      refl (lowest_same w.chance (chance_of_all play (runs_with play w.result runs)) some.denominator all equal) counted
    where
      chance_here : chance_in w.result ws ≡ w.chance
      chance_here = ap chance_of_rows one ∙ plus_nothing w.chance

      all : 0 < (chance_of_all play (runs_with play w.result runs)).denominator
      all = subst (λ (f : Ratio). 0 < f.denominator) (chance_is play w.result runs)
          (chance_positive w.result (account play runs) positive)

      equal : Equals w.chance (chance_of_all play (runs_with play w.result runs))
      equal =
          let here = subst (λ (f : Ratio). Equals f (chance_in w.result (account play runs))) chance_here
          ((is.same).chances w.result) in
          subst (λ (f : Ratio). Equals w.chance f) (chance_is play w.result runs) here

      counted : w.runs ≡ length (runs_with play w.result runs)
      counted = let here : runs_in w.result ws ≡ w.runs = ap runs_of_rows one ∙ (omega arith) in
          sym here ∙ (is.same).runs w.result ∙ runs_are play w.result runs

  all_rows : (vs : List Row) → AllByRecursion (λ w. reduced w ≡ row_for w.result) vs
      → map reduced vs ≡ map row_for (results_of vs)
  all_rows [] h = refl
  all_rows (v ∷ vs) h = rw (h.0, all_rows vs h.1) refl

  account_results : (list : List Answers) → results_of (account play list) ≡ map (λ a. result_of (play a)) list
  account_results [] = refl
  account_results (a ∷ list) = ap (λ rs. result_of (play a) ∷ rs) (account_results list)

  pub table_is : ResultsRise ws → map reduced ws ≡ table play runs
  unfolding row_for
  table_is up =
      let each = all_two (λ w. HasChance w) (λ w. rows_with w.result ws ≡ w ∷ [])
      (λ w. reduced w ≡ row_for w.result) one_row ws is.positive (alone ws up) in
      all_rows ws each ∙ ap (map row_for) keys
    where
      same : (q : RunResult) → has q (results_of ws) ≡ has q (results (map (λ a. result_of (play a)) runs))
      same q = has_runs q ws is.positive ∙ ap (nat_lt 0) ((is.same).runs q)
          ∙ sym (has_runs q (account play runs) positive) ∙ ap (has q) (account_results runs)
          ∙ sym (has_results q (map (λ a. result_of (play a)) runs))

      keys : results_of ws ≡ results (map (λ a. result_of (play a)) runs)
      keys = same_results (results_of ws) (results (map (λ a. result_of (play a)) runs)) up
          (results_rise (map (λ a. result_of (play a)) runs)) same
