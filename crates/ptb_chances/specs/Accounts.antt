-- This file defines accounts of runs: rows of results with their chances and numbers of runs, in any order. A result
-- may have any number of rows.
-- Main definition: `IsAccountOf`.
--     rows_with r ws           the rows of a result
--     chance_in r ws           the sum of their chances
--     runs_in r ws             the sum of their runs
--     AreAlike ws vs           two accounts have the same sums for each result
--     AreSame ws vs            the same, where fractions may be equal that aren't the same
--     ArePositive ws           no row has the denominator 0, and none has no runs
--     account play runs        a row for each run
--     IsAccountOf play runs ws an account has what these runs have
--     AddsRow old w new        one row was added to an account
--     reduced w                a row with its chance in lowest terms
--     ResultsRise ws              the results rise
use Rattle.std.specs.Prelude.{◌≡◌, ℕ, ◌+◌, ◌<◌, Bool, List, [], ◌∷◌, map}
use Rattle.std.specs.List.{filter, AllByRecursion}
use Rattle.std.specs.List.Sorted.{IsStrictlySortedBy}
use Rattle.std.specs.Ordering.{is_eq}
use Rattle.ptb_numbers.specs.Fractions.{Ratio, total, lowest, Equals}
use Rattle.ptb_answers.specs.Outcome.{Answers, Outcome, bounds}
use Rattle.ptb_machine.specs.Play.{Finish}
use Rattle.ptb_chances.specs.Chances.{RunResult, Row, chance, result_of, result_order}

-- ---- what an account has

abbrev pub has_result : RunResult → Row → Bool
has_result r w = is_eq (result_order w.result r)

abbrev pub rows_with : RunResult → List Row → List Row
rows_with r ws = filter (has_result r) ws

abbrev pub chance_of_rows : List Row → Ratio
chance_of_rows ws = total (map (λ w. w.chance) ws)

abbrev pub runs_of_rows : List Row → ℕ
runs_of_rows [] = 0
runs_of_rows (w ∷ ws) = w.runs + runs_of_rows ws

abbrev pub chance_in : RunResult → List Row → Ratio
chance_in r ws = chance_of_rows (rows_with r ws)

abbrev pub runs_in : RunResult → List Row → ℕ
runs_in r ws = runs_of_rows (rows_with r ws)

-- ---- which accounts are the same

-- with the same rows, in another order, they have the same sums
pub record AreAlike (ws vs : List Row) : Type 0 where
  pub chances : (r : RunResult) → chance_in r ws ≡ chance_in r vs
  pub runs : (r : RunResult) → runs_in r ws ≡ runs_in r vs

pub record AreSame (ws vs : List Row) : Type 0 where
  pub chances : (r : RunResult) → Equals (chance_in r ws) (chance_in r vs)
  pub runs : (r : RunResult) → runs_in r ws ≡ runs_in r vs

pub record HasChance (w : Row) : Type 0 where
  pub denominator : 0 < w.chance.denominator
  pub runs : 0 < w.runs

abbrev pub ArePositive : List Row → Type 0
ArePositive ws = AllByRecursion HasChance ws

-- ---- the account of some runs

abbrev pub row_of_run : (Answers → Outcome Finish (List ℕ)) → Answers → Row
row_of_run play a = record { result = result_of (play a); chance = chance (bounds play a); runs = 1 }

abbrev pub account : (Answers → Outcome Finish (List ℕ)) → List Answers → List Row
account play runs = map (row_of_run play) runs

pub record IsAccountOf (play : Answers → Outcome Finish (List ℕ)) (runs : List Answers) (ws : List Row) : Type 0 where
  pub same : AreSame ws (account play runs)
  pub positive : ArePositive ws

-- a row that is positive was added
pub record AddsRow (old : List Row) (w : Row) (new : List Row) : Type 0 where
  pub same : AreSame new (w ∷ old)
  pub positive : HasChance w → ArePositive old → ArePositive new

-- ---- the table

abbrev pub reduced : Row → Row
reduced w = record { result = w.result; chance = lowest w.chance; runs = w.runs }

abbrev pub ResultsRise : List Row → Type 0
ResultsRise ws = IsStrictlySortedBy result_order (map (λ w. w.result) ws)
