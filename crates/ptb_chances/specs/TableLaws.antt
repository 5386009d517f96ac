-- This file states the laws of tables of chances.
-- Main definition: `TableLaws`.
--     IsRowOf play all w       a row has what the runs with its result have
--     ResultsIn play all r     one of these runs has the result r
--     TableLaws play most      what the table of all runs has, where none has more answers than `most`
use Rattle.std.specs.Prelude.{◌≡◌, ◌↔◌, ℕ, ◌<◌, List, length, map, Contains}
use Rattle.std.specs.List.{AllByRecursion}
use Rattle.ptb_numbers.specs.Fractions.{Equals, IsLowest}
use Rattle.ptb_answers.specs.Outcome.{Answers, Outcome}
use Rattle.ptb_machine.specs.Play.{Finish}
use Rattle.ptb_chances.specs.Chances.{Row, RunResult, chance_of_all, result_of, runs_with, table}
use Rattle.ptb_machine.specs.RunTree.{tree}
use Rattle.ptb_chances.specs.Accounts.{ResultsRise, chance_of_rows, runs_of_rows}

-- its chance is a fraction in lowest terms, the sum of the chances of the runs with its result; it has their number
pub record IsRowOf (play : Answers → Outcome Finish (List ℕ)) (all : List Answers) (w : Row) : Type 0 where
  pub lowest : IsLowest w.chance
  pub positive : 0 < w.chance.denominator
  pub sum : Equals w.chance (chance_of_all play (runs_with play w.result all))
  pub count : w.runs ≡ length (runs_with play w.result all)

abbrev pub ResultsIn : (Answers → Outcome Finish (List ℕ)) → List Answers → RunResult → Type 0
ResultsIn play all r = (a : Answers) × Contains all a × (result_of (play a) ≡ r)

pub record TableLaws (play : Answers → Outcome Finish (List ℕ)) (most : ℕ) : Type 0 where
  -- the results rise, so none is there twice
  pub rising : ResultsRise (table play (tree play most))
  -- those are there that a run has, and no others
  pub members : (r : RunResult)
      → Contains (map (λ w. w.result) (table play (tree play most))) r ↔ ResultsIn play (tree play most) r
  -- each row has what the runs with its result have
  pub rows : AllByRecursion (IsRowOf play (tree play most)) (table play (tree play most))
  -- their chances add up to 1, and are fractions
  pub sum : Equals (chance_of_rows (table play (tree play most))) (record { numerator = 1; denominator = 1 })
  pub positive : 0 < (chance_of_rows (table play (tree play most))).denominator
  -- each run is counted once
  pub runs : runs_of_rows (table play (tree play most)) ≡ length (tree play most)
