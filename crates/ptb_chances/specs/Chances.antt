-- This file defines the chances of what runs result in, and the table of them.
-- Main definition: `chances`.
--     RunResult              the ending of a run, and the last line that it showed
--     chance bounds          1 over the product of the bounds of a run's questions
--     chance_of_all play rs  the sum of the chances of some runs
--     results rs             the different ones of these results, in rising order
--     row, table             a result with its chance and the number of its runs; those of all results that runs have
--     table_text rows        how a table is written
--     chances play most      the table of all runs, written
use Rattle.std.specs.Prelude.{ℕ, ◌*◌, List, [], ◌∷◌, ◌++◌, map, length, codes, ℤ, pos, negsuc}
use Rattle.std.specs.List.{filter, flat_map}
use Rattle.std.specs.Ordering.{nat_cmp, ordering_then, is_eq}
use Rattle.std.specs.Cmp.Lexicographic.{slice_cmp}
use Rattle.std.specs.declared.cmp.Ordering.{Ordering}
use Rattle.std.specs.declared.cmp.Ordering.TheVariants.{Less, Equal, Greater}
use Rattle.ptb_numbers.specs.Fractions.{Ratio, total, lowest}
use Rattle.ptb_numbers.specs.Decimals.{decimals}
use Rattle.ptb_text.specs.Lines.{lines}
use Rattle.ptb_answers.specs.Outcome.{Answers, Outcome, Done, Asks, Out, bounds}
use Rattle.ptb_command.specs.declared.ending.Ending.{Ending}
use Rattle.ptb_command.specs.declared.ending.Ending.TheVariants as endings
use Rattle.ptb_machine.specs.Play.{Finish}
use Rattle.ptb_machine.specs.EndingWords.{field}
use Rattle.ptb_machine.specs.RunTree.{tree}
use Rattle.ptb_machine.specs.EndingWords.{ending_word}

-- ---- what a run results in

pub record RunResult : Type 0 where
  pub ending : Ending
  pub line : List ℕ

-- the last of the lines, the empty line if there is none
abbrev pub last_line : List (List ℕ) → List ℕ
last_line [] = []
last_line (l ∷ []) = l
last_line (l ∷ m ∷ ls) = last_line (m ∷ ls)

-- what is no run has none, and counts as one that shows nothing
abbrev pub result_of : Outcome Finish (List ℕ) → RunResult
result_of (Done f rest) = record { ending = f.ending; line = last_line (lines f.shown) }
result_of (Asks n shown) = record { ending = endings.NoAnswer; line = [] }
result_of (Out n shown) = record { ending = endings.BadAnswer; line = [] }

-- ---- how likely it is

-- a question with a bound has as many answers
abbrev pub answer_count : ℤ → ℕ
answer_count (pos n) = n
answer_count (negsuc n) = 0

abbrev pub bound_product : List ℤ → ℕ
bound_product [] = 1
bound_product (n ∷ ns) = answer_count n * bound_product ns

-- each answer of a question with bound n has the chance 1/n
abbrev pub chance : List ℤ → Ratio
chance ns = record { numerator = 1; denominator = bound_product ns }

abbrev pub chance_of_all : {A W : Type 0} → (Answers → Outcome A W) → List Answers → Ratio
chance_of_all play runs = total (map (λ a. chance (bounds play a)) runs)

-- ---- the order of results

abbrev pub rank : Ending → ℕ
rank endings.End = 0
rank endings.Stop = 1
rank endings.What = 2
rank endings.How = 3
rank endings.Sorry = 4
rank endings.Limit = 5
rank endings.NoInput = 6
rank endings.NoAnswer = 7
rank endings.BadAnswer = 8

-- by their endings, then by the bytes of their lines
abbrev pub result_order : RunResult → RunResult → Ordering
result_order r s = ordering_then (nat_cmp (rank r.ending) (rank s.ending)) (slice_cmp nat_cmp r.line s.line)

-- a result goes before those that are greater, unless it is there; `others` is the list with it among the greater ones
abbrev pub placed : Ordering → RunResult → RunResult → List RunResult → List RunResult → List RunResult
placed Less r s rest others = r ∷ s ∷ rest
placed Equal r s rest others = s ∷ rest
placed Greater r s rest others = s ∷ others

abbrev pub with_result : RunResult → List RunResult → List RunResult
with_result r [] = r ∷ []
with_result r (s ∷ rest) = placed (result_order r s) r s rest (with_result r rest)

-- each result once, in rising order
abbrev pub results : List RunResult → List RunResult
results [] = []
results (r ∷ rs) = with_result r (results rs)

-- ---- the table

pub record Row : Type 0 where
  pub result : RunResult
  pub chance : Ratio
  pub runs : ℕ

abbrev pub runs_with : (Answers → Outcome Finish (List ℕ)) → RunResult → List Answers → List Answers
runs_with play r runs = filter (λ a. is_eq (result_order (result_of (play a)) r)) runs

-- the sum of the chances of the runs with this result, in lowest terms, and how many these are
abbrev pub row_of : (Answers → Outcome Finish (List ℕ)) → RunResult → List Answers → Row
row_of play r those = record { result = r; chance = lowest (chance_of_all play those); runs = length those }

abbrev pub table : (Answers → Outcome Finish (List ℕ)) → List Answers → List Row
table play runs = map (λ r. row_of play r (runs_with play r runs)) (results (map (λ a. result_of (play a)) runs))

-- ---- how it is written

abbrev pub ratio_text : Ratio → List ℕ
ratio_text f = decimals f.numerator ++ codes "/" ++ decimals f.denominator

abbrev pub row_text : Row → List ℕ
row_text row =
    codes "CHANCE " ++ ratio_text row.chance ++ field (decimals row.runs) ++ field (ending_word row.result.ending)
    ++ field (decimals (length row.result.line)) ++ codes "\n"
    ++ row.result.line ++ codes "\n"

abbrev pub table_text : List Row → List ℕ
table_text rows = flat_map row_text rows

abbrev pub chances : (Answers → Outcome Finish (List ℕ)) → ℕ → List ℕ
chances play most = table_text (table play (tree play most))
