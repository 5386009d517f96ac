-- This file defines the results and the rows that a tally holds.
-- Main definition: `rows_of`.
--     key_result k     the result of a key
--     row_of_total e   the row of an entry
--     rows_of es       the rows of entries
--     Joins ..         a chance and a number of runs were added to a total
--     total_text, result_text   the two parts of a row's text
use Rattle.std.specs.Prelude.{◌≡◌, ℕ, ◌+◌, ◌<◌, List, map, Option, None, Some, ◌++◌, codes, length}
use Rattle.ptb_numbers.specs.Fractions.{Ratio, Equals, plus}
use Rattle.ptb_chances.specs.Chances.{RunResult, Row, ratio_text}
use Rattle.ptb_machine.specs.EndingWords.{ending_word}
use Rattle.ptb_machine.specs.EndingWords.{field}
use Rattle.ptb_numbers.specs.Decimals.{decimals}
use Rattle.ptb_chances.specs.declared.result_key.ResultKey.{ResultKey}
use Rattle.ptb_chances.specs.declared.tally.ResultTotal.{ResultTotal}

abbrev pub key_result : ResultKey → RunResult
key_result k = record { ending = k.ending; line = k.line.items }

abbrev pub row_of_total : ResultKey × ResultTotal → Row
row_of_total e = record { result = key_result e.0; chance = e.1.chance; runs = e.1.runs }

abbrev pub rows_of : List (ResultKey × ResultTotal) → List Row
rows_of es = map row_of_total es

-- a total has this chance and these runs more than another, or these alone
abbrev pub Joins : Option ResultTotal → Ratio → ℕ → ResultTotal → Type 0
Joins None chance runs new = (new.chance ≡ chance) × (new.runs ≡ runs)
Joins (Some old) chance runs new = Equals new.chance (plus old.chance chance) × (0 < new.chance.denominator)
    × (new.runs ≡ old.runs + runs)

-- ---- how a row is written

-- its first line up to the number of its runs
abbrev pub total_text : Ratio → ℕ → List ℕ
total_text chance runs = codes "CHANCE " ++ ratio_text chance ++ field (decimals runs)

-- the rest of its first line, and its second
abbrev pub result_text : RunResult → List ℕ
result_text r = field (ending_word r.ending) ++ field (decimals (length r.line)) ++ codes "\n" ++ r.line ++ codes "\n"
