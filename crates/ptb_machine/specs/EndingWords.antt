-- This file defines the word of an ending, as a report has it.
-- Main definition: `ending_word`.
--     ending_word ending     the word
--     field bytes            a field of a line: a space before its bytes
use Rattle.std.specs.Prelude.{ℕ, List, [], ◌++◌, codes}
use Rattle.ptb_command.specs.declared.ending.Ending.{Ending}
use Rattle.ptb_command.specs.declared.ending.Ending.TheVariants as endings

-- a run whose answers are all taken never ends for lack of one, nor with one outside its bound
abbrev pub ending_word : Ending → List ℕ
ending_word endings.End = codes "END"
ending_word endings.Stop = codes "STOP"
ending_word endings.What = codes "WHAT"
ending_word endings.How = codes "HOW"
ending_word endings.Sorry = codes "SORRY"
ending_word endings.Limit = codes "LIMIT"
ending_word endings.NoInput = codes "NOINPUT"
ending_word endings.NoAnswer = []
ending_word endings.BadAnswer = []

-- one space is before each field
abbrev pub field : List ℕ → List ℕ
field bytes = codes " " ++ bytes
