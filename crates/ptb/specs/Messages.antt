-- This file defines the lines that say why a run ended, and what was wrong.
-- Main definitions: `shortage_line` and `reason_line`.
--     shortage_of path limit n line     why a run with the status n ended before its program did, if it did
--     shortage_line s       which option helps
--     mismatch_text m       why the items of a list fit no run
--     reason_line reason    what was wrong, except where reading failed: that line ends with the text of an error
use Rattle.std.specs.Prelude.{List, ◌++◌, ℕ, ◌==◌, if◌then◌else◌, Option, None, Some, [], codes, decimal, option_map}
use Rattle.std.specs.Fmt.{signed_decimal}
use Rattle.ptb_explore.specs.declared.mismatch.Mismatch.{Mismatch}
use Rattle.ptb_explore.specs.declared.mismatch.Mismatch.TheVariants.{Missing, NoQuestion, NotUnder}
use Rattle.ptb_explore.specs.declared.mismatch.Mismatch.TheVariants.{OtherBound, OutOfRange}
use Rattle.ptb_serve.specs.declared.list_mismatch.ListMismatch.TheVariants as lists
use Rattle.ptb.specs.declared.endings.Shortage.{Shortage}
use Rattle.ptb.specs.declared.endings.Shortage.TheVariants as shortages
use Rattle.ptb.specs.declared.reasons.Reason.{Reason}
use Rattle.ptb.specs.declared.reasons.Reason.TheVariants as reasons

-- ---- why a run ended

-- without a path standard input is the program
abbrev pub no_line : Option (List ℕ) → Shortage
no_line (Some path) = shortages.Lines
no_line None = shortages.LinesBesideProgram

-- the line is the one at which a limit stopped the run
abbrev pub shortage_of : Option (List ℕ) → ℕ → ℕ → Option ℕ → Option Shortage
shortage_of path limit n line =
    if n == 4 then option_map (λ number. shortages.Commands number limit) line
    else (if n == 5 then Some (no_line path)
    else (if n == 6 then Some shortages.Answers
    else (if n == 7 then Some shortages.LargeAnswer
    else None)))

-- one of a thing, or more
abbrev pub plural : ℕ → List ℕ
plural n = if n == 1 then [] else codes "s"

abbrev pub shortage_line : Shortage → List ℕ
shortage_line (shortages.Commands line limit) =
    codes "ptb: stopped at line " ++ decimal line ++ codes " by the limit of " ++ decimal limit ++ codes " command"
    ++ plural limit ++ codes "; --steps N allows more"
shortage_line shortages.Lines = codes "ptb: INPUT found no line left; give more lines, or use --choose N"
shortage_line shortages.LinesBesideProgram =
    codes "ptb: INPUT found no line, since standard input was the program; name its file as PROGRAM"
shortage_line shortages.Answers =
    codes "ptb: a random number was wanted and none is left; use --seed N, or give more --answers"
shortage_line shortages.LargeAnswer = codes "ptb: one of the --answers is greater than its question allows; change it"

-- ---- what was wrong

abbrev pub mismatch_text : Mismatch → List ℕ
mismatch_text (OutOfRange item answer bound) =
    codes "item " ++ decimal item ++ codes " is " ++ signed_decimal answer ++ codes ", but its question allows 1 to "
    ++ signed_decimal bound
mismatch_text (OtherBound item stated bound) =
    codes "item " ++ decimal item ++ codes " states the bound " ++ signed_decimal stated
    ++ codes ", but its question has " ++ signed_decimal bound
mismatch_text (NoQuestion items) = codes "the run is over after " ++ decimal items ++ codes " item" ++ plural items
mismatch_text (Missing item bound) =
    codes "item " ++ decimal item ++ codes " is missing; its question allows 1 to " ++ signed_decimal bound
mismatch_text NotUnder = codes "the list does not begin with the items of --under"

-- the option whose list it is comes first
abbrev pub mismatch_line : List ℕ → Mismatch → List ℕ
mismatch_line option m = codes "  " ++ option ++ codes ": " ++ mismatch_text m

abbrev pub reason_line : Reason → Option (List ℕ)
reason_line (reasons.Failed name error) = None
reason_line reasons.TooLong = Some (codes "  standard input has more than 16777216 bytes")
reason_line (reasons.List (lists.Under m)) = Some (mismatch_line (codes "--under") m)
reason_line (reasons.List (lists.After m)) = Some (mismatch_line (codes "--after") m)
