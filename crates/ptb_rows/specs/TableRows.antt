-- This file has worked rows of the chances of results.
-- Main definition: `TableRows`.
--     TableRows     the rows
use Rattle.std.specs.Prelude.{◌≡◌, ℕ, List, [], ◌∷◌, ◌++◌, Option, Some, None, Ok, Err, pos, codes}
use Rattle.ptb_text.specs.Lines.{input_lines}
use Rattle.ptb_text.specs.Statements.{program}
use Rattle.ptb_answers.specs.declared.rules.Rules.{Rules}
use Rattle.ptb_machine.specs.Play.{play}
use Rattle.ptb_machine.specs.Questions.{most_answers}
use Rattle.ptb_numbers.specs.Fractions.{Ratio, plus, total, gcd, lowest}
use Rattle.ptb_numbers.specs.Decimals.{decimals}
use Rattle.ptb_chances.specs.Chances.{chance, chances}

-- the table of a program text on an input; none if the text is refused
abbrev pub table_of : List ℕ → List ℕ → Rules → Option (List ℕ)
table_of b c rules =
    elim (program 4096 b) [
      | Ok p ↦ Some (chances (play (record { lines = p; memory = 4096 }) (input_lines c) rules)
          (most_answers (record { lines = p; memory = 4096 }) (input_lines c) rules.limit))
      | Err e ↦ None
    ]

-- with a limit of so many steps
abbrev pub within : ℕ → Rules
within limit = record { limit = limit; choose = None; in_range = tt }

-- 1/2, 1/3 and 1/6
abbrev pub half : Ratio
half = record { numerator = 1; denominator = 2 }

abbrev pub third : Ratio
third = record { numerator = 1; denominator = 3 }

abbrev pub sixth : Ratio
sixth = record { numerator = 1; denominator = 6 }

pub record TableRows : Type 0 where
  -- fractions
  pub one_half : chance (pos 2 ∷ []) ≡ half
  pub half_and_third : chance (pos 2 ∷ pos 3 ∷ []) ≡ sixth
  pub no_question : chance [] ≡ record { numerator = 1; denominator = 1 }
  pub sum : lowest (plus half third) ≡ record { numerator = 5; denominator = 6 }
  pub whole : lowest (total (half ∷ third ∷ sixth ∷ [])) ≡ record { numerator = 1; denominator = 1 }
  pub divisor : gcd 36 96 ≡ 12
  pub with_zero : gcd 7 0 ≡ 7
  pub digits : decimals 1296 ≡ codes "1296"
  pub zero_digits : decimals 0 ≡ codes "0"
  -- tables
  pub empty_program : table_of [] [] (within 10000) ≡ Some (codes "CHANCE 1/1 1 END 0\n\n")
  pub a_roll_in_two : table_of (codes "10 A=RND(2);IF A=2 A=RND(3)\n20 P.#1,A\n") [] (within 10000) ≡ Some
      (codes "CHANCE 2/3 2 END 1\n1\nCHANCE 1/6 1 END 1\n2\nCHANCE 1/6 1 END 1\n3\n")
  pub up_to_limit : table_of (codes "10 A=RND(2)\n20 IF A=1 GOTO 10\n") [] (within 5) ≡ Some
      (codes "CHANCE 3/4 2 END 0\n\nCHANCE 1/4 1 LIMIT 0\n\n")
  -- results go by their endings, then by their lines
  pub in_order : table_of (codes "10 A=RND(3);P.#1,A;IF A=1 STOP\n20 IF A=2 P.1/0\n") [] (within 100) ≡ Some
      (codes "CHANCE 1/3 1 END 1\n3\nCHANCE 1/3 1 STOP 1\n1\nCHANCE 1/3 1 HOW 16\n20 IF A=2 P.1/0?\n")
  -- the last line counts, and not the lines before it
  pub last_line : table_of (codes "10 P.RND(2);P.'X'\n") [] (within 100) ≡ Some (codes "CHANCE 1/1 2 END 1\nX\n")
