-- This file has worked rows of the mistakes in the text of a program.
-- Main definition: `MistakeRows`.
--     MistakeRows     the rows
use Rattle.std.specs.Prelude.{◌≡◌, ℕ, List, [], Option, Some, None, Ok, Err, codes}
use Rattle.ptb_text.specs.Statements.{program}
use Rattle.ptb_check.specs.Mistakes.{mistakes_text}

-- what is written for the mistakes of a program text; none where the text is refused
abbrev pub mistakes_of : List ℕ → Option (List ℕ)
mistakes_of b = elim (program 4096 b) [ Ok p ↦ Some (mistakes_text p) | Err e ↦ None ]

pub record MistakeRows : Type 0 where
  pub no_mistake : mistakes_of (codes "10 PRINT \"HI\"\n") ≡ Some []
  pub in_rising_order :
      mistakes_of (codes "30 LET A=(3+4, X=4\n20 GOTO 412\n10 IF 0 PTINT \"X\"\n")
      ≡ Some (codes "WHAT?\n10 IF 0 P?TINT \"X\"\nHOW?\n20 GOTO 412?\nWHAT?\n30 LET A=(3+4?, X=4\n")
  -- nothing is read after a malformed command
  pub up_to_a_malformed_one :
      mistakes_of (codes "10 GOSUB 99;A=32768;PRINT )\n")
      ≡ Some (codes "HOW?\n10 GOSUB 99?;A=32768;PRINT )\nHOW?\n10 GOSUB 99;A=32768?;PRINT )\n")
  pub only_in_the_text : mistakes_of (codes "10 GOTO A\n20 RETURN\n") ≡ Some []
  pub fault_of_a_run_before_it : mistakes_of (codes "10 PRINT (1/0\n") ≡ Some (codes "WHAT?\n10 PRINT (1/0?\n")
  pub number_there : mistakes_of (codes "10 GOTO 20\n20 GOSUB 10\n") ≡ Some []
  pub number_in_parentheses : mistakes_of (codes "10 GOTO (412)\n") ≡ Some (codes "HOW?\n10 GOTO (412)?\n")
  pub number_with_a_sign : mistakes_of (codes "10 GOTO +412\n") ≡ Some (codes "HOW?\n10 GOTO +412?\n")
  pub number_that_is_computed : mistakes_of (codes "10 GOTO 411+1\n") ≡ Some []
