-- This file defines the mistakes in the text of a program.
-- Main definition: `mistakes`.
--     part_fault part          the fault in a part of a command
--     parts_fault parts        that of the first part which has one
--     jump_number kind parts   the written number of the statement to which a command goes
--     command_mistake p c      the mistake of the command c of the program p, if it has one
--     mistakes p               the mistakes of the program, by statements and then by commands
--     mistakes_text p          what is written for them
use Rattle.std.specs.Prelude.{ℕ, true, List, [], ◌∷◌, flat_map, ℤ, Option, Some, None}
use Rattle.std.specs.Option.{option_or}
use Rattle.ptb_text.specs.declared.word.Word.{Word}
use Rattle.ptb_text.specs.declared.word.Word.TheVariants.{GotoKw, GosubKw}
use Rattle.ptb_text.specs.Statements.{Statements}
use Rattle.ptb_expr.specs.declared.fault.Fault.{Fault}
use Rattle.ptb_expr.specs.declared.fault.FaultKind.TheVariants.{How}
use Rattle.ptb_expr.specs.Reading.{Reading, Whole, Malformed}
use Rattle.ptb_expr.specs.Value.{fault}
use Rattle.ptb_expr.specs.WrittenExpressions.{written_fault, written_number}
use Rattle.ptb_command.specs.State.{statement, Place}
use Rattle.ptb_command.specs.Act.{report_bytes}
use Rattle.ptb_command.specs.Commands.{Part, Assign, Say, Width, Show, NewLine, Take, Letter}
use Rattle.ptb_command.specs.Commands.{Operand, Defect, Command, commands}

-- ---- malformed commands

abbrev pub part_fault : Part → Option Fault
part_fault (Assign x y) = option_or (written_fault x) (written_fault y)
part_fault (Say s) = None
part_fault (Width x m) = written_fault x
part_fault (Show x) = written_fault x
part_fault NewLine = None
part_fault (Take said x prompt) = written_fault x
part_fault (Letter x) = None
part_fault (Operand x) = written_fault x
part_fault (Defect kind m) = Some (fault kind m)

abbrev pub parts_fault : List Part → Option Fault
parts_fault [] = None
parts_fault (part ∷ parts) = option_or (part_fault part) (parts_fault parts)

-- ---- jumps to a written number

abbrev pub part_number : Part → Option ℤ
part_number (Operand x) = written_number x
part_number _ = None

abbrev pub last_number : List Part → Option ℤ
last_number [] = None
last_number (part ∷ []) = part_number part
last_number (part ∷ other ∷ parts) = last_number (other ∷ parts)

-- the number that a GOTO or a GOSUB names, where it is written; it is their last part
abbrev pub jump_number : Word → List Part → Option ℤ
jump_number GotoKw parts = last_number parts
jump_number GosubKw parts = last_number parts
jump_number _ parts = None

-- no statement has the number of a jump whose parts end at e
abbrev pub unless_there : ℕ → Option Place → Option Fault
unless_there e (Some q) = None
unless_there e None = Some (fault How e)

abbrev pub jump_mistake : Statements → ℕ → Option ℤ → Option Fault
jump_mistake p e (Some n) = unless_there e (statement p n)
jump_mistake p e None = None

-- ---- commands

abbrev pub parts_mistake : Statements → Word → Reading (List Part) → Option Fault
parts_mistake p kind (Malformed parts) = parts_fault parts
parts_mistake p kind (Whole parts e) = jump_mistake p e (jump_number kind parts)

abbrev pub command_mistake : Statements → Command → Option Fault
command_mistake p c = parts_mistake p c.kind c.parts

-- ---- programs

-- a fault with the statement in whose text it is
pub record Mistake : Type 0 where
  pub number : ℕ
  pub text : List ℕ
  pub fault : Fault

abbrev pub mistake_in : ℕ × List ℕ → Option Fault → List Mistake
mistake_in s (Some f) = record { number = s.0; text = s.1; fault = f } ∷ []
mistake_in s None = []

abbrev pub statement_mistakes : Statements → ℕ × List ℕ → List Mistake
statement_mistakes p s = flat_map (λ c. mistake_in s (command_mistake p c)) (commands s.1)

abbrev pub mistakes : Statements → List Mistake
mistakes p = flat_map (statement_mistakes p) p

-- as a run reports a fault on a fresh line
abbrev pub mistake_text : Mistake → List ℕ
mistake_text m = report_bytes true m.number m.text m.fault

abbrev pub mistakes_text : Statements → List ℕ
mistakes_text p = flat_map mistake_text (mistakes p)
