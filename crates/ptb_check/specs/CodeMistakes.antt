-- This file defines the mistake of a command by its code.
-- Main definition: `code_mistake`.
--     code_mistake p steps operations      the fault of the first operation that has one in any run, or a jump to no
--                                          statement
use Rattle.std.specs.Prelude.{List, [], ◌∷◌, Option, Some, None}
use Rattle.std.specs.Option.{option_or}
use Rattle.ptb_text.specs.Statements.{Statements}
use Rattle.ptb_expr.specs.declared.fault.Fault.{Fault}
use Rattle.ptb_expr.specs.declared.step.Step.{Step}
use Rattle.ptb_expr.specs.Value.{fault}
use Rattle.ptb_expr.specs.WrittenExpressions.{first_fail, only_number}
use Rattle.ptb_command.specs.declared.operation.Operation.{Operation}
use Rattle.ptb_command.specs.declared.operation.Operation.TheVariants as operations
use Rattle.ptb_command.specs.declared.operation.Expression.{Expression}
use Rattle.ptb_command.specs.declared.operation.Destination.{Destination}
use Rattle.ptb_command.specs.declared.operation.Destination.TheVariants as destinations
use Rattle.ptb_command.specs.Code.{steps_at}
use Rattle.ptb_check.specs.Mistakes.{jump_mistake}

abbrev pub expression_fail : List Step → Expression → Option Fault
expression_fail steps e = first_fail (steps_at steps e)

abbrev pub destination_fail : List Step → Destination → Option Fault
destination_fail steps (destinations.Letter letter) = None
destination_fail steps (destinations.Element e mark) = expression_fail steps e
destination_fail steps (destinations.Missing e) = expression_fail steps e

-- the fault in a part
abbrev pub part_fail : List Step → Operation → Option Fault
part_fail steps (operations.Set d e) = option_or (destination_fail steps d) (expression_fail steps e)
part_fail steps (operations.Show e) = expression_fail steps e
part_fail steps (operations.Width e mark) = expression_fail steps e
part_fail steps (operations.Input prompt d) = destination_fail steps d
part_fail steps (operations.Discard e) = expression_fail steps e
part_fail steps _ = None

abbrev pub code_mistake : Statements → List Step → List Operation → Option Fault
code_mistake p steps [] = None
code_mistake p steps (operations.Set d e ∷ rest) =
    option_or (option_or (destination_fail steps d) (expression_fail steps e)) (code_mistake p steps rest)
code_mistake p steps (operations.Say l ∷ rest) = code_mistake p steps rest
code_mistake p steps (operations.Show e ∷ rest) = option_or (expression_fail steps e) (code_mistake p steps rest)
code_mistake p steps (operations.Width e mark ∷ rest) = option_or (expression_fail steps e) (code_mistake p steps rest)
code_mistake p steps (operations.NewLine ∷ rest) = code_mistake p steps rest
code_mistake p steps (operations.Input prompt d ∷ rest) =
    option_or (destination_fail steps d) (code_mistake p steps rest)
code_mistake p steps (operations.Discard e ∷ rest) = option_or (expression_fail steps e) (code_mistake p steps rest)
code_mistake p steps (operations.Fail kind mark ∷ rest) = Some (fault kind mark)
code_mistake p steps (operations.Goto e end ∷ rest) = jump_mistake p end (only_number (steps_at steps e))
code_mistake p steps (operations.Gosub e end next ∷ rest) = jump_mistake p end (only_number (steps_at steps e))
code_mistake p steps (_ ∷ rest) = None
