-- This file defines what is in the text of an expression, whatever the expression evaluates to.
-- Main definition: `written_fault`.
--     written_fault x          the fault of the part of the tree x that is missing, too big or not closed
--     written_number x         the number that the tree x is
--     first_fail steps         the fault of the first step that has one always
--     only_number steps        the number of a single step
use Rattle.std.specs.Prelude.{List, [], ◌∷◌, ℤ, Option, Some, None}
use Rattle.std.specs.Option.{option_or}
use Rattle.ptb_expr.specs.declared.fault.Fault.{Fault}
use Rattle.ptb_expr.specs.declared.fault.FaultKind.TheVariants.{What}
use Rattle.ptb_expr.specs.declared.step.Step.{Step}
use Rattle.ptb_expr.specs.declared.step.Step.TheVariants as steps
use Rattle.ptb_expr.specs.Tree.{Tree, Num, Var, Size, Elem, Rnd, Abs, Neg, Bin, Bad, Unclosed}
use Rattle.ptb_expr.specs.Value.{fault}

-- ---- trees

abbrev pub written_fault : Tree → Option Fault
written_fault (Num v) = None
written_fault (Var letter) = None
written_fault Size = None
written_fault (Elem x m) = written_fault x
written_fault (Rnd x m) = written_fault x
written_fault (Abs x m) = written_fault x
written_fault (Neg x m) = written_fault x
written_fault (Bin op x y m) = option_or (written_fault x) (written_fault y)
written_fault (Bad kind m) = Some (fault kind m)
written_fault (Unclosed x m) = option_or (written_fault x) (Some (fault What m))

abbrev pub written_number : Tree → Option ℤ
written_number (Num v) = Some v
written_number _ = None

-- ---- steps

abbrev pub fail_of : Step → Option Fault
fail_of (steps.Fail kind m) = Some (fault kind m)
fail_of _ = None

abbrev pub first_fail : List Step → Option Fault
first_fail [] = None
first_fail (x ∷ xs) = option_or (fail_of x) (first_fail xs)

abbrev pub step_number : Step → Option ℤ
step_number (steps.Number v) = Some v
step_number _ = None

abbrev pub only_number : List Step → Option ℤ
only_number (x ∷ []) = step_number x
only_number _ = None
