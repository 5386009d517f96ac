-- This file defines the value of an expression. The left operand is evaluated first; the right one gets the
-- answers that are left.
-- Main definition: `value`.
--     value c x                the value of the tree x, with the cells c
--     target_of c x            what the tree of a variable names: a letter, or an element whose index is evaluated
--     operation op v w         what an operator gives
--     chosen n                 an answer from 1 to n
use Rattle.std.specs.Prelude.{ℕ, Bool, not, ◌&&◌, ℤ, pos, ◌+ℤ◌, ◌-ℤ◌, ◌*ℤ◌, Result, Ok, Err}
use Rattle.std.specs.Prelude.{if◌then◌else◌, int_lt, int_le, int_div, unsigned_abs, neg_ℤ}
use Rattle.std.specs.Ordering.{int_eq}
use Rattle.ptb_expr.specs.declared.operator.Operator.{Operator}
use Rattle.ptb_expr.specs.declared.operator.Operator.TheVariants.{Plus, Minus, Multiply, Divide}
use Rattle.ptb_expr.specs.declared.operator.Operator.TheVariants.{GreaterEqual, NotEqual, Greater}
use Rattle.ptb_expr.specs.declared.operator.Operator.TheVariants.{Equals, LessEqual, Less}
use Rattle.ptb_expr.specs.declared.store.Target.{Target}
use Rattle.ptb_expr.specs.declared.store.Target.TheVariants as targets
use Rattle.ptb_expr.specs.declared.fault.Fault.{Fault}
use Rattle.ptb_expr.specs.declared.fault.FaultKind.{FaultKind}
use Rattle.ptb_expr.specs.declared.fault.FaultKind.TheVariants.{What, How}
use Rattle.ptb_expr.specs.Tree.{Tree, Num, Var, Size, Elem, Rnd, Abs, Neg, Bin, Bad, Unclosed}
use Rattle.ptb_expr.specs.Store.{Cells, value_at, index_of, element_of, map_ok, with_value, with_element}
use Rattle.ptb_answers.specs.Outcome.{Answers, Outcome, go_on, ◌>>=◌, success, failure, answer}

-- what is evaluated with answers: a value or a fault
abbrev pub Work : Type 0 → Type 0
Work A = Answers → Outcome (Result A Fault) (Unit {0})

abbrev pub fault : FaultKind → ℕ → Fault
fault kind mark = record { kind = kind; mark = mark }

-- a value, or a fault at the mark
abbrev pub or_fault : {A : Type 0} → Result A FaultKind → ℕ → Work A
or_fault (Ok v) m = success v
or_fault (Err kind) m = failure (fault kind m)

-- ---- operators

-- a number from the least to 32767
abbrev pub in_range : ℤ → ℤ → Result ℤ FaultKind
in_range least z = if int_le least z && int_le z (pos 32767) then Ok z else Err How

-- 1 if it is true, else 0
abbrev pub truth : Bool → Result ℤ FaultKind
truth b = Ok (if b then pos 1 else pos 0)

-- only a sum or a difference may be -32768; a quotient's fraction is dropped
abbrev pub operation : Operator → ℤ → ℤ → Result ℤ FaultKind
operation Plus v w = in_range (neg_ℤ (pos 32768)) (v +ℤ w)
operation Minus v w = in_range (neg_ℤ (pos 32768)) (v -ℤ w)
operation Multiply v w = in_range (neg_ℤ (pos 32767)) (v *ℤ w)
operation Divide v w = if int_eq w (pos 0) then Err How else in_range (neg_ℤ (pos 32767)) (int_div v w)
operation GreaterEqual v w = truth (int_le w v)
operation NotEqual v w = truth (not (int_eq v w))
operation Greater v w = truth (int_lt w v)
operation Equals v w = truth (int_eq v w)
operation LessEqual v w = truth (int_le v w)
operation Less v w = truth (int_lt v w)

-- a leading minus
abbrev pub negation : ℤ → Result ℤ FaultKind
negation v = in_range (neg_ℤ (pos 32767)) (neg_ℤ v)

abbrev pub absolute_value : ℤ → Result ℤ FaultKind
absolute_value v = in_range (pos 0) (pos (unsigned_abs v))

-- ---- trees

-- an answer from 1 to n
abbrev pub chosen : ℤ → Work ℤ
chosen n = λ a. go_on (answer n tt a) success

-- RND: such an answer, where n is at least 1
unfoldable pub random_number : ℤ → ℕ → Work ℤ
random_number n m = if int_le (pos 1) n then chosen n else failure (fault How m)

unfoldable pub value : Cells → Tree → Work ℤ
value c (Num v) = success v
value c (Var x) = success (value_at c x)
value c Size = success c.size
value c (Elem x m) = value c x >>= λ i. or_fault (element_of c i) m
value c (Rnd x m) = value c x >>= λ n. random_number n m
value c (Abs x m) = value c x >>= λ v. or_fault (absolute_value v) m
value c (Neg x m) = value c x >>= λ v. or_fault (negation v) m
value c (Bin op x y m) = value c x >>= λ v. value c y >>= λ w. or_fault (operation op v w) m
value c (Bad kind m) = failure (fault kind m)
value c (Unclosed x m) = value c x >>= λ v. failure (fault What m)

-- a variable's index is evaluated, and is in its range
unfoldable pub target_of : Cells → Tree → Work Target
target_of c (Var x) = success (targets.Var x)
target_of c (Elem x m) = value c x >>= λ i. or_fault (map_ok targets.Element (index_of c.size i)) m
target_of c x = value c x >>= λ v. failure (fault What 0)

-- a value is stored
abbrev pub with_target : Cells → Target → ℤ → Cells
with_target c (targets.Var x) v = with_value c x v
with_target c (targets.Element i) v = with_element c i v
