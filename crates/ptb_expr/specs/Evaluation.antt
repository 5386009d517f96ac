-- This file defines what `evaluate` and `target` promise.
-- Main definition: `Evaluates`.
--     expression_there s, variable_there s           what is read of the expression, and of the variable, at a cursor
--     expression_value c s, variable_target c s      its value, and where a value is stored
--     Evaluates refused f c d result                 f was evaluated to the result, between two states of a chooser
--     IsWhole r j                                    what was read is whole, and j is the place after it
--     IsTarget c v                                   a value can be stored there
--     IsMarkedWithin t result                        a fault is marked inside the text
--     IsEvaluated .. c a b old new result            the expression at a cursor, at a and then at b, is evaluated to
--                                                    the result
use Rattle.std.specs.Prelude.{◌≡◌, ℕ, ◌≤◌, List, length, ℤ, Result, Ok, Err, IfOk}
use Rattle.ptb_text.specs.CursorState.{CursorState, bytes_left}
use Rattle.ptb_text.specs.FoundParts.{LiesAhead}
use Rattle.ptb_answers.specs.declared.chooser.Chooser as choosers
use Rattle.ptb_expr.specs.declared.fault.Stop.{Stop}
use Rattle.ptb_expr.specs.declared.fault.Stop.TheVariants as stops
use Rattle.ptb_answers.specs.declared.pause.Pause.{Pause}
use Rattle.ptb_expr.specs.declared.store.Target.{Target}
use Rattle.ptb_expr.specs.declared.store.Target.TheVariants as targets
use Rattle.ptb_answers.specs.Outcome.{success, failure}
use Rattle.ptb_answers.specs.Choices.{Choices, Reaches, Pauses}
use Rattle.ptb_expr.specs.Store.{Cells, index_of}
use Rattle.ptb_expr.specs.Tree.{Tree}
use Rattle.ptb_expr.specs.Value.{Work, value, target_of}
use Rattle.ptb_expr.specs.Spells.{Spells, Expr}
use Rattle.ptb_expr.specs.Reading.{Reading, Whole, item_of, expression, variable_tree}

abbrev pub expression_there : CursorState → Reading Tree
expression_there s = expression s.text s.place

abbrev pub variable_there : CursorState → Reading Tree
variable_there s = variable_tree s.text s.place

abbrev pub expression_value : Cells → CursorState → Work ℤ
expression_value c s = value c (item_of (expression_there s))

abbrev pub variable_target : Cells → CursorState → Work Target
variable_target c s = target_of c (item_of (variable_there s))

-- with the answers that were taken f has the result, whatever answers may follow
abbrev pub WorkComes : {V : Type 0} → (Pause → ℤ → Type 0) → Work V → Choices → Choices → Result V Stop → Type 0
WorkComes refused f c d (Ok v) = Reaches f c d (success v)
WorkComes refused f c d (Err (stops.Fault e)) = Reaches f c d (failure e)
WorkComes refused f c d (Err (stops.Pause z)) = Pauses refused f c d z

pub record Evaluates {V : Type 0} (refused : Pause → ℤ → Type 0) (f : Work V) (c d : Choices)
    (result : Result V Stop) : Type 0 where
  pub gives : WorkComes refused f c d result

abbrev pub IsWhole : {A : Type 0} → Reading A → ℕ → Type 0
IsWhole r j = r ≡ Whole (item_of r) j

-- a variable, or an index that the array has
abbrev pub IsTarget : Cells → Target → Type 0
IsTarget c (targets.Var x) = Unit {0}
IsTarget c (targets.Element i) = index_of c.size i ≡ Ok i

abbrev pub IsMarkedWithin : {V : Type 0} → List ℕ → Result V Stop → Type 0
IsMarkedWithin t (Ok v) = Unit {0}
IsMarkedWithin t (Err (stops.Fault e)) = e.mark ≤ length t
IsMarkedWithin t (Err (stops.Pause z)) = Unit {0}

-- the cells are c, the cursor is at a and then at b, and the chooser is old and then new
pub record IsEvaluated {C : Type 0} (chooser : choosers.Ghosts C) (c : Cells) (a b : CursorState) (old new : C)
    (result : Result ℤ Stop) : Type 0 where
  pub text : b.text ≡ a.text
  pub value : Evaluates (chooser.refused new) (expression_value c a) (chooser.choices old) (chooser.choices new) result
  pub spelled : Spells a.text Expr a.place (expression_there a)
  pub whole : IfOk result (λ _. IsWhole (expression_there a) b.place)
  pub ahead : IfOk result (λ _. LiesAhead a.text a.place b.place)
  pub left : bytes_left b ≤ bytes_left a
  pub mark : a.place ≤ length a.text → IsMarkedWithin a.text result
