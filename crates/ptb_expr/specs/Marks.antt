-- This file states that the marks of what is read lie within its text.
-- Main definition: `MarkLaws`.
--     MarksWithin n x      no mark of the tree x is above n
--     MarkLaws             so it is with what is read of a text, and with the fault of each tree
use Rattle.std.specs.Prelude.{◌≡◌, ℕ, ◌≤◌, List, length, Err}
use Rattle.ptb_expr.specs.declared.fault.Fault.{Fault}
use Rattle.ptb_answers.specs.Outcome.{Answers, Done}
use Rattle.ptb_expr.specs.Store.{Cells}
use Rattle.ptb_expr.specs.Tree.{Tree, Num, Var, Size, Elem, Rnd, Abs, Neg, Bin, Bad, Unclosed}
use Rattle.ptb_expr.specs.Value.{value, target_of}
use Rattle.ptb_expr.specs.Reading.{item_of, expression, variable_tree}

abbrev pub MarksWithin : ℕ → Tree → Type 0
MarksWithin n (Num v) = Unit {0}
MarksWithin n (Var letter) = Unit {0}
MarksWithin n Size = Unit {0}
MarksWithin n (Elem x m) = MarksWithin n x × (m ≤ n)
MarksWithin n (Rnd x m) = MarksWithin n x × (m ≤ n)
MarksWithin n (Abs x m) = MarksWithin n x × (m ≤ n)
MarksWithin n (Neg x m) = MarksWithin n x × (m ≤ n)
MarksWithin n (Bin op x y m) = MarksWithin n x × MarksWithin n y × (m ≤ n)
MarksWithin n (Bad kind m) = m ≤ n
MarksWithin n (Unclosed x m) = MarksWithin n x × (m ≤ n)

pub record MarkLaws : Type 0 where
  pub expression_marks : (t : List ℕ) (i : ℕ) → i ≤ length t → MarksWithin (length t) (item_of (expression t i))
  pub variable_marks : (t : List ℕ) (i : ℕ) → i ≤ length t → MarksWithin (length t) (item_of (variable_tree t i))
  pub value_faults : (n : ℕ) (c : Cells) (x : Tree) (a rest : Answers) (e : Fault) → MarksWithin n x
      → value c x a ≡ Done (Err e) rest → e.mark ≤ n
  pub target_faults : (n : ℕ) (c : Cells) (x : Tree) (a rest : Answers) (e : Fault) → MarksWithin n x
      → target_of c x a ≡ Done (Err e) rest → e.mark ≤ n
