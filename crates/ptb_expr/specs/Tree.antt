-- This file defines expressions as trees. A node is marked at its end, after any blanks there.
-- Main definition: `Tree`.
--     Tree            an expression, or what is malformed in it
--     questions x     how many RNDs a tree has
use Rattle.std.specs.Prelude.{ℕ, ◌+◌, ℤ}
use Rattle.ptb_expr.specs.declared.fault.FaultKind.{FaultKind}
use Rattle.ptb_expr.specs.declared.operator.Operator.{Operator}

pub data Tree : Type 0 where
  Num : (v : ℤ) → Tree
  Var : (letter : ℕ) → Tree
  -- the word SIZE
  Size : Tree
  -- the element of @ at an index
  Elem : (x : Tree) (mark : ℕ) → Tree
  Rnd : (x : Tree) (mark : ℕ) → Tree
  Abs : (x : Tree) (mark : ℕ) → Tree
  -- a leading minus
  Neg : (x : Tree) (mark : ℕ) → Tree
  Bin : (op : Operator) (x y : Tree) (mark : ℕ) → Tree
  -- a part that must be there and isn't, or a number that is too big
  Bad : (kind : FaultKind) (mark : ℕ) → Tree
  -- a tree whose closing parenthesis is missing
  Unclosed : (x : Tree) (mark : ℕ) → Tree

-- how many RNDs a tree has
abbrev pub questions : Tree → ℕ
questions (Num v) = 0
questions (Var x) = 0
questions Size = 0
questions (Elem x m) = questions x
questions (Rnd x m) = questions x + 1
questions (Abs x m) = questions x
questions (Neg x m) = questions x
questions (Bin op x y m) = questions x + questions y
questions (Bad kind m) = 0
questions (Unclosed x m) = questions x
