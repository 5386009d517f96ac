-- This file defines the grammar of expressions as a relation, one case a rule, and states its laws.
-- Main definition: `Spells`.
--     Spells t part i r        r is the longest reading of the part at place i of the text t
--     SpellingLaws             what `expression` and `variable_tree` read is so spelled, and nothing else is
use Rattle.std.specs.Prelude.{◌≡◌, ℕ, ◌-◌, ◌<◌, List, length, ℤ, Some, None}
use Rattle.ptb_text.specs.declared.word.Number.TheVariants.{Absent, Value, TooBig}
use Rattle.ptb_text.specs.declared.word.Table.TheVariants.{Functions}
use Rattle.ptb_text.specs.declared.word.Word.TheVariants.{RndKw, AbsKw, SizeKw}
use Rattle.ptb_text.specs.Words.{token_at, letter_at, word_at, number_at}
use Rattle.ptb_text.specs.FoundParts.{LiesAhead}
use Rattle.ptb_expr.specs.declared.fault.FaultKind.TheVariants.{How}
use Rattle.ptb_expr.specs.declared.operator.Operator.{Operator}
use Rattle.ptb_expr.specs.Operators.{product_operator, sum_operator, comparison}
use Rattle.ptb_expr.specs.Tree.{Tree, Num, Var, Size, Elem, Rnd, Abs, Neg, Bin, Bad, Unclosed}
use Rattle.ptb_expr.specs.Reading.{Reading, Whole, Malformed, node_over, missing_part, expr, expression, variable_tree}

-- ---- the rules

pub data Production : Type 0 where
  Expr : Production
  Sum : Production
  -- the first product of a sum, with its sign
  First : Production
  -- what follows x in a sum
  MoreSum : (x : Tree) → Production
  Product : Production
  -- what follows x in a product
  MoreProduct : (x : Tree) → Production
  Factor : Production
  Variable : Production
  Paren : Production

-- a node is marked at its end, after any blanks there; reading stops at a malformed part
pub data Spells (t : List ℕ) : Production → ℕ → Reading Tree → Type 0 where
  -- expr = sum [ comparison sum ]
  sum_alone : {i j : ℕ} {x : Tree} → Spells t Sum i (Whole x j) → comparison t j ≡ None → Spells t Expr i (Whole x j)
  compared : {i j k : ℕ} {x : Tree} {op : Operator} {r : Reading Tree} → Spells t Sum i (Whole x j)
      → comparison t j ≡ Some (op, k) → Spells t Sum k r → Spells t Expr i (node_over (Bin op x) k r)
  sum_malformed : {i : ℕ} {x : Tree} → Spells t Sum i (Malformed x) → Spells t Expr i (Malformed x)
  -- sum = [ "+" | "-" ] product { ( "+" | "-" ) product }
  sum : {i j : ℕ} {x : Tree} {r : Reading Tree} → Spells t First i (Whole x j) → Spells t (MoreSum x) j r
      → Spells t Sum i r
  first_malformed : {i : ℕ} {x : Tree} → Spells t First i (Malformed x) → Spells t Sum i (Malformed x)
  minus_sign : {i j : ℕ} {r : Reading Tree} → token_at 45 t i ≡ Some j → Spells t Product j r
      → Spells t First i (node_over Neg j r)
  plus_sign : {i j : ℕ} {r : Reading Tree} → token_at 45 t i ≡ None → token_at 43 t i ≡ Some j → Spells t Product j r
      → Spells t First i r
  no_sign : {i : ℕ} {r : Reading Tree} → token_at 45 t i ≡ None → token_at 43 t i ≡ None → Spells t Product i r
      → Spells t First i r
  sum_end : {j : ℕ} {x : Tree} → sum_operator t j ≡ None → Spells t (MoreSum x) j (Whole x j)
  sum_more : {j k l : ℕ} {x y : Tree} {op : Operator} {r : Reading Tree} → sum_operator t j ≡ Some (op, k)
      → Spells t Product k (Whole y l) → Spells t (MoreSum (Bin op x y l)) l r → Spells t (MoreSum x) j r
  product_malformed : {j k : ℕ} {x y : Tree} {op : Operator} → sum_operator t j ≡ Some (op, k)
      → Spells t Product k (Malformed y) → Spells t (MoreSum x) j (Malformed (Bin op x y k))
  -- product = factor { ( "*" | "/" ) factor }
  product : {i j : ℕ} {x : Tree} {r : Reading Tree} → Spells t Factor i (Whole x j) → Spells t (MoreProduct x) j r
      → Spells t Product i r
  first_factor_malformed : {i : ℕ} {x : Tree} → Spells t Factor i (Malformed x) → Spells t Product i (Malformed x)
  product_end : {j : ℕ} {x : Tree} → product_operator t j ≡ None → Spells t (MoreProduct x) j (Whole x j)
  product_more : {j k l : ℕ} {x y : Tree} {op : Operator} {r : Reading Tree} → product_operator t j ≡ Some (op, k)
      → Spells t Factor k (Whole y l) → Spells t (MoreProduct (Bin op x y l)) l r → Spells t (MoreProduct x) j r
  factor_malformed : {j k : ℕ} {x y : Tree} {op : Operator} → product_operator t j ≡ Some (op, k)
      → Spells t Factor k (Malformed y) → Spells t (MoreProduct x) j (Malformed (Bin op x y k))
  -- factor = "RND" paren | "ABS" paren | "SIZE" | variable | number | paren
  rnd : {i j : ℕ} {r : Reading Tree} → word_at Functions t i ≡ Some (RndKw, j) → Spells t Paren j r
      → Spells t Factor i (node_over Rnd j r)
  abs : {i j : ℕ} {r : Reading Tree} → word_at Functions t i ≡ Some (AbsKw, j) → Spells t Paren j r
      → Spells t Factor i (node_over Abs j r)
  size : {i j : ℕ} → word_at Functions t i ≡ Some (SizeKw, j) → Spells t Factor i (Whole Size j)
  letter_variable : {i : ℕ} {b : ℕ × ℕ} {r : Reading Tree} → word_at Functions t i ≡ None → letter_at t i ≡ Some b
      → Spells t Variable i r → Spells t Factor i r
  element_variable : {i j : ℕ} {r : Reading Tree} → word_at Functions t i ≡ None → token_at 64 t i ≡ Some j
      → Spells t Variable i r → Spells t Factor i r
  number : {i j : ℕ} {v : ℤ} → word_at Functions t i ≡ None → letter_at t i ≡ None → token_at 64 t i ≡ None
      → number_at t i ≡ (Value v, j) → Spells t Factor i (Whole (Num v) j)
  number_too_big : {i j : ℕ} → word_at Functions t i ≡ None → letter_at t i ≡ None → token_at 64 t i ≡ None
      → number_at t i ≡ (TooBig, j) → Spells t Factor i (Malformed (Bad How j))
  paren : {i j : ℕ} {r : Reading Tree} → word_at Functions t i ≡ None → letter_at t i ≡ None → token_at 64 t i ≡ None
      → number_at t i ≡ (Absent, j) → Spells t Paren i r → Spells t Factor i r
  -- variable = letter | "@" paren
  letter : {i j b : ℕ} → letter_at t i ≡ Some (b, j) → Spells t Variable i (Whole (Var b) j)
  element : {i j : ℕ} {r : Reading Tree} → letter_at t i ≡ None → token_at 64 t i ≡ Some j → Spells t Paren j r
      → Spells t Variable i (node_over Elem j r)
  no_variable : {i : ℕ} → letter_at t i ≡ None → token_at 64 t i ≡ None → Spells t Variable i (missing_part i)
  -- paren = "(" expr ")"
  closed : {i j k l : ℕ} {x : Tree} → token_at 40 t i ≡ Some j → Spells t Expr j (Whole x k) → token_at 41 t k ≡ Some l
      → Spells t Paren i (Whole x l)
  unclosed : {i j k : ℕ} {x : Tree} → token_at 40 t i ≡ Some j → Spells t Expr j (Whole x k) → token_at 41 t k ≡ None
      → Spells t Paren i (Malformed (Unclosed x k))
  inside_malformed : {i j : ℕ} {x : Tree} → token_at 40 t i ≡ Some j → Spells t Expr j (Malformed x)
      → Spells t Paren i (Malformed x)
  not_opened : {i : ℕ} → token_at 40 t i ≡ None → Spells t Paren i (missing_part i)

-- ---- the laws

pub record SpellingLaws : Type 0 where
  -- what is read is spelled so
  pub expression_spelled : (t : List ℕ) (i : ℕ) → Spells t Expr i (expression t i)
  pub variable_spelled : (t : List ℕ) (i : ℕ) → Spells t Variable i (variable_tree t i)
  -- nothing is spelled in two ways
  pub unique : (t : List ℕ) (part : Production) (i : ℕ) (q r : Reading Tree) → Spells t part i q → Spells t part i r
      → q ≡ r
  -- what is whole takes something, and ends within the text
  pub expression_ahead : (t : List ℕ) (i j : ℕ) (x : Tree) → expression t i ≡ Whole x j → LiesAhead t i j
  pub variable_ahead : (t : List ℕ) (i j : ℕ) (x : Tree) → variable_tree t i ≡ Whole x j → LiesAhead t i j
  -- parentheses are deep only as far as the text goes
  pub deep_enough : (t : List ℕ) (n i : ℕ) → length t - i < n → expr t n i ≡ expression t i
