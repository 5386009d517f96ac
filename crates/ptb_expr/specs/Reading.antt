-- This file defines how an expression is spelled: the longest reading at a place, and the place after it.
-- Main definition: `expression`.
--
--     expr     = sum | sum comparison sum
--     sum      = [ "+" | "-" ] product { ( "+" | "-" ) product }
--     product  = factor { ( "*" | "/" ) factor }
--     factor   = "RND" paren | "ABS" paren | "SIZE" | variable | number | paren
--     paren    = "(" expr ")"
--     variable = letter | "@" paren
--
--     expression t i, variable_tree t i        the reading of an expression, and of a variable, at place i of the text
--                                              t
use Rattle.std.specs.Prelude.{ℕ, zero, suc, List, length, ℤ, Option, Some, None}
use Rattle.ptb_text.specs.declared.word.Number.{Number}
use Rattle.ptb_text.specs.declared.word.Number.TheVariants.{Absent, Value, TooBig}
use Rattle.ptb_text.specs.declared.word.Table.TheVariants.{Functions}
use Rattle.ptb_text.specs.declared.word.Word.{Word}
use Rattle.ptb_text.specs.declared.word.Word.TheVariants.{RndKw, AbsKw, SizeKw}
use Rattle.ptb_text.specs.Words.{token_at, letter_at, word_at, number_at}
use Rattle.ptb_expr.specs.declared.fault.FaultKind.TheVariants.{What, How}
use Rattle.ptb_expr.specs.declared.operator.Operator.{Operator}
use Rattle.ptb_expr.specs.Operators.{product_operator, sum_operator, comparison}
use Rattle.ptb_expr.specs.Tree.{Tree, Num, Var, Size, Elem, Rnd, Abs, Neg, Bin, Bad, Unclosed}

-- ---- readings

-- something whole and the place after it, or something malformed, after which nothing is read
pub data Reading (A : Type 0) : Type 0 where
  Whole : (x : A) (next : ℕ) → Reading A
  Malformed : (x : A) → Reading A

-- what was read
abbrev pub item_of : {A : Type 0} → Reading A → A
item_of (Whole x j) = x
item_of (Malformed x) = x

-- continues after a whole part; a malformed part makes what it is in malformed
abbrev pub after : {A B : Type 0} → Reading A → (A → B) → (A → ℕ → Reading B) → Reading B
after (Whole x j) wrap next = next x j
after (Malformed x) wrap next = Malformed (wrap x)

abbrev pub itself : {A : Type 0} → A → A
itself x = x

-- something made of what was read
abbrev pub map_reading : {A B : Type 0} → (A → B) → Reading A → Reading B
map_reading f r = after r f (λ x j. Whole (f x) j)

-- ---- what leads where

-- what follows where something is there, and otherwise
abbrev pub if_there : {A X : Type 0} → Option A → (A → X) → X → X
if_there None f d = d
if_there (Some x) f d = f x

-- what a number, a number that is too big, and no number lead to
abbrev pub if_number : {X : Type 0} → Number × ℕ → (ℤ → ℕ → X) → (ℕ → X) → X → X
if_number (Absent, j) f g d = d
if_number (Value v, j) f g d = f v j
if_number (TooBig, j) f g d = g j

-- what RND, ABS, SIZE, and no function lead to
abbrev pub if_function : {X : Type 0} → Option (Word × ℕ) → (ℕ → X) → (ℕ → X) → (ℕ → X) → X → X
if_function (Some (RndKw, j)) f g h d = f j
if_function (Some (AbsKw, j)) f g h d = g j
if_function (Some (SizeKw, j)) f g h d = h j
if_function _ f g h d = d

-- ---- trees

-- a node over what was read; m is its mark where the part is malformed, which is never looked at
abbrev pub node_over : (Tree → ℕ → Tree) → ℕ → Reading Tree → Reading Tree
node_over node m r = after r (λ x. node x m) (λ x k. Whole (node x k) k)

-- a part that must be there and isn't
abbrev pub missing_part : ℕ → Reading Tree
missing_part i = Malformed (Bad What i)

-- x and, as long as such an operator is next, the operator and one more part; at most n of them
unfoldable pub more : (ℕ → Option (Operator × ℕ)) → (ℕ → Reading Tree) → ℕ → Tree → ℕ → Reading Tree
more operator part zero x j = Whole x j
more operator part (suc n) x j =
    if_there (operator j)
    (λ o. after (part o.1) (λ y. Bin o.0 x y o.1) (λ y l. more operator part n (Bin o.0 x y l) l))
    (Whole x j)

-- ---- the grammar

module _ (t : List ℕ) where
  -- `within` reads the expression between parentheses
  module _ (within : ℕ → Reading Tree) where
    -- paren = "(" expr ")"
    unfoldable pub paren : ℕ → Reading Tree
    paren i =
        if_there (token_at 40 t i)
        (λ j. after (within j) itself (λ x k. if_there (token_at 41 t k) (λ l. Whole x l) (Malformed (Unclosed x k))))
        (missing_part i)

    -- variable = letter | "@" paren
    unfoldable pub variable_or : Reading Tree → ℕ → Reading Tree
    variable_or other i =
        if_there (letter_at t i) (λ b. Whole (Var b.0) b.1)
        (if_there (token_at 64 t i) (λ j. node_over Elem j (paren j)) other)

    unfoldable pub variable : ℕ → Reading Tree
    variable i = variable_or (missing_part i) i

    -- factor = "RND" paren | "ABS" paren | "SIZE" | variable | number | paren
    unfoldable pub plain_factor : ℕ → Reading Tree
    plain_factor i =
        variable_or (if_number (number_at t i) (λ v j. Whole (Num v) j) (λ j. Malformed (Bad How j)) (paren i)) i

    unfoldable pub factor : ℕ → Reading Tree
    factor i =
        if_function (word_at Functions t i)
        (λ j. node_over Rnd j (paren j)) (λ j. node_over Abs j (paren j)) (λ j. Whole Size j) (plain_factor i)

    -- product = factor { ("*" | "/") factor }
    unfoldable pub product : ℕ → Reading Tree
    product i = after (factor i) itself (more (product_operator t) factor (length t))

    -- sum = ["+" | "-"] product { ("+" | "-") product }
    unfoldable pub first_product : ℕ → Reading Tree
    first_product i =
        if_there (token_at 45 t i) (λ j. node_over Neg j (product j)) (if_there (token_at 43 t i) product (product i))

    unfoldable pub sum : ℕ → Reading Tree
    sum i = after (first_product i) itself (more (sum_operator t) product (length t))

    -- expr = sum [ comparison sum ]
    unfoldable pub expr_with : ℕ → Reading Tree
    expr_with i =
        after (sum i) itself (λ x j.
        if_there (comparison t j) (λ o. after (sum o.1) (λ y. Bin o.0 x y o.1) (λ y l. Whole (Bin o.0 x y l) l))
        (Whole x j))

  -- at most n pairs of parentheses deep
  unfoldable pub expr : ℕ → ℕ → Reading Tree
  expr zero i = missing_part i
  expr (suc n) i = expr_with (expr n) i

  -- no text is deeper than it is long
  unfoldable pub expression : ℕ → Reading Tree
  expression i = expr (suc (length t)) i

  unfoldable pub variable_tree : ℕ → Reading Tree
  variable_tree i = variable (expr (suc (length t))) i
