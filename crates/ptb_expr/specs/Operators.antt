-- This file defines how operators are written.
-- Main definitions: `product_operator`, `sum_operator` and `comparison`.
--     product_operator, sum_operator, comparison     the operator of this kind at a place of a text, and the place
--                                                    after it
use Rattle.std.specs.Prelude.{ℕ, List, Option, option_map}
use Rattle.ptb_expr.specs.declared.operator.Operator.{Operator}
use Rattle.ptb_expr.specs.declared.operator.Operator.TheVariants.{Plus, Minus, Multiply, Divide}
use Rattle.ptb_expr.specs.declared.operator.Operator.TheVariants.{GreaterEqual, NotEqual, Greater}
use Rattle.ptb_expr.specs.declared.operator.Operator.TheVariants.{Equals, LessEqual, Less}
use Rattle.std.specs.Option.{option_or}
use Rattle.ptb_text.specs.Words.{token_at, pair_at}

-- an operator of one byte, and the place after it
abbrev pub of_byte : Operator → ℕ → List ℕ → ℕ → Option (Operator × ℕ)
of_byte op c t i = option_map (λ j. (op, j)) (token_at c t i)

-- one of two adjacent bytes
abbrev pub of_pair : Operator → ℕ → ℕ → List ℕ → ℕ → Option (Operator × ℕ)
of_pair op c d t i = option_map (λ j. (op, j)) (pair_at c d t i)

-- `*` or `/`
unfoldable pub product_operator : List ℕ → ℕ → Option (Operator × ℕ)
product_operator t i = option_or (of_byte Multiply 42 t i) (of_byte Divide 47 t i)

-- `+` or `-`
unfoldable pub sum_operator : List ℕ → ℕ → Option (Operator × ℕ)
sum_operator t i = option_or (of_byte Plus 43 t i) (of_byte Minus 45 t i)

-- `>=`, `#`, `>`, `=`, `<=` or `<`
unfoldable pub comparison : List ℕ → ℕ → Option (Operator × ℕ)
comparison t i =
    option_or (of_pair GreaterEqual 62 61 t i) (option_or (of_byte NotEqual 35 t i) (option_or (of_byte Greater 62 t i)
    (option_or (of_byte Equals 61 t i) (option_or (of_pair LessEqual 60 61 t i) (of_byte Less 60 t i)))))
