-- This file proves that what is read of an expression is spelled so, that nothing else is, and where it ends.
-- Main lemmas: `expression_spelled` and `variable_tree_spelled`.
use Rattle.std.proofs.Common.{◌≡◌, ℕ, zero, suc, ◌-◌, ◌<◌, ◌≤◌, ◌⊎◌, inl, inr, List, sym, ap, subst}
use Rattle.std.proofs.Common.{refl, arith, ℤ, Option, Some, None, length}
use Rattle.std.specs.Prelude.{option_map}
use Rattle.std.specs.Option.{option_or}
use Rattle.ptb_text.specs.declared.word.Number.{Number}
use Rattle.ptb_text.specs.declared.word.Number.TheVariants.{Absent, Value, TooBig}
use Rattle.ptb_text.specs.declared.word.Table.TheVariants.{Functions}
use Rattle.ptb_text.specs.declared.word.Word.{Word}
use Rattle.ptb_text.specs.declared.word.Word.TheVariants.{RndKw, AbsKw, SizeKw}
use Rattle.ptb_text.specs.Words.{token_at, pair_at, letter_at, word_at, number_at}
use Rattle.ptb_text.specs.FoundParts.{LiesAhead, FindingLaws}
use Rattle.ptb_expr.specs.declared.fault.FaultKind.TheVariants.{How}
use Rattle.ptb_expr.specs.declared.operator.Operator.{Operator}
use Rattle.ptb_expr.specs.declared.operator.Operator.TheVariants.{Plus, Minus, Multiply, Divide}
use Rattle.ptb_expr.specs.declared.operator.Operator.TheVariants.{GreaterEqual, NotEqual, Greater}
use Rattle.ptb_expr.specs.declared.operator.Operator.TheVariants.{Equals, LessEqual, Less}
use Rattle.ptb_expr.specs.Operators.{of_byte, of_pair, product_operator, sum_operator, comparison}
use Rattle.ptb_expr.specs.Tree.{Tree, Num, Var, Size, Elem, Rnd, Abs, Neg, Bin, Bad, Unclosed}
use Rattle.ptb_expr.specs.Reading.{Reading, Whole, Malformed, if_there, if_number, if_function}
use Rattle.ptb_expr.specs.Reading.{after, itself, node_over, missing_part}
use Rattle.ptb_expr.specs.Reading as reading
use Rattle.ptb_expr.specs.Spells.{Production, Expr, Sum, First, MoreSum, Product, MoreProduct, Factor}
use Rattle.ptb_expr.specs.Spells.{Variable, Paren, Spells}
use Rattle.ptb_expr.specs.Spells as spells

module _ (laws : FindingLaws) (t : List ℕ) where
  -- ---- how far things go

  abbrev pub rest : ℕ → ℕ
  rest i = length t - i

  pub falls : (i j : ℕ) → LiesAhead t i j → rest j < rest i
  falls i j h = let a : i < j = h.after in let b : j ≤ length t = h.within in omega arith

  further : (i j k : ℕ) → LiesAhead t i j → LiesAhead t j k → LiesAhead t i k
  further i j k h g =
      let a : i < j = h.after in
      let b : j < k = g.after in
      record { after = omega arith; within = g.within; settled = g.settled }

  abbrev pub AllAhead : ℕ → Option (Operator × ℕ) → Type 0
  AllAhead i a = (op : Operator) (j : ℕ) → a ≡ Some (op, j) → LiesAhead t i j

  map_ahead : (op : Operator) (i : ℕ) (a : Option ℕ) → ((j : ℕ) → a ≡ Some j → LiesAhead t i j)
      → AllAhead i (option_map (λ j. (op, j)) a)
  map_ahead op i None f o k e = absurd (cc e)
  map_ahead op i (Some j) f o k e =
      let q : ◌≡◌ {A = Operator × ℕ} (op, j) (o, k) = cc in
      subst (LiesAhead t i) (ap (λ x. x.1) q) (f j refl)

  or_ahead : (i : ℕ) (a b : Option (Operator × ℕ)) → AllAhead i a → AllAhead i b → AllAhead i (option_or a b)
  or_ahead i None b f g = g
  or_ahead i (Some x) b f g = f

  byte_ahead : (op : Operator) (c i : ℕ) → AllAhead i (of_byte op c t i)
  byte_ahead op c i = map_ahead op i (token_at c t i) (laws.token c t i)

  pair_ahead : (op : Operator) (c d i : ℕ) → AllAhead i (of_pair op c d t i)
  pair_ahead op c d i = map_ahead op i (pair_at c d t i) (laws.pair c d t i)

  pub product_operator_ahead : (i : ℕ) → AllAhead i (product_operator t i)
  unfolding product_operator
  product_operator_ahead i = or_ahead i _ _ (byte_ahead Multiply 42 i) (byte_ahead Divide 47 i)

  pub sum_operator_ahead : (i : ℕ) → AllAhead i (sum_operator t i)
  unfolding sum_operator
  sum_operator_ahead i = or_ahead i _ _ (byte_ahead Plus 43 i) (byte_ahead Minus 45 i)

  pub comparison_ahead : (i : ℕ) → AllAhead i (comparison t i)
  unfolding comparison
  comparison_ahead i =
      or_ahead i _ _ (pair_ahead GreaterEqual 62 61 i)
      (or_ahead i _ _ (byte_ahead NotEqual 35 i) (or_ahead i _ _ (byte_ahead Greater 62 i)
      (or_ahead i _ _ (byte_ahead Equals 61 i) (or_ahead i _ _ (pair_ahead LessEqual 60 61 i) (byte_ahead Less 60 i)))))

  -- the place after a whole reading lies ahead
  abbrev pub Ahead : ℕ → Reading Tree → Type 0
  Ahead i (Whole y j) = LiesAhead t i j
  Ahead i (Malformed y) = Unit {0}

  -- or it is the same, where nothing follows in a list
  abbrev pub Onward : ℕ → Reading Tree → Type 0
  Onward i (Whole y j) = (j ≡ i) ⊎ LiesAhead t i j
  Onward i (Malformed y) = Unit {0}

  onward : (i : ℕ) (r : Reading Tree) → Ahead i r → Onward i r
  onward i (Whole y j) h = inr h
  onward i (Malformed y) h = tt

  further_on : (i j : ℕ) (r : Reading Tree) → LiesAhead t i j → Onward j r → Ahead i r
  further_on i j (Whole y k) h (inl e) = subst (LiesAhead t i) (sym e) h
  further_on i j (Whole y k) h (inr g) = further i j k h g
  further_on i j (Malformed y) h g = tt

  further_ahead : (i j : ℕ) (r : Reading Tree) → LiesAhead t i j → Ahead j r → Ahead i r
  further_ahead i j r h g = further_on i j r h (onward j r g)

  node_ahead : (node : Tree → ℕ → Tree) (m i : ℕ) (r : Reading Tree) → Ahead i r → Ahead i (node_over node m r)
  node_ahead node m i (Whole y j) h = h
  node_ahead node m i (Malformed y) h = tt

  abbrev pub AheadOf : Production → ℕ → Reading Tree → Type 0
  AheadOf (MoreSum x) i r = Onward i r
  AheadOf (MoreProduct x) i r = Onward i r
  AheadOf _ i r = Ahead i r

  number_ahead : (i j : ℕ) (v : ℤ) → number_at t i ≡ (Value v, j) → LiesAhead t i j
  number_ahead i j v e = laws.number t i (Value v) j e refl

  pub ahead : (part : Production) (i : ℕ) (r : Reading Tree) → Spells t part i r → AheadOf part i r
  ahead part i r (spells.sum_alone {j = j} {x = x} d e) = ahead Sum i (Whole x j) d
  ahead part i r (spells.compared {j = j} {k = k} {x = x} {op = op} {r = q} d e h) =
      further_ahead i k (node_over (Bin op x) k q) (further i j k (ahead Sum i (Whole x j) d)
      (comparison_ahead j op k e)) (node_ahead (Bin op x) k k q (ahead Sum k q h))
  ahead part i r (spells.sum_malformed d) = tt
  ahead part i r (spells.sum {j = j} {x = x} d h) =
      further_on i j r (ahead First i (Whole x j) d) (ahead (MoreSum x) j r h)
  ahead part i r (spells.first_malformed d) = tt
  ahead part i r (spells.minus_sign {j = j} {r = q} e h) =
      further_ahead i j (node_over Neg j q) (laws.token 45 t i j e) (node_ahead Neg j j q (ahead Product j q h))
  ahead part i r (spells.plus_sign {j = j} e f h) = further_ahead i j r (laws.token 43 t i j f) (ahead Product j r h)
  ahead part i r (spells.no_sign e f h) = ahead Product i r h
  ahead part i r (spells.sum_end e) = inl refl
  ahead part i r (spells.sum_more {k = k} {l = l} {x = x} {y = y} {op = op} e d h) =
      onward i r (further_on i l r (further i k l (sum_operator_ahead i op k e) (ahead Product k (Whole y l) d))
      (ahead (MoreSum (Bin op x y l)) l r h))
  ahead part i r (spells.product_malformed e d) = tt
  ahead part i r (spells.product {j = j} {x = x} d h) =
      further_on i j r (ahead Factor i (Whole x j) d) (ahead (MoreProduct x) j r h)
  ahead part i r (spells.first_factor_malformed d) = tt
  ahead part i r (spells.product_end e) = inl refl
  ahead part i r (spells.product_more {k = k} {l = l} {x = x} {y = y} {op = op} e d h) =
      onward i r (further_on i l r (further i k l (product_operator_ahead i op k e) (ahead Factor k (Whole y l) d))
      (ahead (MoreProduct (Bin op x y l)) l r h))
  ahead part i r (spells.factor_malformed e d) = tt
  ahead part i r (spells.rnd {j = j} {r = q} e h) = further_ahead i j (node_over Rnd j q)
      (laws.word Functions t i RndKw j e) (node_ahead Rnd j j q (ahead Paren j q h))
  ahead part i r (spells.abs {j = j} {r = q} e h) = further_ahead i j (node_over Abs j q)
      (laws.word Functions t i AbsKw j e) (node_ahead Abs j j q (ahead Paren j q h))
  ahead part i r (spells.size {j = j} e) = laws.word Functions t i SizeKw j e
  ahead part i r (spells.letter_variable e f h) = ahead Variable i r h
  ahead part i r (spells.element_variable e f h) = ahead Variable i r h
  ahead part i r (spells.number {j = j} {v = v} e f g h) = number_ahead i j v h
  ahead part i r (spells.number_too_big e f g h) = tt
  ahead part i r (spells.paren e f g h d) = ahead Paren i r d
  ahead part i r (spells.letter {j = j} {b = b} e) = laws.letter t i b j e
  ahead part i r (spells.element {j = j} {r = q} e f h) =
      further_ahead i j (node_over Elem j q) (laws.token 64 t i j f) (node_ahead Elem j j q (ahead Paren j q h))
  ahead part i r (spells.no_variable e f) = tt
  ahead part i r (spells.closed {j = j} {k = k} {l = l} {x = x} e d f) =
      further i j l (laws.token 40 t i j e) (further j k l (ahead Expr j (Whole x k) d) (laws.token 41 t k l f))
  ahead part i r (spells.unclosed e d f) = tt
  ahead part i r (spells.inside_malformed e d) = tt
  ahead part i r (spells.not_opened e) = tt

  -- ---- what is read is spelled so: no text is deeper, and no list is longer, than the text is long

  -- the rest of a list, where `part` is one of its parts
  more_spelled : (operator : ℕ → Option (Operator × ℕ)) → ((i : ℕ) → AllAhead i (operator i))
      → (read : ℕ → Reading Tree) (part : Production) (rest_of : Tree → Production)
      → ((i j : ℕ) (x : Tree) → Spells t part i (Whole x j) → LiesAhead t i j)
      → ((j : ℕ) (x : Tree) → operator j ≡ None → Spells t (rest_of x) j (Whole x j))
      → ((j k l : ℕ) (x y : Tree) (op : Operator) (r : Reading Tree) → operator j ≡ Some (op, k)
      → Spells t part k (Whole y l) → Spells t (rest_of (Bin op x y l)) l r → Spells t (rest_of x) j r)
      → ((j k : ℕ) (x y : Tree) (op : Operator) → operator j ≡ Some (op, k) → Spells t part k (Malformed y)
      → Spells t (rest_of x) j (Malformed (Bin op x y k)))
      → (n : ℕ) → ((i : ℕ) → rest i ≤ n → Spells t part i (read i))
      → (m : ℕ) (x : Tree) (j : ℕ) → rest j ≤ m → rest j ≤ n → Spells t (rest_of x) j (reading.more operator read m x j)
  unfolding reading.more
  more_spelled operator op_ahead read part rest_of on ends goes spoils n h zero x j few low = go (operator j) refl
    where
      go : (o : Option (Operator × ℕ)) → operator j ≡ o → Spells t (rest_of x) j (Whole x j)
      go None e = ends j x e
      go (Some (op, k)) e = absurd (omega (arith, falls j k (op_ahead j op k e)))
  more_spelled operator op_ahead read part rest_of on ends goes spoils n h (suc m) x j few low =
      go (operator j) refl (λ y l. more_spelled operator op_ahead read part rest_of on ends goes spoils n h m y l)
    where
      inner : (op : Operator) (k : ℕ) → operator j ≡ Some (op, k)
          → ((y : Tree) (l : ℕ) → rest l ≤ m → rest l ≤ n → Spells t (rest_of y) l (reading.more operator read m y l))
          → (r : Reading Tree) → Spells t part k r
          → Spells t (rest_of x) j (after r (λ y. Bin op x y k) (λ y l. reading.more operator read m (Bin op x y l) l))
      inner op k e ih (Whole y l) s =
          let less : rest k < rest j = falls j k (op_ahead j op k e) in
          let near : rest l < rest k = falls k l (on k l y s) in
          goes j k l x y op _ e s (ih (Bin op x y l) l (omega arith) (omega arith))
      inner op k e ih (Malformed y) s = spoils j k x y op e s

      go : (o : Option (Operator × ℕ)) → operator j ≡ o
          → ((y : Tree) (l : ℕ) → rest l ≤ m → rest l ≤ n → Spells t (rest_of y) l (reading.more operator read m y l))
          → Spells t (rest_of x) j (if_there o (λ o. after (read o.1) (λ y. Bin o.0 x y o.1)
          (λ y l. reading.more operator read m (Bin o.0 x y l) l)) (Whole x j))
      go None e ih = ends j x e
      go (Some (op, k)) e ih = inner op k e ih (read k) (h k (omega (arith, falls j k (op_ahead j op k e))))

  -- a part, and then the rest of its list
  list_spelled : (part list : Production) (rest_of : Tree → Production)
      → ((i j : ℕ) (x : Tree) (r : Reading Tree) → Spells t part i (Whole x j) → Spells t (rest_of x) j r
      → Spells t list i r)
      → ((i : ℕ) (x : Tree) → Spells t part i (Malformed x) → Spells t list i (Malformed x))
      → ((i j : ℕ) (x : Tree) → Spells t part i (Whole x j) → LiesAhead t i j)
      → (i : ℕ) (r : Reading Tree) (k : Tree → ℕ → Reading Tree)
      → ((x : Tree) (j : ℕ) → rest j ≤ rest i → Spells t (rest_of x) j (k x j)) → Spells t part i r
      → Spells t list i (after r itself k)
  list_spelled part list rest_of both spoils on i (Whole x j) k h s =
      let near : rest j < rest i = falls i j (on i j x s) in both i j x _ s (h x j (omega arith))
  list_spelled part list rest_of both spoils on i (Malformed x) k h s = spoils i x s

  module _ (n : ℕ) (within : ℕ → Reading Tree) (h : (j : ℕ) → rest j < n → Spells t Expr j (within j)) where
    close_spelled : (i j k : ℕ) (x : Tree) → token_at 40 t i ≡ Some j → Spells t Expr j (Whole x k) → (o : Option ℕ)
        → token_at 41 t k ≡ o → Spells t Paren i (if_there o (λ l. Whole x l) (Malformed (Unclosed x k)))
    close_spelled i j k x e s None d = spells.unclosed e s d
    close_spelled i j k x e s (Some l) d = spells.closed e s d

    inside_spelled : (i j : ℕ) → token_at 40 t i ≡ Some j → (r : Reading Tree) → Spells t Expr j r
        → Spells t Paren i
        (after r itself (λ x k. if_there (token_at 41 t k) (λ l. Whole x l) (Malformed (Unclosed x k))))
    inside_spelled i j e (Whole x k) s = close_spelled i j k x e s (token_at 41 t k) refl
    inside_spelled i j e (Malformed x) s = spells.inside_malformed e s

    paren_spelled : (i : ℕ) → rest i ≤ n → Spells t Paren i (reading.paren t within i)
    unfolding reading.paren
    paren_spelled i low = go (token_at 40 t i) refl
      where
        go : (o : Option ℕ) → token_at 40 t i ≡ o
            → Spells t Paren i (if_there o (λ j. after (within j) itself (λ x k. if_there (token_at 41 t k)
            (λ l. Whole x l) (Malformed (Unclosed x k)))) (missing_part i))
        go None e = spells.not_opened e
        go (Some j) e = inside_spelled i j e (within j) (h j (omega (arith, falls i j (laws.token 40 t i j e))))

    -- "@" paren
    element_spelled : (i j : ℕ) → rest i ≤ n → letter_at t i ≡ None → token_at 64 t i ≡ Some j
        → Spells t Variable i (node_over Elem j (reading.paren t within j))
    element_spelled i j low e d =
        spells.element e d (paren_spelled j (omega (arith, falls i j (laws.token 64 t i j d))))

    variable_spelled : (i : ℕ) → rest i ≤ n → Spells t Variable i (reading.variable t within i)
    unfolding reading.variable reading.variable_or
    variable_spelled i low = go (letter_at t i) refl
      where
        at_sign : letter_at t i ≡ None → (o : Option ℕ) → token_at 64 t i ≡ o
            → Spells t Variable i (if_there o (λ j. node_over Elem j (reading.paren t within j)) (missing_part i))
        at_sign e None d = spells.no_variable e d
        at_sign e (Some j) d = element_spelled i j low e d

        go : (o : Option (ℕ × ℕ)) → letter_at t i ≡ o
            → Spells t Variable i (if_there o (λ b. Whole (Var b.0) b.1)
            (if_there (token_at 64 t i) (λ j. node_over Elem j (reading.paren t within j)) (missing_part i)))
        go None e = at_sign e (token_at 64 t i) refl
        go (Some (b, j)) e = spells.letter e

    number_spelled : (i : ℕ) → rest i ≤ n → word_at Functions t i ≡ None → letter_at t i ≡ None → token_at 64 t i ≡ None
        → (o : Number × ℕ) → number_at t i ≡ o
        → Spells t Factor i (if_number o (λ v j. Whole (Num v) j) (λ j. Malformed (Bad How j))
        (reading.paren t within i))
    number_spelled i low f e d (Absent, j) g = spells.paren f e d g (paren_spelled i low)
    number_spelled i low f e d (Value v, j) g = spells.number f e d g
    number_spelled i low f e d (TooBig, j) g = spells.number_too_big f e d g

    plain_spelled : (i : ℕ) → rest i ≤ n → word_at Functions t i ≡ None
        → Spells t Factor i (reading.plain_factor t within i)
    unfolding reading.plain_factor reading.variable_or
    plain_spelled i low f = go (letter_at t i) refl
      where
        at_sign : letter_at t i ≡ None → (o : Option ℕ) → token_at 64 t i ≡ o
            → Spells t Factor i (if_there o (λ j. node_over Elem j (reading.paren t within j)) (if_number (number_at t
            i) (λ v j. Whole (Num v) j) (λ j. Malformed (Bad How j)) (reading.paren t within i)))
        at_sign e None d = number_spelled i low f e d (number_at t i) refl
        at_sign e (Some j) d = spells.element_variable f d (element_spelled i j low e d)

        go : (o : Option (ℕ × ℕ)) → letter_at t i ≡ o
            → Spells t Factor i (if_there o (λ b. Whole (Var b.0) b.1) (if_there (token_at 64 t i)
            (λ j. node_over Elem j (reading.paren t within j)) (if_number (number_at t i)
            (λ v j. Whole (Num v) j) (λ j. Malformed (Bad How j)) (reading.paren t within i))))
        go None e = at_sign e (token_at 64 t i) refl
        go (Some (b, j)) e = spells.letter_variable f e (spells.letter e)

    factor_spelled : (i : ℕ) → rest i ≤ n → Spells t Factor i (reading.factor t within i)
    unfolding reading.factor
    factor_spelled i low = go (word_at Functions t i) refl
      where
        argument : (w : Word) (j : ℕ) → word_at Functions t i ≡ Some (w, j)
            → Spells t Paren j (reading.paren t within j)
        argument w j e = paren_spelled j (omega (arith, falls i j (laws.word Functions t i w j e)))

        go : (o : Option (Word × ℕ)) → word_at Functions t i ≡ o
            → Spells t Factor i (if_function o (λ j. node_over Rnd j (reading.paren t within j))
            (λ j. node_over Abs j (reading.paren t within j)) (λ j. Whole Size j) (reading.plain_factor t within i))
        go (Some (RndKw, j)) e = spells.rnd e (argument RndKw j e)
        go (Some (AbsKw, j)) e = spells.abs e (argument AbsKw j e)
        go (Some (SizeKw, j)) e = spells.size e
        go (Some (w, j)) e = absurd (laws.word_of Functions t i w j e)
        go None e = plain_spelled i low e

    factor_place : (i j : ℕ) (x : Tree) → Spells t Factor i (Whole x j) → LiesAhead t i j
    factor_place i j x s = ahead Factor i (Whole x j) s

    product_spelled : (i : ℕ) → rest i ≤ n → Spells t Product i (reading.product t within i)
    unfolding reading.product
    product_spelled i low =
        list_spelled Factor Product MoreProduct (λ i j x r s q. spells.product s q)
        (λ i x s. spells.first_factor_malformed s) factor_place i (reading.factor t within i) _
        (λ x j near. more_spelled (product_operator t) product_operator_ahead
        (reading.factor t within) Factor MoreProduct factor_place
        (λ j x e. spells.product_end e) (λ j k l x y op r e s q. spells.product_more e s q)
        (λ j k x y op e s. spells.factor_malformed e s)
        n factor_spelled (length t) x j (omega arith) (omega arith))
        (factor_spelled i low)

    product_place : (i j : ℕ) (x : Tree) → Spells t Product i (Whole x j) → LiesAhead t i j
    product_place i j x s = ahead Product i (Whole x j) s

    first_spelled : (i : ℕ) → rest i ≤ n → Spells t First i (reading.first_product t within i)
    unfolding reading.first_product
    first_spelled i low = go (token_at 45 t i) refl
      where
        next : (c j : ℕ) → token_at c t i ≡ Some j → Spells t Product j (reading.product t within j)
        next c j e = product_spelled j (omega (arith, falls i j (laws.token c t i j e)))

        plus : token_at 45 t i ≡ None → (o : Option ℕ) → token_at 43 t i ≡ o
            → Spells t First i (if_there o (reading.product t within) (reading.product t within i))
        plus e None d = spells.no_sign e d (product_spelled i low)
        plus e (Some j) d = spells.plus_sign e d (next 43 j d)

        go : (o : Option ℕ) → token_at 45 t i ≡ o
            → Spells t First i (if_there o (λ j. node_over Neg j (reading.product t within j))
            (if_there (token_at 43 t i) (reading.product t within) (reading.product t within i)))
        go None e = plus e (token_at 43 t i) refl
        go (Some j) e = spells.minus_sign e (next 45 j e)

    sum_spelled : (i : ℕ) → rest i ≤ n → Spells t Sum i (reading.sum t within i)
    unfolding reading.sum
    sum_spelled i low =
        list_spelled First Sum MoreSum (λ i j x r s q. spells.sum s q) (λ i x s. spells.first_malformed s)
        (λ i j x s. ahead First i (Whole x j) s) i (reading.first_product t within i) _
        (λ x j near. more_spelled (sum_operator t) sum_operator_ahead (reading.product t within) Product MoreSum
        product_place
        (λ j x e. spells.sum_end e) (λ j k l x y op r e s q. spells.sum_more e s q)
        (λ j k x y op e s. spells.product_malformed e s)
        n product_spelled (length t) x j (omega arith) (omega arith))
        (first_spelled i low)

    expr_with_spelled : (i : ℕ) → rest i ≤ n → Spells t Expr i (reading.expr_with t within i)
    unfolding reading.expr_with
    expr_with_spelled i low = go (reading.sum t within i) (sum_spelled i low)
      where
        compare : (x : Tree) (j : ℕ) → Spells t Sum i (Whole x j) → (o : Option (Operator × ℕ)) → comparison t j ≡ o
            → Spells t Expr i (if_there o (λ o. node_over (Bin o.0 x) o.1 (reading.sum t within o.1)) (Whole x j))
        compare x j s None e = spells.sum_alone s e
        compare x j s (Some (op, k)) e =
            let near : rest j < rest i = falls i j (ahead Sum i (Whole x j) s) in
            let less : rest k < rest j = falls j k (comparison_ahead j op k e) in
            spells.compared s e (sum_spelled k (omega arith))

        go : (r : Reading Tree) → Spells t Sum i r
            → Spells t Expr i (after r itself (λ x j. if_there (comparison t j)
            (λ o. node_over (Bin o.0 x) o.1 (reading.sum t within o.1)) (Whole x j)))
        go (Whole x j) s = compare x j s (comparison t j) refl
        go (Malformed x) s = spells.sum_malformed s

  pub expr_spelled : (n i : ℕ) → rest i < n → Spells t Expr i (reading.expr t n i)
  unfolding reading.expr
  expr_spelled zero i low = absurd (omega arith)
  expr_spelled (suc n) i low = expr_with_spelled n (reading.expr t n) (expr_spelled n) i (omega arith)

  pub expression_spelled : (i : ℕ) → Spells t Expr i (reading.expression t i)
  unfolding reading.expression
  expression_spelled i = expr_spelled (suc (length t)) i (omega arith)

  pub variable_tree_spelled : (i : ℕ) → Spells t Variable i (reading.variable_tree t i)
  unfolding reading.variable_tree
  variable_tree_spelled i = variable_spelled (suc (length t)) (reading.expr t (suc (length t)))
      (expr_spelled (suc (length t))) i (omega arith)
