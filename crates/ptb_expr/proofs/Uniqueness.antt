-- This file proves that no part of an expression is spelled in two ways: what is spelled is what is read.
-- Main lemma: `unique`.
use Rattle.std.proofs.Common.{◌≡◌, ℕ, zero, suc, ◌<◌, ◌≤◌, List, ◌∙◌, sym, ap, refl, arith, ℤ}
use Rattle.std.proofs.Common.{Option, Some, None, length}
use Rattle.ptb_text.specs.declared.word.Number.TheVariants.{Absent, Value, TooBig}
use Rattle.ptb_text.specs.declared.word.Table.TheVariants.{Functions}
use Rattle.ptb_text.specs.declared.word.Word.TheVariants.{RndKw, AbsKw, SizeKw}
use Rattle.ptb_text.specs.Words.{token_at, letter_at, word_at, number_at}
use Rattle.ptb_text.specs.FoundParts.{FindingLaws}
use Rattle.ptb_expr.specs.declared.fault.FaultKind.TheVariants.{How}
use Rattle.ptb_expr.specs.declared.operator.Operator.{Operator}
use Rattle.ptb_expr.specs.Operators.{product_operator, sum_operator, comparison}
use Rattle.ptb_expr.specs.Tree.{Tree, Num, Var, Size, Elem, Rnd, Abs, Neg, Bin, Bad, Unclosed}
use Rattle.ptb_expr.specs.Reading.{Reading, Whole, Malformed, after, itself, node_over, missing_part, more}
use Rattle.ptb_expr.specs.Reading.{paren, variable_or, variable, plain_factor, factor, product, first_product}
use Rattle.ptb_expr.specs.Reading.{sum, expr_with, expr}
use Rattle.ptb_expr.specs.Spells.{Production, Expr, Sum, First, MoreSum, Product, MoreProduct, Factor}
use Rattle.ptb_expr.specs.Spells.{Variable, Paren, Spells}
use Rattle.ptb_expr.specs.Spells as spells
use Rattle.ptb_expr.proofs.SpelledTrees.{rest, falls, product_operator_ahead, sum_operator_ahead}
use Rattle.ptb_expr.proofs.SpelledTrees.{comparison_ahead, ahead}

-- ---- a list

more_end : (operator : ℕ → Option (Operator × ℕ)) (read : ℕ → Reading Tree) (m : ℕ) (x : Tree) (j : ℕ)
    → operator j ≡ None → more operator read m x j ≡ Whole x j
unfolding more
more_end operator read zero x j e = refl
more_end operator read (suc m) x j e = rw e refl

more_more : (operator : ℕ → Option (Operator × ℕ)) (read : ℕ → Reading Tree) (m : ℕ) (x y : Tree) (op : Operator)
    (j k l : ℕ)
    → operator j ≡ Some (op, k) → Whole y l ≡ read k
    → more operator read (suc m) x j ≡ more operator read m (Bin op x y l) l
unfolding more
more_more operator read m x y op j k l e d = rw (e, sym d) refl

more_malformed : (operator : ℕ → Option (Operator × ℕ)) (read : ℕ → Reading Tree) (m : ℕ) (x y : Tree) (op : Operator)
    (j k : ℕ)
    → operator j ≡ Some (op, k) → Malformed y ≡ read k → more operator read (suc m) x j ≡ Malformed (Bin op x y k)
unfolding more
more_malformed operator read m x y op j k e d = rw (e, sym d) refl

-- ---- each branch of each part

module _ (t : List ℕ) (within : ℕ → Reading Tree) where
  expr_alone : (i j : ℕ) (x : Tree) → Whole x j ≡ sum t within i → comparison t j ≡ None
      → Whole x j ≡ expr_with t within i
  unfolding expr_with
  expr_alone i j x d e = rw (sym d, e) refl

  expr_compared : (i j k : ℕ) (x : Tree) (op : Operator) → Whole x j ≡ sum t within i → comparison t j ≡ Some (op, k)
      → node_over (Bin op x) k (sum t within k) ≡ expr_with t within i
  unfolding expr_with
  expr_compared i j k x op d e = rw (sym d, e) refl

  expr_malformed : (i : ℕ) (x : Tree) → Malformed x ≡ sum t within i → Malformed x ≡ expr_with t within i
  unfolding expr_with
  expr_malformed i x d = rw (sym d) refl

  sum_from : (i : ℕ) (r : Reading Tree) → r ≡ first_product t within i
      → after r itself (more (sum_operator t) (product t within) (length t)) ≡ sum t within i
  unfolding sum
  sum_from i r d = rw (sym d) refl

  first_minus : (i j : ℕ) → token_at 45 t i ≡ Some j → node_over Neg j (product t within j) ≡ first_product t within i
  unfolding first_product
  first_minus i j e = rw e refl

  first_plus : (i j : ℕ) → token_at 45 t i ≡ None → token_at 43 t i ≡ Some j
      → product t within j ≡ first_product t within i
  unfolding first_product
  first_plus i j e f = rw (e, f) refl

  first_plain : (i : ℕ) → token_at 45 t i ≡ None → token_at 43 t i ≡ None
      → product t within i ≡ first_product t within i
  unfolding first_product
  first_plain i e f = rw (e, f) refl

  product_from : (i : ℕ) (r : Reading Tree) → r ≡ factor t within i
      → after r itself (more (product_operator t) (factor t within) (length t)) ≡ product t within i
  unfolding product
  product_from i r d = rw (sym d) refl

  factor_rnd : (i j : ℕ) → word_at Functions t i ≡ Some (RndKw, j)
      → node_over Rnd j (paren t within j) ≡ factor t within i
  unfolding factor
  factor_rnd i j e = rw e refl

  factor_abs : (i j : ℕ) → word_at Functions t i ≡ Some (AbsKw, j)
      → node_over Abs j (paren t within j) ≡ factor t within i
  unfolding factor
  factor_abs i j e = rw e refl

  factor_size : (i j : ℕ) → word_at Functions t i ≡ Some (SizeKw, j) → Whole Size j ≡ factor t within i
  unfolding factor
  factor_size i j e = rw e refl

  factor_letter : (i : ℕ) (b : ℕ × ℕ) → word_at Functions t i ≡ None → letter_at t i ≡ Some b
      → variable t within i ≡ factor t within i
  unfolding factor plain_factor variable variable_or
  factor_letter i b e f = rw (e, f) refl

  -- with an element both are read, whether a letter is there or not
  element_or : (o : Option (ℕ × ℕ)) (i j : ℕ) (d : Reading Tree) → letter_at t i ≡ o → token_at 64 t i ≡ Some j
      → variable t within i ≡ variable_or t within d i
  unfolding variable variable_or
  element_or None i j d e f = rw (e, f) refl
  element_or (Some b) i j d e f = rw e refl

  factor_element : (i j : ℕ) → word_at Functions t i ≡ None → token_at 64 t i ≡ Some j
      → variable t within i ≡ factor t within i
  unfolding factor plain_factor
  factor_element i j e f = rw e (element_or (letter_at t i) i j _ refl f)

  factor_number : (i j : ℕ) (v : ℤ) → word_at Functions t i ≡ None → letter_at t i ≡ None → token_at 64 t i ≡ None
      → number_at t i ≡ (Value v, j) → Whole (Num v) j ≡ factor t within i
  unfolding factor plain_factor variable_or
  factor_number i j v e f g h = rw (e, f, g, h) refl

  factor_too_big : (i j : ℕ) → word_at Functions t i ≡ None → letter_at t i ≡ None → token_at 64 t i ≡ None
      → number_at t i ≡ (TooBig, j) → Malformed (Bad How j) ≡ factor t within i
  unfolding factor plain_factor variable_or
  factor_too_big i j e f g h = rw (e, f, g, h) refl

  factor_paren : (i j : ℕ) → word_at Functions t i ≡ None → letter_at t i ≡ None → token_at 64 t i ≡ None
      → number_at t i ≡ (Absent, j) → paren t within i ≡ factor t within i
  unfolding factor plain_factor variable_or
  factor_paren i j e f g h = rw (e, f, g, h) refl

  variable_letter : (i b j : ℕ) → letter_at t i ≡ Some (b, j) → Whole (Var b) j ≡ variable t within i
  unfolding variable variable_or
  variable_letter i b j e = rw e refl

  variable_element : (i j : ℕ) → letter_at t i ≡ None → token_at 64 t i ≡ Some j
      → node_over Elem j (paren t within j) ≡ variable t within i
  unfolding variable variable_or
  variable_element i j e f = rw (e, f) refl

  variable_missing : (i : ℕ) → letter_at t i ≡ None → token_at 64 t i ≡ None → missing_part i ≡ variable t within i
  unfolding variable variable_or
  variable_missing i e f = rw (e, f) refl

  paren_closed : (i j k l : ℕ) (x : Tree) → token_at 40 t i ≡ Some j → Whole x k ≡ within j → token_at 41 t k ≡ Some l
      → Whole x l ≡ paren t within i
  unfolding paren
  paren_closed i j k l x e d f = rw (e, sym d, f) refl

  paren_unclosed : (i j k : ℕ) (x : Tree) → token_at 40 t i ≡ Some j → Whole x k ≡ within j → token_at 41 t k ≡ None
      → Malformed (Unclosed x k) ≡ paren t within i
  unfolding paren
  paren_unclosed i j k x e d f = rw (e, sym d, f) refl

  paren_malformed : (i j : ℕ) (x : Tree) → token_at 40 t i ≡ Some j → Malformed x ≡ within j
      → Malformed x ≡ paren t within i
  unfolding paren
  paren_malformed i j x e d = rw (e, sym d) refl

  paren_missing : (i : ℕ) → token_at 40 t i ≡ None → missing_part i ≡ paren t within i
  unfolding paren
  paren_missing i e = rw e refl

module _ (laws : FindingLaws) (t : List ℕ) where
  -- what is read of a part, where parentheses are at most n deep and the rest of a list has at most m parts
  abbrev read : ℕ → ℕ → Production → ℕ → Reading Tree
  read n m Expr i = expr_with t (expr t n) i
  read n m Sum i = sum t (expr t n) i
  read n m First i = first_product t (expr t n) i
  read n m (MoreSum x) i = more (sum_operator t) (product t (expr t n)) m x i
  read n m Product i = product t (expr t n) i
  read n m (MoreProduct x) i = more (product_operator t) (factor t (expr t n)) m x i
  read n m Factor i = factor t (expr t n) i
  read n m Variable i = variable t (expr t n) i
  read n m Paren i = paren t (expr t n) i

  -- it is all of it
  abbrev IsRead : Production → ℕ → Reading Tree → Type 0
  IsRead part i r = (n m : ℕ) → rest laws t i ≤ n → rest laws t i ≤ m → r ≡ read n m part i

  inside : (i j : ℕ) (r : Reading Tree) → rest laws t j < rest laws t i → IsRead Expr j r → (n : ℕ) → rest laws t i ≤ n
      → r ≡ expr t n j
  unfolding expr
  inside i j r less h zero low = absurd (omega arith)
  inside i j r less h (suc n) low = h n n (omega arith) (omega arith)

  goes : (operator : ℕ → Option (Operator × ℕ)) (reads : ℕ → Reading Tree) (x y : Tree) (op : Operator)
      (r : Reading Tree) (j k l m : ℕ)
      → rest laws t l < rest laws t j → rest laws t j ≤ m → operator j ≡ Some (op, k) → Whole y l ≡ reads k
      → ((m : ℕ) → rest laws t l ≤ m → r ≡ more operator reads m (Bin op x y l) l) → r ≡ more operator reads m x j
  goes operator reads x y op r j k l zero less low e d h = absurd (omega arith)
  goes operator reads x y op r j k l (suc m) less low e d h =
      h m (omega arith) ∙ sym (more_more operator reads m x y op j k l e d)

  spoils : (operator : ℕ → Option (Operator × ℕ)) (reads : ℕ → Reading Tree) (x y : Tree) (op : Operator) (j k m : ℕ)
      → rest laws t k < rest laws t j → rest laws t j ≤ m → operator j ≡ Some (op, k) → Malformed y ≡ reads k
      → Malformed (Bin op x y k) ≡ more operator reads m x j
  spoils operator reads x y op j k zero less low e d = absurd (omega arith)
  spoils operator reads x y op j k (suc m) less low e d = sym (more_malformed operator reads m x y op j k e d)

  is_read : (part : Production) (i : ℕ) (r : Reading Tree) → Spells t part i r → IsRead part i r
  is_read part i r (spells.sum_alone {j = j} {x = x} d e) =
      λ n m p q. expr_alone t (expr t n) i j x (is_read Sum i (Whole x j) d n m p q) e
  is_read part i r (spells.compared {j = j} {k = k} {x = x} {op = op} {r = s} d e h) = λ n m p q.
      let a : rest laws t j < rest laws t i = falls laws t i j (ahead laws t Sum i (Whole x j) d) in
      let b : rest laws t k < rest laws t j = falls laws t j k (comparison_ahead laws t j op k e) in
      ap (node_over (Bin op x) k) (is_read Sum k s h n m (omega arith) (omega arith))
      ∙ expr_compared t (expr t n) i j k x op (is_read Sum i (Whole x j) d n m p q) e
  is_read part i r (spells.sum_malformed {x = x} d) =
      λ n m p q. expr_malformed t (expr t n) i x (is_read Sum i (Malformed x) d n m p q)
  is_read part i r (spells.sum {j = j} {x = x} d h) = λ n m p q.
      let a : rest laws t j < rest laws t i = falls laws t i j (ahead laws t First i (Whole x j) d) in
      is_read (MoreSum x) j r h n (length t) (omega arith) (omega arith)
      ∙ sum_from t (expr t n) i (Whole x j) (is_read First i (Whole x j) d n m p q)
  is_read part i r (spells.first_malformed d) = λ n m p q. sum_from t (expr t n) i _ (is_read First i _ d n m p q)
  is_read part i r (spells.minus_sign {j = j} {r = s} e h) = λ n m p q.
      let a : rest laws t j < rest laws t i = falls laws t i j (laws.token 45 t i j e) in
      ap (node_over Neg j) (is_read Product j s h n m (omega arith) (omega arith)) ∙ first_minus t (expr t n) i j e
  is_read part i r (spells.plus_sign {j = j} e f h) = λ n m p q.
      let a : rest laws t j < rest laws t i = falls laws t i j (laws.token 43 t i j f) in
      is_read Product j r h n m (omega arith) (omega arith) ∙ first_plus t (expr t n) i j e f
  is_read part i r (spells.no_sign e f h) = λ n m p q. is_read Product i r h n m p q ∙ first_plain t (expr t n) i e f
  is_read part i r (spells.sum_end {x = x} e) =
      λ n m p q. sym (more_end (sum_operator t) (product t (expr t n)) m x i e)
  is_read part i r (spells.sum_more {k = k} {l = l} {x = x} {y = y} {op = op} e d h) = λ n m p q.
      let a : rest laws t k < rest laws t i = falls laws t i k (sum_operator_ahead laws t i op k e) in
      let b : rest laws t l < rest laws t k = falls laws t k l (ahead laws t Product k (Whole y l) d) in
      goes (sum_operator t) (product t (expr t n)) x y op r i k l m (omega arith) q e (is_read Product k (Whole y l) d n
      m (omega arith) (omega arith)) (λ m q. is_read (MoreSum (Bin op x y l)) l r h n m (omega arith) q)
  is_read part i r (spells.product_malformed {k = k} {x = x} {y = y} {op = op} e d) = λ n m p q.
      let a : rest laws t k < rest laws t i = falls laws t i k (sum_operator_ahead laws t i op k e) in
      spoils (sum_operator t) (product t (expr t n)) x y op i k m a q e
      (is_read Product k (Malformed y) d n m (omega arith) (omega arith))
  is_read part i r (spells.product {j = j} {x = x} d h) = λ n m p q.
      let a : rest laws t j < rest laws t i = falls laws t i j (ahead laws t Factor i (Whole x j) d) in
      is_read (MoreProduct x) j r h n (length t) (omega arith) (omega arith)
      ∙ product_from t (expr t n) i (Whole x j) (is_read Factor i (Whole x j) d n m p q)
  is_read part i r (spells.first_factor_malformed d) =
      λ n m p q. product_from t (expr t n) i _ (is_read Factor i _ d n m p q)
  is_read part i r (spells.product_end {x = x} e) =
      λ n m p q. sym (more_end (product_operator t) (factor t (expr t n)) m x i e)
  is_read part i r (spells.product_more {k = k} {l = l} {x = x} {y = y} {op = op} e d h) = λ n m p q.
      let a : rest laws t k < rest laws t i = falls laws t i k (product_operator_ahead laws t i op k e) in
      let b : rest laws t l < rest laws t k = falls laws t k l (ahead laws t Factor k (Whole y l) d) in
      goes (product_operator t) (factor t (expr t n)) x y op r i k l m (omega arith) q e (is_read Factor k (Whole y l) d
      n m (omega arith) (omega arith)) (λ m q. is_read (MoreProduct (Bin op x y l)) l r h n m (omega arith) q)
  is_read part i r (spells.factor_malformed {k = k} {x = x} {y = y} {op = op} e d) = λ n m p q.
      let a : rest laws t k < rest laws t i = falls laws t i k (product_operator_ahead laws t i op k e) in
      spoils (product_operator t) (factor t (expr t n)) x y op i k m a q e
      (is_read Factor k (Malformed y) d n m (omega arith) (omega arith))
  is_read part i r (spells.rnd {j = j} {r = s} e h) = λ n m p q.
      let a : rest laws t j < rest laws t i = falls laws t i j (laws.word Functions t i RndKw j e) in
      ap (node_over Rnd j) (is_read Paren j s h n m (omega arith) (omega arith)) ∙ factor_rnd t (expr t n) i j e
  is_read part i r (spells.abs {j = j} {r = s} e h) = λ n m p q.
      let a : rest laws t j < rest laws t i = falls laws t i j (laws.word Functions t i AbsKw j e) in
      ap (node_over Abs j) (is_read Paren j s h n m (omega arith) (omega arith)) ∙ factor_abs t (expr t n) i j e
  is_read part i r (spells.size {j = j} e) = λ n m p q. factor_size t (expr t n) i j e
  is_read part i r (spells.letter_variable {b = b} e f h) = λ n m p q. is_read Variable i r h n m p q
      ∙ factor_letter t (expr t n) i b e f
  is_read part i r (spells.element_variable {j = j} e f h) = λ n m p q. is_read Variable i r h n m p q
      ∙ factor_element t (expr t n) i j e f
  is_read part i r (spells.number {j = j} {v = v} e f g h) = λ n m p q. factor_number t (expr t n) i j v e f g h
  is_read part i r (spells.number_too_big {j = j} e f g h) = λ n m p q. factor_too_big t (expr t n) i j e f g h
  is_read part i r (spells.paren {j = j} e f g h d) = λ n m p q. is_read Paren i r d n m p q
      ∙ factor_paren t (expr t n) i j e f g h
  is_read part i r (spells.letter {j = j} {b = b} e) = λ n m p q. variable_letter t (expr t n) i b j e
  is_read part i r (spells.element {j = j} {r = s} e f h) = λ n m p q.
      let a : rest laws t j < rest laws t i = falls laws t i j (laws.token 64 t i j f) in
      ap (node_over Elem j) (is_read Paren j s h n m (omega arith) (omega arith))
      ∙ variable_element t (expr t n) i j e f
  is_read part i r (spells.no_variable e f) = λ n m p q. variable_missing t (expr t n) i e f
  is_read part i r (spells.closed {j = j} {k = k} {l = l} {x = x} e d f) = λ n m p q.
      paren_closed t (expr t n) i j k l x e
      (inside i j (Whole x k) (falls laws t i j (laws.token 40 t i j e)) (is_read Expr j (Whole x k) d) n p) f
  is_read part i r (spells.unclosed {j = j} {k = k} {x = x} e d f) = λ n m p q.
      paren_unclosed t (expr t n) i j k x e
      (inside i j (Whole x k) (falls laws t i j (laws.token 40 t i j e)) (is_read Expr j (Whole x k) d) n p) f
  is_read part i r (spells.inside_malformed {j = j} {x = x} e d) = λ n m p q.
      paren_malformed t (expr t n) i j x e
      (inside i j (Malformed x) (falls laws t i j (laws.token 40 t i j e)) (is_read Expr j (Malformed x) d) n p)
  is_read part i r (spells.not_opened e) = λ n m p q. paren_missing t (expr t n) i e

  pub unique : (part : Production) (i : ℕ) (r s : Reading Tree) → Spells t part i r → Spells t part i s → r ≡ s
  unique part i r s d e =
      let n = length t in
      is_read part i r d n n (omega arith) (omega arith) ∙ sym (is_read part i s e n n (omega arith) (omega arith))
