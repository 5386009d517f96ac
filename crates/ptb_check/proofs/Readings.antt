-- This file proves that what is malformed has a fault, and what is whole has none.
-- Main lemmas: `expression_tells` and `variable_tells`.
use Rattle.std.proofs.Common.{◌≡◌, ◌∙◌, ℕ, Option, Some, None, IsSome, sym, ap, subst, refl}
use Rattle.std.specs.Option.{option_or}
use Rattle.ptb_expr.specs.declared.fault.Fault.{Fault}
use Rattle.ptb_expr.specs.declared.fault.FaultKind.TheVariants.{What}
use Rattle.ptb_expr.specs.Reading.{Reading, Whole, Malformed, node_over, expression, variable_tree}
use Rattle.ptb_expr.specs.Spells.{Production, Expr, Sum, First, MoreSum, Product, MoreProduct, Factor}
use Rattle.ptb_expr.specs.Spells.{Variable, Paren, Spells, SpellingLaws}
use Rattle.ptb_expr.specs.Spells as spells
use Rattle.ptb_expr.specs.Tree.{Tree, Elem, Rnd, Abs, Neg, Bin}
use Rattle.ptb_expr.specs.Value.{fault}
use Rattle.ptb_expr.specs.WrittenExpressions.{written_fault}
use Rattle.std.specs.Prelude.{List}

-- it has a fault exactly where it is malformed
abbrev pub Tells : {A : Type 0} → (A → Option Fault) → Reading A → Type 0
Tells faults (Whole x j) = faults x ≡ None
Tells faults (Malformed x) = IsSome (faults x)

pub some_first : (o p : Option Fault) → IsSome o → IsSome (option_or o p)
some_first (Some f) p h = refl
some_first None p h = cc h

pub some_second : (o p : Option Fault) → IsSome p → IsSome (option_or o p)
some_second (Some f) p h = refl
some_second None p h = h

pub none_both : (o p : Option Fault) → o ≡ None → p ≡ None → option_or o p ≡ None
none_both o p e d = ap (λ v. option_or v p) e ∙ d

-- what is before a part has no fault
abbrev IsClean : Production → Type 0
IsClean Expr = Unit {0}
IsClean Sum = Unit {0}
IsClean First = Unit {0}
IsClean (MoreSum x) = written_fault x ≡ None
IsClean Product = Unit {0}
IsClean (MoreProduct x) = written_fault x ≡ None
IsClean Factor = Unit {0}
IsClean Variable = Unit {0}
IsClean Paren = Unit {0}

over : (node : Tree → ℕ → Tree) (m : ℕ) (r : Reading Tree)
    → ((y : Tree) (k : ℕ) → written_fault (node y k) ≡ written_fault y) → Tells written_fault r
    → Tells written_fault (node_over node m r)
over node m (Whole y k) same h = same y k ∙ h
over node m (Malformed y) same h = subst IsSome (sym (same y m)) h

module _ (t : List ℕ) where
  spelled : (part : Production) (i : ℕ) (r : Reading Tree) → Spells t part i r → IsClean part → Tells written_fault r
  spelled part i r (spells.sum_alone s e) h = spelled Sum i r s tt
  spelled part i r (spells.compared {x = x} {op = op} {r = q} s e u) h =
      over (Bin op x) _ q (λ y k. ap (λ o. option_or o (written_fault y)) (spelled Sum i _ s tt)) (spelled Sum _ q u tt)
  spelled part i r (spells.sum_malformed s) h = spelled Sum i r s tt
  spelled part i r (spells.sum {x = x} s u) h = spelled (MoreSum x) _ r u (spelled First i _ s tt)
  spelled part i r (spells.first_malformed s) h = spelled First i r s tt
  spelled part i r (spells.minus_sign {r = q} e s) h = over Neg _ q (λ y k. refl) (spelled Product _ q s tt)
  spelled part i r (spells.plus_sign e d s) h = spelled Product _ r s tt
  spelled part i r (spells.no_sign e d s) h = spelled Product i r s tt
  spelled part i r (spells.sum_end e) h = h
  spelled part i r (spells.sum_more e s u) h = spelled (MoreSum _) _ r u (none_both _ _ h (spelled Product _ _ s tt))
  spelled part i r (spells.product_malformed {x = x} {y = y} e s) h =
      some_second (written_fault x) (written_fault y) (spelled Product _ _ s tt)
  spelled part i r (spells.product {x = x} s u) h = spelled (MoreProduct x) _ r u (spelled Factor i _ s tt)
  spelled part i r (spells.first_factor_malformed s) h = spelled Factor i r s tt
  spelled part i r (spells.product_end e) h = h
  spelled part i r (spells.product_more e s u) h =
      spelled (MoreProduct _) _ r u (none_both _ _ h (spelled Factor _ _ s tt))
  spelled part i r (spells.factor_malformed {x = x} {y = y} e s) h =
      some_second (written_fault x) (written_fault y) (spelled Factor _ _ s tt)
  spelled part i r (spells.rnd {r = q} e s) h = over Rnd _ q (λ y k. refl) (spelled Paren _ q s tt)
  spelled part i r (spells.abs {r = q} e s) h = over Abs _ q (λ y k. refl) (spelled Paren _ q s tt)
  spelled part i r (spells.size e) h = refl
  spelled part i r (spells.letter_variable a b s) h = spelled Variable i r s tt
  spelled part i r (spells.element_variable a b s) h = spelled Variable i r s tt
  spelled part i r (spells.number a b c d) h = refl
  spelled part i r (spells.number_too_big a b c d) h = refl
  spelled part i r (spells.paren a b c d s) h = spelled Paren i r s tt
  spelled part i r (spells.letter e) h = refl
  spelled part i r (spells.element {r = q} a b s) h = over Elem _ q (λ y k. refl) (spelled Paren _ q s tt)
  spelled part i r (spells.no_variable a b) h = refl
  spelled part i r (spells.closed a s b) h = spelled Expr _ _ s tt
  spelled part i r (spells.unclosed {k = k} {x = x} a s b) h = some_second (written_fault x) (Some (fault What k)) refl
  spelled part i r (spells.inside_malformed a s) h = spelled Expr _ _ s tt
  spelled part i r (spells.not_opened a) h = refl

  module _ (laws : SpellingLaws) where
    pub expression_tells : (i : ℕ) → Tells written_fault (expression t i)
    expression_tells i = spelled Expr i (expression t i) (laws.expression_spelled t i) tt

    pub variable_tells : (i : ℕ) → Tells written_fault (variable_tree t i)
    variable_tells i = spelled Variable i (variable_tree t i) (laws.variable_spelled t i) tt
