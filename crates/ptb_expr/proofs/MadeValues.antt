-- This file proves the values of trees whose parts have values.
-- Main lemmas: `unary_value` and `binary_value`.
use Rattle.std.proofs.Common.{◌≡◌, ◌∙◌, ℕ, ℤ, Result, Ok, refl, sym, ap}
use Rattle.ptb_answers.specs.Outcome.{◌>>=◌, success}
use Rattle.ptb_expr.specs.declared.builder.Unary.{Unary}
use Rattle.ptb_expr.specs.declared.builder.Unary.TheVariants.{Itself, Element, Ask, Absolute, Negate}
use Rattle.ptb_expr.specs.declared.fault.FaultKind.{FaultKind}
use Rattle.ptb_expr.specs.declared.operator.Operator.{Operator}
use Rattle.ptb_expr.specs.Builders.{node_of, unary_result, MakesValue}
use Rattle.ptb_expr.specs.Store.{Cells, value_at, element_of}
use Rattle.ptb_expr.specs.Tree.{Tree, Num, Var, Size, Bin}
use Rattle.ptb_expr.specs.Value.{Work, or_fault, operation, negation, absolute_value, value}

pub number_value : (c : Cells) (v : ℤ) → MakesValue c c v (Num v)
unfolding value
number_value c v = record { same = refl; is = refl }

pub variable_value : (c : Cells) (x : ℕ) → MakesValue c c (value_at c x) (Var x)
unfolding value
variable_value c x = record { same = refl; is = refl }

pub size_value : (c : Cells) → MakesValue c c c.size Size
unfolding value
size_value c = record { same = refl; is = refl }

-- what is done with the value v of f
then_value : (f : Work ℤ) (v w : ℤ) (m : ℕ) (g : ℤ → Result ℤ FaultKind) → f ≡ success v → g v ≡ Ok w
    → (f >>= λ v. or_fault (g v) m) ≡ success w
then_value f v w m g e h = ap (λ f. f >>= λ v. or_fault (g v) m) e ∙ ap (λ r. or_fault r m) h

unary_is : (unary : Unary) (c : Cells) (v w : ℤ) (x : Tree) (m : ℕ) → unary_result c unary v ≡ Ok w
    → value c x ≡ success v → value c (node_of unary x m) ≡ success w
unfolding value
unary_is Itself c v w x m h e = e ∙ ap (λ r. or_fault r m) h
unary_is Element c v w x m h e = then_value (value c x) v w m (element_of c) e h
unary_is Ask c v w x m h e = absurd (cc h)
unary_is Absolute c v w x m h e = then_value (value c x) v w m absolute_value e h
unary_is Negate c v w x m h e = then_value (value c x) v w m negation e h

pub unary_value : (unary : Unary) (s c : Cells) (v w : ℤ) (x : Tree) (m : ℕ) → unary_result c unary v ≡ Ok w
    → MakesValue s c v x → MakesValue s c w (node_of unary x m)
unary_value unary s c v w x m h made = record {
  same = made.same;
  is = unary_is unary s v w x m (ap (λ c. unary_result c unary v) (sym made.same) ∙ h) made.is;
}

pub binary_value : (op : Operator) (r s c : Cells) (v w z : ℤ) (x y : Tree) (m : ℕ) → operation op v w ≡ Ok z
    → MakesValue r s v x → MakesValue s c w y → MakesValue r c z (Bin op x y m)
unfolding value
binary_value op r s c v w z x y m h left right = record {
  same = right.same ∙ left.same;
  is = ap (λ f. f >>= λ v. value r y >>= λ w. or_fault (operation op v w) m) left.is
      ∙ then_value (value r y) w z m (operation op v) (ap (λ u. value u y) (sym left.same) ∙ right.is) h;
}
