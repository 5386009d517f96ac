-- This file proves that the marks of what is read lie within its text.
-- Main lemmas: `value_faults` and `target_faults`.
use Rattle.std.proofs.Common.{◌≡◌, ℕ, ◌≤◌, Bool, true, false, cond, List, [], ◌∷◌, refl, arith, ℤ}
use Rattle.std.proofs.Common.{pos, Result, Ok, Err, length, subst}
use Rattle.std.specs.Prelude.{int_le, if◌then◌else◌}
use Rattle.ptb_text.specs.declared.word.Number.TheVariants.{TooBig}
use Rattle.ptb_text.specs.declared.word.Table.TheVariants.{Functions}
use Rattle.ptb_text.specs.declared.word.Word.TheVariants.{RndKw, AbsKw}
use Rattle.ptb_text.specs.FoundParts.{LiesAhead, FindingLaws}
use Rattle.ptb_expr.specs.declared.fault.Fault.{Fault}
use Rattle.ptb_expr.specs.declared.fault.FaultKind.{FaultKind}
use Rattle.ptb_expr.specs.declared.fault.FaultKind.TheVariants.{What, How}
use Rattle.ptb_expr.specs.declared.store.Target.{Target}
use Rattle.ptb_expr.specs.declared.store.Target.TheVariants as targets
use Rattle.ptb_answers.specs.Outcome.{Answers, Outcome, Done, Asks, Out, go_on, unless_error, ◌>>=◌}
use Rattle.ptb_answers.specs.Outcome.{success, failure, answer, is_answer}
use Rattle.ptb_expr.specs.Store.{Cells, index_of, element_of, map_ok}
use Rattle.ptb_expr.specs.Tree.{Tree, Num, Var, Size, Elem, Rnd, Abs, Neg, Bin, Bad, Unclosed}
use Rattle.ptb_expr.specs.Value.{Work, fault, or_fault, operation, negation, absolute_value}
use Rattle.ptb_expr.specs.Value.{random_number, value, target_of}
use Rattle.ptb_expr.specs.Reading.{Reading, Whole, Malformed, item_of, node_over, expression, variable_tree}
use Rattle.ptb_expr.specs.Spells.{Production, Expr, Sum, First, MoreSum, Product, MoreProduct, Factor}
use Rattle.ptb_expr.specs.Spells.{Variable, Paren, Spells}
use Rattle.ptb_expr.specs.Spells as spells
use Rattle.ptb_expr.specs.Marks.{MarksWithin}
use Rattle.ptb_expr.proofs.SpelledTrees.{product_operator_ahead, sum_operator_ahead}
use Rattle.ptb_expr.proofs.SpelledTrees.{comparison_ahead, ahead, expression_spelled}
use Rattle.ptb_expr.proofs.SpelledTrees.{variable_tree_spelled}

-- ---- faults

-- a fault of what is worked out is marked at n at most
pub record FaultsWithin {A : Type 0} (n : ℕ) (m : Work A) : Type 0 where
  pub by : (a rest : Answers) (e : Fault) → m a ≡ Done (Err e) rest → e.mark ≤ n

bind_go : {A B : Type 0} (n : ℕ) (k : A → Work B) (o : Outcome (Result A Fault) (Unit {0}))
    → ((rest : Answers) (e : Fault) → o ≡ Done (Err e) rest → e.mark ≤ n) → ((v : A) → FaultsWithin n (k v))
    → (rest : Answers) (e : Fault) → go_on o (unless_error k) ≡ Done (Err e) rest → e.mark ≤ n
bind_go n k (Done (Ok v) a) h g rest e d = (g v).by a rest e d
bind_go n k (Done (Err x) a) h g rest e d = let q : x ≡ e = cc in h a e (let p : a ≡ a = refl in cc)
bind_go n k (Asks m w) h g rest e d = absurd (cc d)
bind_go n k (Out m w) h g rest e d = absurd (cc d)

bind_within : {A B : Type 0} (n : ℕ) (m : Work A) (k : A → Work B) → FaultsWithin n m → ((v : A) → FaultsWithin n (k v))
    → FaultsWithin n (m >>= k)
bind_within n m k h g = record { by = λ a rest e d. bind_go n k (m a) (h.by a) g rest e d }

success_within : {A : Type 0} (n : ℕ) (v : A) → FaultsWithin n (success v)
success_within n v = record { by = λ a rest e d. absurd (cc d) }

failure_within : {A : Type 0} (n : ℕ) (kind : FaultKind) (m : ℕ) → m ≤ n
    → FaultsWithin {A = A} n (failure (fault kind m))
failure_within n kind m h = record {
  by = λ a rest e d. let q : fault kind m ≡ e = cc in
      subst (λ (x : Fault). x.mark ≤ n) q h;
}

or_fault_within : {A : Type 0} (n : ℕ) (r : Result A FaultKind) (m : ℕ) → m ≤ n → FaultsWithin n (or_fault r m)
or_fault_within n (Ok v) m h = success_within n v
or_fault_within n (Err kind) m h = failure_within n kind m h

answer_go : (n k : ℤ) (b : Bool) (a rest : Answers) (e : Fault)
    → go_on {W = Unit {0}} (cond b (Done k a) (Out n tt)) success ≡ Done (Err e) rest → ⊥
answer_go n k true a rest e d = cc d
answer_go n k false a rest e d = cc d

answer_never : (n : ℤ) (a rest : Answers) (e : Fault) → go_on {W = Unit {0}} (answer n tt a) success ≡ Done (Err e) rest
    → ⊥
unfolding answer
answer_never n [] rest e d = cc d
answer_never n (k ∷ a) rest e d = answer_go n k (is_answer n k) a rest e d

random_within : (n : ℕ) (bound : ℤ) (m : ℕ) → m ≤ n → FaultsWithin n (random_number bound m)
unfolding random_number
random_within n bound m h = go (int_le (pos 1) bound)
  where
    go : (b : Bool) → FaultsWithin n (if b then (λ a. go_on (answer bound tt a) success) else failure (fault How m))
    go true = record { by = λ a rest e d. absurd (answer_never bound a rest e d) }
    go false = failure_within n How m h

value_within : (n : ℕ) (c : Cells) (x : Tree) → MarksWithin n x → FaultsWithin n (value c x)
unfolding value
value_within n c (Num v) h = success_within n v
value_within n c (Var x) h = success_within n _
value_within n c Size h = success_within n c.size
value_within n c (Elem x m) h = bind_within n (value c x) _ (value_within n c x h.0)
    (λ i. or_fault_within n (element_of c i) m h.1)
value_within n c (Rnd x m) h = bind_within n (value c x) _ (value_within n c x h.0) (λ v. random_within n v m h.1)
value_within n c (Abs x m) h = bind_within n (value c x) _ (value_within n c x h.0)
    (λ v. or_fault_within n (absolute_value v) m h.1)
value_within n c (Neg x m) h = bind_within n (value c x) _ (value_within n c x h.0)
    (λ v. or_fault_within n (negation v) m h.1)
value_within n c (Bin op x y m) h =
    bind_within n (value c x) _ (value_within n c x h.0) (λ v.
    bind_within n (value c y) _ (value_within n c y h.1) (λ w. or_fault_within n (operation op v w) m h.2))
value_within n c (Bad kind m) h = failure_within n kind m h
value_within n c (Unclosed x m) h =
    bind_within n (value c x) _ (value_within n c x h.0) (λ v. failure_within n What m h.1)

other_within : (n : ℕ) (c : Cells) (x : Tree) → MarksWithin n x
    → FaultsWithin {A = Target} n (value c x >>= λ v. failure (fault What 0))
other_within n c x h = bind_within n (value c x) _ (value_within n c x h) (λ v. failure_within n What 0 (omega arith))

target_within : (n : ℕ) (c : Cells) (x : Tree) → MarksWithin n x → FaultsWithin n (target_of c x)
unfolding target_of
target_within n c (Var x) h = success_within n _
target_within n c (Elem x m) h = bind_within n (value c x) _ (value_within n c x h.0)
    (λ i. or_fault_within n (map_ok targets.Element (index_of c.size i)) m h.1)
target_within n c (Num v) h = other_within n c (Num v) h
target_within n c Size h = other_within n c Size h
target_within n c (Rnd x m) h = other_within n c (Rnd x m) h
target_within n c (Abs x m) h = other_within n c (Abs x m) h
target_within n c (Neg x m) h = other_within n c (Neg x m) h
target_within n c (Bin op x y m) h = other_within n c (Bin op x y m) h
target_within n c (Bad kind m) h = other_within n c (Bad kind m) h
target_within n c (Unclosed x m) h = other_within n c (Unclosed x m) h

pub value_faults : (n : ℕ) (c : Cells) (x : Tree) (a rest : Answers) (e : Fault) → MarksWithin n x
    → value c x a ≡ Done (Err e) rest → e.mark ≤ n
value_faults n c x a rest e h d = (value_within n c x h).by a rest e d

pub target_faults : (n : ℕ) (c : Cells) (x : Tree) (a rest : Answers) (e : Fault) → MarksWithin n x
    → target_of c x a ≡ Done (Err e) rest → e.mark ≤ n
target_faults n c x a rest e h d = (target_within n c x h).by a rest e d

-- ---- what is read

module _ (laws : FindingLaws) (t : List ℕ) where
  abbrev Marked : Reading Tree → Type 0
  Marked r = MarksWithin (length t) (item_of r)

  -- a node whose mark, or that of its malformed part, lies within
  node_marked : (node : Tree → ℕ → Tree) (i m : ℕ) (r : Reading Tree)
      → ((x : Tree) (k : ℕ) → MarksWithin (length t) x → k ≤ length t → MarksWithin (length t) (node x k))
      → m ≤ length t → ((x : Tree) (k : ℕ) → r ≡ Whole x k → k ≤ length t) → Marked r → Marked (node_over node m r)
  node_marked node i m (Whole x k) f h g d = f x k d (g x k refl)
  node_marked node i m (Malformed x) f h g d = f x m d h

  -- the tree that a list continues from
  abbrev IsBefore : Production → Type 0
  IsBefore (MoreSum x) = MarksWithin (length t) x
  IsBefore (MoreProduct x) = MarksWithin (length t) x
  IsBefore _ = Unit {0}

  paren_end : (i : ℕ) (r : Reading Tree) → Spells t Paren i r → (x : Tree) (k : ℕ) → r ≡ Whole x k → k ≤ length t
  paren_end i r d x k e = let h : LiesAhead t i k = ahead laws t Paren i (Whole x k) (subst (Spells t Paren i) e d) in
      h.within

  product_end : (i : ℕ) (r : Reading Tree) → Spells t Product i r → (x : Tree) (k : ℕ) → r ≡ Whole x k → k ≤ length t
  product_end i r d x k e = let h : LiesAhead t i k =
      ahead laws t Product i (Whole x k) (subst (Spells t Product i) e d) in
      h.within

  sum_end : (i : ℕ) (r : Reading Tree) → Spells t Sum i r → (x : Tree) (k : ℕ) → r ≡ Whole x k → k ≤ length t
  sum_end i r d x k e = let h : LiesAhead t i k = ahead laws t Sum i (Whole x k) (subst (Spells t Sum i) e d) in
      h.within

  marked : (part : Production) (i : ℕ) (r : Reading Tree) → Spells t part i r → i ≤ length t → IsBefore part → Marked r
  marked part i r (spells.sum_alone {j = j} {x = x} d e) low b = marked Sum i (Whole x j) d low tt
  marked part i r (spells.compared {j = j} {k = k} {x = x} {op = op} {r = q} d e h) low b =
      let a : LiesAhead t j k = comparison_ahead laws t j op k e in
      let m = marked Sum i (Whole x j) d low tt in
      node_marked (Bin op x) i k q (λ y l p q. (m, p, q)) a.within (sum_end k q h) (marked Sum k q h a.within tt)
  marked part i r (spells.sum_malformed {x = x} d) low b = marked Sum i (Malformed x) d low tt
  marked part i r (spells.sum {j = j} {x = x} d h) low b =
      let a : LiesAhead t i j = ahead laws t First i (Whole x j) d in
      marked (MoreSum x) j r h a.within (marked First i (Whole x j) d low tt)
  marked part i r (spells.first_malformed {x = x} d) low b = marked First i (Malformed x) d low tt
  marked part i r (spells.minus_sign {j = j} {r = q} e h) low b =
      let a = laws.token 45 t i j e in
      node_marked Neg i j q (λ y l p q. (p, q)) a.within (product_end j q h) (marked Product j q h a.within tt)
  marked part i r (spells.plus_sign {j = j} e f h) low b = let a = laws.token 43 t i j f in
      marked Product j r h a.within tt
  marked part i r (spells.no_sign e f h) low b = marked Product i r h low tt
  marked part i r (spells.sum_end e) low b = b
  marked part i r (spells.sum_more {k = k} {l = l} {x = x} {y = y} {op = op} e d h) low b =
      let a : LiesAhead t i k = sum_operator_ahead laws t i op k e in
      let z : LiesAhead t k l = ahead laws t Product k (Whole y l) d in
      marked (MoreSum (Bin op x y l)) l r h z.within (b, marked Product k (Whole y l) d a.within tt, z.within)
  marked part i r (spells.product_malformed {k = k} {x = x} {y = y} {op = op} e d) low b =
      let a : LiesAhead t i k = sum_operator_ahead laws t i op k e in
      (b, marked Product k (Malformed y) d a.within tt, a.within)
  marked part i r (spells.product {j = j} {x = x} d h) low b =
      let a : LiesAhead t i j = ahead laws t Factor i (Whole x j) d in
      marked (MoreProduct x) j r h a.within (marked Factor i (Whole x j) d low tt)
  marked part i r (spells.first_factor_malformed {x = x} d) low b = marked Factor i (Malformed x) d low tt
  marked part i r (spells.product_end e) low b = b
  marked part i r (spells.product_more {k = k} {l = l} {x = x} {y = y} {op = op} e d h) low b =
      let a : LiesAhead t i k = product_operator_ahead laws t i op k e in
      let z : LiesAhead t k l = ahead laws t Factor k (Whole y l) d in
      marked (MoreProduct (Bin op x y l)) l r h z.within (b, marked Factor k (Whole y l) d a.within tt, z.within)
  marked part i r (spells.factor_malformed {k = k} {x = x} {y = y} {op = op} e d) low b =
      let a : LiesAhead t i k = product_operator_ahead laws t i op k e in
      (b, marked Factor k (Malformed y) d a.within tt, a.within)
  marked part i r (spells.rnd {j = j} {r = q} e h) low b =
      let a = laws.word Functions t i RndKw j e in
      node_marked Rnd i j q (λ y l p q. (p, q)) a.within (paren_end j q h) (marked Paren j q h a.within tt)
  marked part i r (spells.abs {j = j} {r = q} e h) low b =
      let a = laws.word Functions t i AbsKw j e in
      node_marked Abs i j q (λ y l p q. (p, q)) a.within (paren_end j q h) (marked Paren j q h a.within tt)
  marked part i r (spells.size e) low b = tt
  marked part i r (spells.letter_variable e f h) low b = marked Variable i r h low tt
  marked part i r (spells.element_variable e f h) low b = marked Variable i r h low tt
  marked part i r (spells.number e f g h) low b = tt
  marked part i r (spells.number_too_big {j = j} e f g h) low b = let a = laws.number t i TooBig j h refl in a.within
  marked part i r (spells.paren e f g h d) low b = marked Paren i r d low tt
  marked part i r (spells.letter e) low b = tt
  marked part i r (spells.element {j = j} {r = q} e f h) low b =
      let a = laws.token 64 t i j f in
      node_marked Elem i j q (λ y l p q. (p, q)) a.within (paren_end j q h) (marked Paren j q h a.within tt)
  marked part i r (spells.no_variable e f) low b = low
  marked part i r (spells.closed {j = j} {k = k} {x = x} e d f) low b = let a = laws.token 40 t i j e in
      marked Expr j (Whole x k) d a.within tt
  marked part i r (spells.unclosed {j = j} {k = k} {x = x} e d f) low b =
      let a = laws.token 40 t i j e in
      let z : LiesAhead t j k = ahead laws t Expr j (Whole x k) d in
      (marked Expr j (Whole x k) d a.within tt, z.within)
  marked part i r (spells.inside_malformed {j = j} {x = x} e d) low b = let a = laws.token 40 t i j e in
      marked Expr j (Malformed x) d a.within tt
  marked part i r (spells.not_opened e) low b = low

  pub expression_marks : (i : ℕ) → i ≤ length t → MarksWithin (length t) (item_of (expression t i))
  expression_marks i low = marked Expr i (expression t i) (expression_spelled laws t i) low tt

  pub variable_marks : (i : ℕ) → i ≤ length t → MarksWithin (length t) (item_of (variable_tree t i))
  variable_marks i low = marked Variable i (variable_tree t i) (variable_tree_spelled laws t i) low tt
