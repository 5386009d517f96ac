-- This file proves that working out a tree takes answers one by one, and at most as many as it has RNDs.
-- Main lemma: `value_laws`.
use Rattle.std.proofs.Common.{◌≡◌, ℕ, true, Result, Ok, Err, inl, inr, arith}
use Rattle.std.specs.Prelude.{ℤ, pos, ◌≤ℤ◌, int_le}
use Rattle.std.proofs.lemmas.Bool.{cases_Bool}
use Rattle.std.proofs.lemmas.Int.{ints}
use Rattle.ptb_expr.specs.declared.fault.FaultKind.{FaultKind}
use Rattle.ptb_expr.specs.declared.fault.FaultKind.TheVariants.{What, How}
use Rattle.ptb_expr.specs.declared.store.Target.TheVariants as targets
use Rattle.ptb_expr.specs.Tree.{Tree, Num, Var, Size, Elem, Rnd, Abs, Neg, Bin, Bad, Unclosed, questions}
use Rattle.ptb_expr.specs.Store.{Cells, value_at, index_of, element_of, map_ok}
use Rattle.ptb_answers.specs.Outcome.{answer, success, IsReader}
use Rattle.ptb_expr.specs.Value.{fault, or_fault, operation, negation, absolute_value, random_number, value, target_of}
use Rattle.ptb_expr.specs.Laws.{ValueLaws}
use Rattle.ptb_answers.proofs.PublicLemmas.{success_reader, failure_reader, answer_reader, then_reader}
use Rattle.ptb_answers.proofs.PublicLemmas.{bind_reader, bind_reader_alone}

pub or_fault_reader : {A : Type 0} (r : Result A FaultKind) (m : ℕ) → IsReader (or_fault r m) 0
or_fault_reader (Ok v) m = success_reader v 0
or_fault_reader (Err kind) m = failure_reader (fault kind m) 0

at_least_1 : (n : ℤ) → int_le (pos 1) n ≡ true → pos 1 ≤ℤ n
at_least_1 n h = grind (arith, ints)

pub random_number_reader : (n : ℤ) (m : ℕ) → IsReader (random_number n m) 1
unfolding random_number
random_number_reader n m = elim (cases_Bool (int_le (pos 1) n)) [
  | inl h ↦ rw h (then_reader (answer n tt) success 1 0 (answer_reader n tt (at_least_1 n h)) (λ k. success_reader k 0))
  | inr h ↦ rw h (failure_reader (fault How m) 1)
]

pub value_reader : (c : Cells) (x : Tree) → IsReader (value c x) (questions x)
unfolding value
value_reader c (Num v) = success_reader v 0
value_reader c (Var x) = success_reader (value_at c x) 0
value_reader c Size = success_reader c.size 0
value_reader c (Elem x m) = bind_reader_alone _ (value c x) (questions x) (value_reader c x)
    (λ i. or_fault_reader (element_of c i) m)
value_reader c (Rnd x m) = bind_reader _ (value c x) (questions x) 1 (value_reader c x) (λ n. random_number_reader n m)
value_reader c (Abs x m) = bind_reader_alone _ (value c x) (questions x) (value_reader c x)
    (λ v. or_fault_reader (absolute_value v) m)
value_reader c (Neg x m) = bind_reader_alone _ (value c x) (questions x) (value_reader c x)
    (λ v. or_fault_reader (negation v) m)
value_reader c (Bin op x y m) =
    bind_reader _ (value c x) (questions x) (questions y) (value_reader c x) (λ v. bind_reader_alone _ (value c y)
    (questions y) (value_reader c y) (λ w. or_fault_reader (operation op v w) m))
value_reader c (Bad kind m) = failure_reader (fault kind m) 0
value_reader c (Unclosed x m) = bind_reader_alone _ (value c x) (questions x) (value_reader c x)
    (λ v. failure_reader (fault What m) 0)

pub target_reader : (c : Cells) (x : Tree) → IsReader (target_of c x) (questions x)
unfolding target_of
target_reader c (Var x) = success_reader (targets.Var x) 0
target_reader c (Elem x m) = bind_reader_alone _ (value c x) (questions x) (value_reader c x)
    (λ i. or_fault_reader (map_ok targets.Element (index_of c.size i)) m)
target_reader c x = bind_reader_alone _ (value c x) (questions x) (value_reader c x)
    (λ v. failure_reader (fault What 0) 0)

pub value_laws : ValueLaws
value_laws = record { value_reads = value_reader; target_reads = target_reader }
