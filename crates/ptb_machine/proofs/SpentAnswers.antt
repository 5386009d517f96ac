-- This file proves how actions that follow one another spend answers.
--     Spends cost m k      m asks k questions at most, beside what the states in which it begins and ends cost
--     later again S        what the lines that a state has left can cost
-- Main lemmas: `work_action_spends` and `then_spends`.
use Rattle.std.proofs.Common.{◌≡◌, ℕ, ◌+◌, ◌≤◌, List, ◌∷◌, Result, Ok, Err, refl, ap, arith}
use Rattle.std.specs.Prelude.{sum_by}
use Rattle.std.proofs.lemmas.List.Sums.{sum_by-cons}
use Rattle.ptb_expr.specs.declared.fault.Fault.{Fault}
use Rattle.ptb_answers.specs.Outcome.{Outcome, Done, Asks, Out, go_on, map_outcome, IsReader}
use Rattle.ptb_expr.specs.Store.{Cells}
use Rattle.ptb_expr.specs.Value.{Work}
use Rattle.ptb_command.specs.State.{State}
use Rattle.ptb_command.specs.Actions.{Halt, Progress, Goes, Halts, Action, on_progress, and_then}
use Rattle.ptb_command.specs.Actions.{goes_on, halt, change, evaluation, or_halt, work_action}
use Rattle.ptb_machine.specs.Questions.{line_questions}
use Rattle.ptb_machine.proofs.Budgets.{Budget, same_budget, wider_budget, with_more, reader_budget}
use Rattle.ptb_machine.proofs.Budgets.{done_budget, then_budget, map_budget}

-- ---- actions that ask k questions at most, beside what the state in which they begin costs

-- after a halt nothing is asked
unfoldable pub left_for : {A : Type 0} → (State → ℕ) → Progress A → ℕ
left_for cost (Goes x S) = cost S
left_for cost (Halts halt S) = 0

pub record Spends {A : Type 0} (cost : State → ℕ) (m : Action A) (k : ℕ) : Type 0 where
  pub at : (S : State) → Budget (m S) (k + cost S) (left_for cost)

pub wider_spends : {A : Type 0} (cost : State → ℕ) (m : Action A) (k j : ℕ) → k ≤ j → Spends cost m k → Spends cost m j
wider_spends cost m k j h s = record { at = λ S. wider_budget (m S) _ _ _ _ (omega arith) (λ x. omega arith) (s.at S) }

-- a state that costs no more is reached at once
pub change_spends : {A : Type 0} (cost : State → ℕ) (k : ℕ) (x : A) (f : State → State)
    → ((S : State) → cost (f S) ≤ cost S) → Spends cost (λ S a. Done (Goes x (f S)) a) k
unfolding left_for
change_spends cost k x f less = record { at = λ S. done_budget _ _ _ (omega (arith, less S)) }

pub goes_spends : {A : Type 0} (cost : State → ℕ) (k : ℕ) (x : A) → Spends cost (goes_on x) k
goes_spends cost k x = change_spends cost k x (λ S. S) (λ S. omega arith)

pub halt_spends : {A : Type 0} (cost : State → ℕ) (k : ℕ) (h : Halt) → Spends cost (halt {A = A} h) k
unfolding left_for
halt_spends cost k h = record { at = λ S. done_budget _ _ _ (omega arith) }

pub then_spends : {A B : Type 0} (cost : State → ℕ) (m : Action A) (next : A → Action B) (k j : ℕ) → Spends cost m k
    → ((x : A) → Spends cost (next x) j) → Spends cost (and_then m next) (k + j)
unfolding left_for
then_spends cost m next k j first each = record {
  at = λ S.
      then_budget (m S) (on_progress next) (k + j + cost S) (λ r. left_for cost r + j) (left_for cost)
      (wider_budget (m S) _ _ _ _ (omega arith) (λ x. omega arith) (with_more (m S) _ j _ (first.at S)))
      on_each;
}
  where
    on_each : (r : Progress _) → Budget (on_progress next r) (left_for cost r + j) (left_for cost)
    on_each (Goes x T) = wider_budget (next x T) _ _ _ _ (omega arith) (λ y. omega arith) ((each x).at T)
    on_each (Halts h T) = done_budget _ _ _ (omega arith)

-- the same where the first action asks nothing
pub after_spends : {A B : Type 0} (cost : State → ℕ) (m : Action A) (next : A → Action B) (k : ℕ) → Spends cost m 0
    → ((x : A) → Spends cost (next x) k) → Spends cost (and_then m next) k
after_spends cost m next k first each =
    wider_spends cost (and_then m next) (0 + k) k (omega arith) (then_spends cost m next 0 k first each)

pub evaluation_spends : {A : Type 0} (cost : State → ℕ) (k : ℕ) (m : Cells → Work A) → ((c : Cells) → IsReader (m c) k)
    → Spends cost (evaluation m) k
unfolding left_for
evaluation_spends cost k m reads = record {
  at = λ S. map_budget (λ r. Goes r S) (λ _. S) (m S.cells) _ _
      (reader_budget (m S.cells) k (cost S) (reads S.cells));
}

pub or_halt_spends : {A : Type 0} (cost : State → ℕ) (r : Result A Fault) → Spends cost (or_halt r) 0
or_halt_spends cost (Ok v) = goes_spends cost 0 v
or_halt_spends cost (Err f) = halt_spends cost 0 _

pub work_action_spends : {A : Type 0} (cost : State → ℕ) (k : ℕ) (m : Cells → Work A) → ((c : Cells) → IsReader (m c) k)
    → Spends cost (work_action m) k
work_action_spends cost k m reads = wider_spends cost (work_action m) (k + 0) k (omega arith)
    (then_spends cost (evaluation m) or_halt k 0 (evaluation_spends cost k m reads) (or_halt_spends cost))

-- what is worked out changes nothing, so what comes next begins in the same state
pub evaluation_then : {A B : Type 0} (m : Cells → Work A) (next : Result A Fault → Action B) (S : State) (k j : ℕ)
    (left : Progress B → ℕ)
    → IsReader (m S.cells) k → ((r : Result A Fault) → Budget (next r S) j left)
    → Budget (and_then (evaluation m) next S) (k + j) left
evaluation_then m next S k j left reads each =
    same_budget (and_then (evaluation m) next S) (λ a. go_on (map_outcome (λ r. r) (λ _. S) (m S.cells a))
    (λ r. next r S))
    (k + j) left (λ a. same (m S.cells a))
    (then_budget _ (λ r. next r S) (k + j) (λ _. j) left
    (map_budget (λ r. r) (λ _. S) (m S.cells) (k + j) (λ _. j) (reader_budget (m S.cells) k j reads)) each)
  where
    same : (o : Outcome (Result _ Fault) (Unit {0}))
        → go_on (map_outcome (λ r. r) (λ _. S) o) (λ r. next r S)
        ≡ go_on (map_outcome (λ r. Goes r S) (λ _. S) o) (on_progress next)
    same (Done r rest) = refl
    same (Asks n w) = refl
    same (Out n w) = refl

-- ---- lines

-- what lines can cost: each the answers of its own expression, and those of the item that is done again
unfoldable pub lines_cost : ℕ → List (List ℕ) → ℕ
lines_cost again lines = sum_by (λ l. line_questions l + again) lines

pub lines_cost-cons : (again : ℕ) (l : List ℕ) (ls : List (List ℕ))
    → lines_cost again (l ∷ ls) ≡ line_questions l + again + lines_cost again ls
unfolding lines_cost
lines_cost-cons again l ls = sum_by-cons (λ l. line_questions l + again) l ls

-- the lines that a state has left
unfoldable pub later : ℕ → State → ℕ
later again S = lines_cost again S.lines

-- a state with the same lines is reached at once
pub become_spends : (again : ℕ) (f : State → State) → ((S : State) → (f S).lines ≡ S.lines)
    → Spends (later again) (change f) 0
unfolding later
become_spends again f same = change_spends _ 0 tt f (λ S. omega (arith, ap (lines_cost again) (same S)))
