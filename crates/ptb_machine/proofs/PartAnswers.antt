-- This file proves how many answers the parts of a command take at most.
-- Main lemma: `parts_spends`.
use Rattle.std.proofs.Common.{◌≡◌, ℕ, ◌+◌, ◌≤◌, List, [], ◌∷◌, ◌++◌, Option, Some, None, Result, Ok}
use Rattle.std.proofs.Common.{Err, refl, ap, arith}
use Rattle.std.specs.Prelude.{ℤ, sum_by}
use Rattle.std.specs.Fmt.{signed_decimal}
use Rattle.std.proofs.lemmas.List.Sums.{sum_by-cons}
use Rattle.ptb_expr.specs.declared.fault.Fault.{Fault}
use Rattle.ptb_expr.specs.declared.fault.FaultKind.{FaultKind}
use Rattle.ptb_expr.specs.declared.store.Target.{Target}
use Rattle.ptb_expr.specs.Tree.{Tree, questions}
use Rattle.ptb_answers.specs.Outcome.{IsReader}
use Rattle.ptb_expr.specs.Store.{Cells}
use Rattle.ptb_expr.specs.Reading.{item_of, expression}
use Rattle.ptb_expr.specs.Value.{Work, fault, random_number, value, target_of, or_fault}
use Rattle.ptb_answers.proofs.PublicLemmas.{success_reader, failure_reader}
use Rattle.ptb_expr.proofs.PublicLemmas.{random_number_reader}
use Rattle.ptb_expr.specs.Laws.{ValueLaws}
use Rattle.ptb_command.specs.Commands.{Part, Assign, Say, Width, Show, NewLine, Take, Letter, Operand, Defect}
use Rattle.ptb_command.specs.State.{State}
use Rattle.ptb_command.specs.Actions.{Progress, Goes, Halts, Action, on_progress, and_then, goes_on, show, work_action}
use Rattle.ptb_command.specs.Act.{newline, width_of, value_action, target_action, store, ask_for}
use Rattle.ptb_command.specs.Act.{store_or_again, without_line, input_action, parts_action}
use Rattle.ptb_machine.specs.Questions.{part_questions, line_questions}
use Rattle.ptb_machine.proofs.Budgets.{Budget, wider_budget, with_more, done_budget, then_budget}
use Rattle.ptb_machine.proofs.SpentAnswers.{left_for, Spends, wider_spends, change_spends}
use Rattle.ptb_machine.proofs.SpentAnswers.{goes_spends, halt_spends, then_spends, after_spends}
use Rattle.ptb_machine.proofs.SpentAnswers.{work_action_spends, evaluation_then, lines_cost}
use Rattle.ptb_machine.proofs.SpentAnswers.{lines_cost-cons, later}

or_fault_reader : {A : Type 0} (r : Result A FaultKind) (m : ℕ) → IsReader (or_fault r m) 0
or_fault_reader (Ok v) m = success_reader v 0
or_fault_reader (Err kind) m = failure_reader (fault kind m) 0

-- ---- INPUT

nothing : State → ℕ
nothing S = 0

-- what a line is worth
line_value : List ℕ → Cells → Work ℤ
line_value l c = value c (item_of (expression l 0))

-- ---- parts

-- how often parts ask at most, except for the lines that they take
unfoldable pub parts_questions : List Part → ℕ
parts_questions parts = sum_by part_questions parts

parts_questions-cons : (part : Part) (parts : List Part)
    → parts_questions (part ∷ parts) ≡ part_questions part + parts_questions parts
unfolding parts_questions
parts_questions-cons part parts = sum_by-cons part_questions part parts

module _ (values : ValueLaws) where
  value_spends : (cost : State → ℕ) (x : Tree) → Spends cost (value_action x) (questions x)
  value_spends cost x = work_action_spends cost (questions x) (λ c. value c x) (λ c. values.value_reads c x)

  target_spends : (cost : State → ℕ) (x : Tree) → Spends cost (target_action x) (questions x)
  target_spends cost x = work_action_spends cost (questions x) (λ c. target_of c x) (λ c. values.target_reads c x)

  ask_spends : (said : List ℕ) (x : Tree) (prompt : List ℕ) → Spends nothing (ask_for said x prompt) (questions x)
  unfolding nothing
  ask_spends said x prompt =
      after_spends nothing (show said) _ (questions x) (change_spends nothing 0 tt _ (λ S. omega arith)) (λ _.
      wider_spends nothing _ (questions x + 0) (questions x) (omega arith)
      (then_spends nothing (target_action x) (λ at. and_then (show prompt) (λ _. goes_on at)) (questions x) 0
      (target_spends nothing x) (λ at.
      after_spends nothing (show prompt) (λ _. goes_on at) 0 (change_spends nothing 0 tt _ (λ S. omega arith))
      (λ _. goes_spends nothing 0 at))))

  module _ (again : ℕ) where
    show_spends : (s : List ℕ) → Spends (later again) (show s) 0
    unfolding later
    show_spends s = change_spends _ 0 tt _ (λ S. omega arith)

    store_spends : (at : Target) (v : ℤ) → Spends (later again) (store at v) 0
    unfolding later
    store_spends at v = change_spends _ 0 tt _ (λ S. omega arith)

  module _ (again : ℕ) (said : List ℕ) (x : Tree) (prompt : List ℕ) (few : questions x + 1 ≤ again) where
    stored_or_again : (ls : List (List ℕ)) (at : Target) (r : Result ℤ Fault) (S : State) → S.lines ≡ ls
        → ((T : State) → T.lines ≡ ls → Budget (input_action said x prompt ls T) (questions x + 1 + lines_cost again ls)
        (left_for (later again)))
        → Budget (store_or_again at (input_action said x prompt ls) r S) (again + lines_cost again ls)
        (left_for (later again))
    unfolding left_for later
    stored_or_again ls at (Ok v) S same others = done_budget _ _ _ (omega (arith, ap (lines_cost again) same))
    stored_or_again ls at (Err f) S same others =
        wider_budget _ _ _ _ _ (omega arith) (λ y. omega arith) (others _ same)

    -- the target is found, and what comes next may ask k questions more
    after_ask : {B : Type 0} (next : Target → Action B) (k : ℕ) (S : State)
        → ((at : Target) (T : State) → Budget (next at T) k (left_for (later again)))
        → Budget (and_then (ask_for said x prompt) next S) (questions x + k) (left_for (later again))
    unfolding left_for nothing
    after_ask next k S each =
        then_budget (ask_for said x prompt S) (on_progress next) (questions x + k) (λ r. left_for nothing r + k)
        (left_for (later again))
        (wider_budget _ _ _ _ _ (omega arith) (λ y. omega arith)
        (with_more (ask_for said x prompt S) _ k _ ((ask_spends said x prompt).at S)))
        on_each
      where
        on_each : (r : Progress Target) → Budget (on_progress next r) (left_for nothing r + k) (left_for (later again))
        on_each (Goes at T) = wider_budget _ _ _ _ _ (omega arith) (λ y. omega arith) (each at T)
        on_each (Halts h T) = done_budget _ _ _ (omega arith)

    -- where no line is left one answer may be asked for
    without_spends : (choose : Option ℤ) (at : Target) → Spends (later again) (without_line choose at) 1
    without_spends None at = halt_spends (later again) 1 _
    without_spends (Some n) at =
        then_spends (later again) (work_action (λ _. random_number n 0))
        (λ v. and_then (show (signed_decimal v ++ newline)) (λ _. store at v)) 1 0
        (work_action_spends (later again) 1 (λ _. random_number n 0) (λ _. random_number_reader n 0)) (λ v.
        after_spends (later again) (show (signed_decimal v ++ newline)) (λ _. store at v) 0 (show_spends again _)
        (λ _. store_spends again at v))

    ask_again_spends : Spends (later again) (ask_for said x prompt) (questions x)
    ask_again_spends =
        after_spends (later again) (show said) _ (questions x) (show_spends again said) (λ _.
        wider_spends (later again) _ (questions x + 0) (questions x) (omega arith)
        (then_spends (later again) (target_action x) (λ at. and_then (show prompt) (λ _. goes_on at)) (questions x) 0
        (target_spends (later again) x) (λ at.
        after_spends (later again) (show prompt) (λ _. goes_on at) 0 (show_spends again prompt)
        (λ _. goes_spends (later again) 0 at))))

    lone_spends : Spends (later again) (and_then (ask_for said x prompt) (λ at S. without_line S.choose at S))
        (questions x + 1)
    lone_spends = then_spends _ (ask_for said x prompt) (λ at S. without_line S.choose at S)
        (questions x) 1 ask_again_spends (λ at. record { at = λ S. (without_spends S.choose at).at S })

    input_budget : (lines : List (List ℕ)) (S : State) → S.lines ≡ lines
        → Budget (input_action said x prompt lines S) (questions x + 1 + lines_cost again lines)
        (left_for (later again))
    unfolding input_action left_for line_value later
    input_budget [] S e = wider_budget _ _ _ _ _ (omega (arith, ap (lines_cost again) e)) (λ y. omega arith)
        (lone_spends.at S)
    input_budget (l ∷ ls) S e =
        let others = input_budget ls in
        wider_budget _ (questions x + (line_questions l + (again + lines_cost again ls))) _ _ _
        (omega (arith, lines_cost-cons again l ls)) (λ y. omega arith)
        (after_ask _ _ S (λ at T.
        evaluation_then (line_value l) (store_or_again at (input_action said x prompt ls)) _ (line_questions l) _
        (left_for (later again)) (values.value_reads T.cells (item_of (expression l 0)))
        (λ r. stored_or_again ls at r _ refl others)))

  module _ (again : ℕ) where
    take_spends : (said : List ℕ) (x : Tree) (prompt : List ℕ) → questions x + 1 ≤ again
        → Spends (later again) (λ S. input_action said x prompt S.lines S) (questions x + 1)
    unfolding later
    take_spends said x prompt few = record { at = λ S. input_budget again said x prompt few S.lines S refl }

    width_spends : (v : ℤ) (m : ℕ) → Spends (later again) (work_action (λ _. or_fault (width_of v) m)) 0
    width_spends v m = work_action_spends (later again) 0 (λ _. or_fault (width_of v) m)
        (λ _. or_fault_reader (width_of v) m)

    -- a part, and those after it
    part_and : {A : Type 0} (part : Part) (parts : List Part) (m : Action A) (next : A → Action (List ℤ))
        → Spends (later again) m (part_questions part)
        → ((x : A) → Spends (later again) (next x) (parts_questions parts))
        → Spends (later again) (and_then m next) (parts_questions (part ∷ parts))
    part_and part parts m next first others =
        wider_spends _ (and_then m next) (part_questions part + parts_questions parts) _
        (omega (arith, parts_questions-cons part parts)) (then_spends _ m next _ _ first others)

    fewer : (part : Part) (parts : List Part) → parts_questions (part ∷ parts) ≤ again
        → (part_questions part ≤ again) × (parts_questions parts ≤ again)
    fewer part parts h = let e = parts_questions-cons part parts in (omega arith, omega arith)

    pub parts_spends : (parts : List Part) (w : ℕ) (operands : List ℤ) → parts_questions parts ≤ again
        → Spends (later again) (parts_action parts w operands) (parts_questions parts)
    unfolding parts_action
    parts_spends [] w operands h = goes_spends _ _ operands
    parts_spends (Assign x y ∷ parts) w operands h =
        wider_spends _ _ (questions x + (questions y + parts_questions parts)) _
        (omega (arith, parts_questions-cons (Assign x y) parts))
        (then_spends _ (target_action x) _ _ _ (target_spends _ x) (λ at.
        then_spends _ (value_action y) _ _ _ (value_spends _ y) (λ v.
        after_spends _ (store at v) _ _ (store_spends again at v)
        (λ _. parts_spends parts w operands (fewer (Assign x y) parts h).1))))
    parts_spends (Say s ∷ parts) w operands h = part_and (Say s) parts (show s) _ (show_spends again s)
        (λ _. parts_spends parts w operands (fewer (Say s) parts h).1)
    parts_spends (Width x m ∷ parts) w operands h =
        part_and (Width x m) parts (value_action x) _ (value_spends _ x) (λ v.
        after_spends _ (work_action (λ _. or_fault (width_of v) m)) _ _ (width_spends v m)
        (λ u. parts_spends parts u operands (fewer (Width x m) parts h).1))
    parts_spends (Show x ∷ parts) w operands h =
        part_and (Show x) parts (value_action x) _ (value_spends _ x) (λ v.
        after_spends _ (show _) _ _ (show_spends again _)
        (λ _. parts_spends parts w operands (fewer (Show x) parts h).1))
    parts_spends (NewLine ∷ parts) w operands h = part_and NewLine parts (show newline) _ (show_spends again newline)
        (λ _. parts_spends parts w operands (fewer NewLine parts h).1)
    parts_spends (Take said x prompt ∷ parts) w operands h =
        part_and (Take said x prompt) parts (λ S. input_action said x prompt S.lines S) _
        (take_spends said x prompt (fewer (Take said x prompt) parts h).0)
        (λ _. parts_spends parts w operands (fewer (Take said x prompt) parts h).1)
    parts_spends (Letter x ∷ parts) w operands h =
        wider_spends _ (parts_action parts w operands) _ _ (omega (arith, parts_questions-cons (Letter x) parts))
        (parts_spends parts w operands (fewer (Letter x) parts h).1)
    parts_spends (Operand x ∷ parts) w operands h =
        part_and (Operand x) parts (value_action x) _ (value_spends _ x)
        (λ v. parts_spends parts w (operands ++ v ∷ []) (fewer (Operand x) parts h).1)
    parts_spends (Defect kind m ∷ parts) w operands h = halt_spends _ _ _
