-- This file proves that a run takes its answers one by one, and how many it takes at most.
-- Main lemma: `play_reader`.
use Rattle.std.proofs.Common.{◌≡◌, ℕ, zero, suc, ◌+◌, ◌-◌, ◌*◌, ◌<◌, ◌≤◌, Bool, true, false, leb}
use Rattle.std.proofs.Common.{List, [], ◌∷◌, length, Option, Some, None, refl, ap, subst, arith}
use Rattle.std.specs.Prelude.{ℤ, sum_by}
use Rattle.std.proofs.lemmas.Bool.{leb-false}
use Rattle.std.proofs.lemmas.List.Sums.{sum_by-cons}
use Rattle.ptb_text.specs.Statements.{Statements, StoredProgram}
use Rattle.ptb_answers.specs.Outcome.{Answers, Outcome, Done, map_outcome, IsReader}
use Rattle.ptb_expr.specs.Reading.{item_of}
use Rattle.ptb_answers.proofs.PublicLemmas.{done_reader, then_reader_by, map_reader, wider_reader}
use Rattle.ptb_expr.specs.Laws.{ValueLaws}
use Rattle.ptb_command.specs.Commands.{Command, letter_of}
use Rattle.ptb_command.specs.State.{Place, State, first_state, text_of, next_command}
use Rattle.ptb_command.specs.Actions.{Faults, Ends, Progress, Goes, Halts}
use Rattle.ptb_command.specs.Act.{finish, end_of, first_width, command_action, action_of}
use Rattle.ptb_command.specs.Act.{StepResult, Next, Over, step_result_of, with_step, act}
use Rattle.ptb_answers.specs.declared.rules.Rules.{Rules}
use Rattle.ptb_machine.specs.Questions.{command_questions, line_questions, most_answers, answers_left}
use Rattle.ptb_machine.specs.Play.{FinalState, act_unless, turn_by, turn, after_turn, turns_within}
use Rattle.ptb_machine.specs.Play.{all_turns, finish_of, turns, play}
use Rattle.ptb_command.specs.Effects.{act_state, CommandChange}
use Rattle.ptb_command.proofs.PublicLemmas.{act_keeps}
use Rattle.ptb_machine.proofs.Budgets.{Budget, wider_budget, done_budget, map_budget}
use Rattle.ptb_machine.proofs.SpentAnswers.{left_for, Spends, wider_spends, then_spends, lines_cost, later}
use Rattle.ptb_machine.proofs.PartAnswers.{parts_questions, parts_spends}
use Rattle.ptb_machine.proofs.EndAnswers.{finish_spends}
use Rattle.ptb_machine.proofs.ProgramQuestions.{program_rnds, next_questions}

-- ---- turns

-- after the last turn nothing is asked
left_after : (State → ℕ) → StepResult → ℕ
left_after cost (Next S) = cost S
left_after cost (Over ending S) = 0

module _ (values : ValueLaws) where
  module _ (again : ℕ) where
    command_spends : (p : Statements) (q : Place) (c : Command) → command_questions c ≤ again
        → Spends (later again) (command_action p q c) (command_questions c)
    unfolding command_action parts_questions
    command_spends p q c h =
        wider_spends _ _ (command_questions c + 0) _ (omega arith)
        (then_spends _ (action_of (item_of c.parts))
        (finish c.kind p q (end_of c.parts) (letter_of (item_of c.parts))) (command_questions c) 0
        (parts_spends values again (item_of c.parts) first_width [] h)
        (finish_spends again c.kind p q (end_of c.parts) (letter_of (item_of c.parts))))

    step_result_left : (n : ℕ) (text : List ℕ) (r : Progress (Unit {0}))
        → left_after (later again) (step_result_of n text r) ≤ left_for (later again) r
    unfolding left_after left_for
    step_result_left n text (Goes x S) = omega arith
    step_result_left n text (Halts (Faults f) S) = omega arith
    step_result_left n text (Halts (Ends ending) S) = omega arith

    act_budget : (p : Statements) (q : Place) (c : Command) (S : State) → command_questions c ≤ again
        → Budget (act p q c S) (command_questions c + later again S) (left_after (later again))
    unfolding act later
    act_budget p q c S h =
        map_budget (step_result_of q.number (text_of p q.number)) (λ T. T) (command_action p q c (with_step S)) _
        (left_after (later again))
        (wider_budget _ _ _ (left_for (later again)) _ (omega arith) (step_result_left q.number (text_of p q.number))
        ((command_spends p q c h).at (with_step S)))

    -- what the turns from a state on can cost
    turns_cost : ℕ → State → ℕ
    turns_cost limit S = again * (limit - S.steps) + later again S

    below_limit : (limit : ℕ) (S T : State) → S.steps < limit → T.steps ≡ S.steps + 1
        → turns_cost limit T + again + later again S ≡ turns_cost limit S + later again T
    unfolding turns_cost
    below_limit limit S T h e =
        let one : limit - S.steps ≡ (limit - T.steps) + 1 = omega arith in
        omega (arith, ap (λ n. again * n) one)

    -- a step is paid for
    step_paid : (limit : ℕ) (S : State) → S.steps < limit → again + later again S ≤ turns_cost limit S
    unfolding turns_cost
    step_paid limit S h =
        let one : limit - S.steps ≡ (limit - S.steps - 1) + 1 = omega arith in
        omega (arith, ap (λ n. again * n) one)

    act_turn : (p : Statements) (limit : ℕ) (r : Place × Command) (S : State) → S.steps < limit
        → command_questions r.1 ≤ again → Budget (act p r.0 r.1 S) (turns_cost limit S) (left_after (turns_cost limit))
    unfolding left_after
    act_turn p limit r S l h =
        let b = act_budget p r.0 r.1 S h in
        let e = step_paid limit S l in
        record {
          reads = wider_reader (act p r.0 r.1 S) _ _ (omega arith) b.reads;
          pays = λ q rest d e. by_step_result q rest d e (b.pays q rest d e);
        }
      where
        by_step_result : (q rest : Answers) (d : StepResult) → act p r.0 r.1 S q ≡ Done d rest
            → length q + left_after (later again) d ≤ command_questions r.1 + later again S + length rest
            → length q + left_after (turns_cost limit) d ≤ turns_cost limit S + length rest
        by_step_result q rest (Next T) e u =
            let c = subst (λ (o : Outcome StepResult State). CommandChange (with_step S) (act_state o)) e
            (act_keeps p r.0 r.1 S q) in
            omega (arith, below_limit limit S T l c.steps)
        by_step_result q rest (Over ending T) e u = omega (arith, step_paid limit S l)

    unless_budget : (p : StoredProgram) (limit : ℕ) (r : Place × Command) (S : State) (b : Bool) → leb limit S.steps ≡ b
        → command_questions r.1 ≤ again
        → Budget (act_unless p r b S) (turns_cost limit S) (left_after (turns_cost limit))
    unfolding left_after
    unless_budget p limit r S true e h = done_budget _ _ _ (omega arith)
    unless_budget p limit r S false e h = act_turn p.lines limit r S (leb-false limit S.steps e) h

    by_budget : (p : StoredProgram) (limit : ℕ) (o : Option (Place × Command)) (S : State)
        → ((r : Place × Command) → o ≡ Some r → command_questions r.1 ≤ again)
        → Budget (turn_by p limit o S) (turns_cost limit S) (left_after (turns_cost limit))
    unfolding left_after
    by_budget p limit None S h = done_budget _ _ _ (omega arith)
    by_budget p limit (Some r) S h = unless_budget p limit r S (leb limit S.steps) refl (h r refl)

  module _ (p : StoredProgram) (limit : ℕ) where
    -- what the turns of this program can cost
    cost_of : State → ℕ
    cost_of S = turns_cost (program_rnds p.lines) limit S

    turn_budget : (S : State) → Budget (turn p limit S) (cost_of S) (left_after cost_of)
    unfolding turn cost_of
    turn_budget S = by_budget (program_rnds p.lines) p limit (next_command p.lines S.place) S
        (next_questions p.lines S.place)

    -- ---- runs

    step_result_reader : (others : State → Answers → Outcome FinalState State)
        → ((T : State) → IsReader (others T) (cost_of T)) → (d : StepResult)
        → IsReader (after_turn others d) (left_after cost_of d)
    unfolding left_after
    step_result_reader others each (Next T) = each T
    step_result_reader others each (Over ending T) = done_reader _ _

    within_reader : (n : ℕ) (S : State) → IsReader (turns_within n p limit S) (cost_of S)
    unfolding turns_within
    within_reader zero S = done_reader _ _
    within_reader (suc n) S =
        let b = turn_budget S in
        then_reader_by (turn p limit S) (after_turn (turns_within n p limit)) (cost_of S) (cost_of S)
        (left_after cost_of) b.reads (omega arith) b.pays
        (step_result_reader (turns_within n p limit) (λ T. within_reader n T))

    turns_reader : (S : State) → IsReader (turns p limit S) (cost_of S)
    unfolding turns all_turns
    turns_reader S =
        map_reader (map_outcome finish_of (λ (T : State). T)) finish_of (λ T. T) (λ x rest. refl) (λ n v. refl)
        (λ n v. refl) (all_turns p limit S) _ (within_reader (suc (limit - S.steps)) S)

  pub turns_read : (p : StoredProgram) (limit : ℕ) (S : State) → IsReader (turns p limit S) (answers_left p limit S)
  unfolding cost_of turns_cost later lines_cost program_rnds
  turns_read p limit S = turns_reader p limit S

  -- ---- the first state

  lines_cost-is : (again : ℕ) (input : List (List ℕ))
      → lines_cost again input ≡ sum_by line_questions input + again * length input
  unfolding lines_cost
  lines_cost-is again [] = omega arith
  lines_cost-is again (l ∷ ls) = omega (
    arith,
    lines_cost-is again ls,
    sum_by-cons line_questions l ls,
    sum_by-cons (λ l. line_questions l + again) l ls,
  )

  -- where there are RNDs in lines there are lines
  some_line : (input : List (List ℕ)) → sum_by line_questions input ≤ sum_by line_questions input * length input
  some_line [] = omega arith
  some_line (l ∷ ls) = omega arith

  first_is : (p : StoredProgram) (input : List (List ℕ)) (limit : ℕ) (choose : Option ℤ)
      → cost_of p limit (first_state p input choose) ≡ program_rnds p.lines * limit + lines_cost
      (program_rnds p.lines) input
  unfolding cost_of turns_cost later
  first_is p input limit choose =
      let none : limit - 0 ≡ limit = omega arith in
      ap (λ n. program_rnds p.lines * n + lines_cost (program_rnds p.lines) input) none

  bound_is : (p : StoredProgram) (input : List (List ℕ)) (limit : ℕ)
      → (program_rnds p.lines + sum_by line_questions input) * (limit + 2 * length input) ≡ most_answers p input limit
  unfolding program_rnds
  bound_is p input limit = refl

  -- the RNDs of the program are asked again for each step and each line, those of a line once
  enough : (program lines number limit : ℕ) → lines ≤ lines * number
      → program * limit + (lines + program * number) ≤ (program + lines) * (limit + 2 * number)
  enough program lines number limit h = omega arith

  first_cost : (p : StoredProgram) (input : List (List ℕ)) (limit : ℕ) (choose : Option ℤ)
      → cost_of p limit (first_state p input choose) ≤ most_answers p input limit
  first_cost p input limit choose =
      let all : cost_of p limit (first_state p input choose)
      ≡ program_rnds p.lines * limit + lines_cost (program_rnds p.lines) input = first_is p input limit choose in
      let bound : (program_rnds p.lines + sum_by line_questions input) * (limit + 2 * length input)
      ≡ most_answers p input limit = bound_is p input limit in
      omega (
        arith,
        lines_cost-is (program_rnds p.lines) input,
        enough (program_rnds p.lines)
            (sum_by line_questions input) (length input) limit (some_line input),
      )

  pub play_reader : (p : StoredProgram) (input : List (List ℕ)) (rules : Rules)
      → IsReader (play p input rules) (most_answers p input rules.limit)
  unfolding play
  play_reader p input rules =
      wider_reader (play p input rules) _ _ (first_cost p input rules.limit rules.choose)
      (map_reader (map_outcome (λ f. f) (λ (S : State). S.shown)) (λ f. f) (λ S. S.shown) (λ x rest. refl)
      (λ n v. refl) (λ n v. refl) (turns p rules.limit (first_state p input rules.choose)) _
      (turns_reader p rules.limit (first_state p input rules.choose)))
