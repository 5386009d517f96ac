-- This file states the laws of actions and runs.
-- Main definitions: `EffectLaws` and `RunLaws`.
--     EffectLaws       what actions, commands, turns and runs may change
--     RunLaws          how a run continues
use Rattle.std.specs.Prelude.{◌≡◌, ℕ, ◌+◌, ◌-◌, ◌<◌, ◌≤◌, List, Option, ℤ}
use Rattle.ptb_text.specs.declared.word.Word.{Word}
use Rattle.ptb_text.specs.Statements.{Statements, StoredProgram}
use Rattle.ptb_expr.specs.Tree.{Tree}
use Rattle.ptb_answers.specs.Outcome.{Answers, Done, go_on, IsReader}
use Rattle.ptb_command.specs.Commands.{Part, Command}
use Rattle.ptb_command.specs.State.{State, Place, first_state, nesting, nesting_limit}
use Rattle.ptb_command.specs.Act.{Next, input_action, parts_action, finish, command_action, with_step, act}
use Rattle.ptb_answers.specs.declared.rules.Rules.{Rules}
use Rattle.ptb_machine.specs.Play.{turn, after_turn, turns_within, all_turns, last_state}
use Rattle.ptb_machine.specs.Play.{after_step_result, turns, play}
use Rattle.ptb_machine.specs.Questions.{most_answers, answers_left}
use Rattle.ptb_command.specs.Effects.{action_state, act_state, Begins, PartChange, EndChange, CommandChange}
use Rattle.ptb_machine.specs.RunEffects.{run_shown, steps_of_run, TurnChange}

-- ---- what may change

-- Whatever comes of it, a question too: what was shown stays shown, lines are taken from the first on, a command is
-- one step, and no loop or call opens past the limit.
pub record EffectLaws : Type 0 where
  pub input :
      (said : List ℕ) (x : Tree) (prompt : List ℕ) (lines : List (List ℕ)) (S : State) (a : Answers)
      → PartChange S (action_state (input_action said x prompt lines S a))
  pub parts :
      (parts : List Part) (w : ℕ) (operands : List ℤ) (S : State) (a : Answers)
      → PartChange S (action_state (parts_action parts w operands S a))
  pub end :
      (kind : Word) (p : Statements) (q : Place) (e x : ℕ) (operands : List ℤ) (S : State) (a : Answers)
      → EndChange S (action_state (finish kind p q e x operands S a))
  pub command :
      (p : Statements) (q : Place) (c : Command) (S : State) (a : Answers)
      → CommandChange S (action_state (command_action p q c S a))
  pub step :
      (p : Statements) (q : Place) (c : Command) (S : State) (a : Answers)
      → CommandChange (with_step S) (act_state (act p q c S a))
  pub turn :
      (p : StoredProgram) (limit : ℕ) (S : State) (a : Answers)
      → TurnChange limit S (act_state (turn p limit S a))
  pub run :
      (p : StoredProgram) (limit : ℕ) (S : State) (a : Answers)
      → Begins S.shown (run_shown (turns p limit S a))
  pub all_turns :
      (p : StoredProgram) (limit : ℕ) (S : State) (a : Answers)
      → TurnChange limit S (last_state (all_turns p limit S a))
  pub first : (p : StoredProgram) (input : List (List ℕ)) (choose : Option ℤ)
      → nesting (first_state p input choose) ≤ nesting_limit

-- ---- runs

pub record RunLaws : Type 0 where
  -- a turn that continues is a step below the limit
  pub one_step :
      (p : StoredProgram) (limit : ℕ) (S T : State) (a rest : Answers)
      → turn p limit S a ≡ Done (Next T) rest → (S.steps < limit) × (T.steps ≡ S.steps + 1)
  -- a run is one turn, and then the turns after it
  pub by_turn :
      (p : StoredProgram) (limit : ℕ) (S : State) (a : Answers)
      → turns p limit S a ≡ go_on (turn p limit S a) (after_step_result (turns p limit))
  -- and so are the turns to its last state
  pub last_by_turn :
      (p : StoredProgram) (limit : ℕ) (S : State) (a : Answers)
      → all_turns p limit S a ≡ go_on (turn p limit S a) (after_turn (all_turns p limit))
  pub enough_turns :
      (n : ℕ) (p : StoredProgram) (limit : ℕ) (S : State) (a : Answers) → limit - S.steps < n
      → turns_within n p limit S a ≡ all_turns p limit S a
  -- a run begins no more commands than the limit says
  pub within_limit :
      (p : StoredProgram) (limit : ℕ) (S : State) (a : Answers)
      → S.steps ≤ limit → steps_of_run (turns p limit S a) ≤ limit
  -- Answers are taken one by one, each where it is asked for and within its bound, and at most so many of them:
  -- what a run does with the first answers doesn't depend on later ones.
  pub reads :
      (p : StoredProgram) (input : List (List ℕ)) (rules : Rules)
      → IsReader (play p input rules) (most_answers p input rules.limit)
  pub reads_on : (p : StoredProgram) (limit : ℕ) (S : State) → IsReader (turns p limit S) (answers_left p limit S)
