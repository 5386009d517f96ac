-- This file defines complete runs.
-- Main definition: `play`.
--     turn p limit S           the next thing that a run does
--     all_turns p limit S a    the last state of a run, and its ending there
--     run_from p rules S a     what is left of a run from the state S on
--     play p input rules a     the result of a run of the program p with the answers a
--     unasked_lines p input rules a    the lines of the input for which it doesn't ask
--     stopping_line p input rules a    the number of the statement in which its next command begins where it is over,
--                                      or asks
--     plain p input rules a    the bytes and the ending of a plain run
use Rattle.std.specs.Prelude.{ℕ, zero, suc, ◌-◌, nat_le, Bool, true, false, List, Option, Some, None, option_map}
use Rattle.ptb_text.specs.Statements.{Statements, StoredProgram}
use Rattle.ptb_answers.specs.Outcome.{Answers, Outcome, Done, Asks, Out, go_on, map_outcome}
use Rattle.ptb_answers.specs.declared.rules.Rules.{Rules}
use Rattle.ptb_command.specs.declared.ending.Ending.{Ending}
use Rattle.ptb_command.specs.declared.ending.Ending.TheVariants as endings
use Rattle.ptb_command.specs.Commands.{Command}
use Rattle.ptb_command.specs.State.{State, Place, first_state, next_command}
use Rattle.ptb_command.specs.Act.{StepResult, Next, Over, act}

-- ---- turns

abbrev pub act_unless : StoredProgram → Place × Command → Bool → State → Answers → Outcome StepResult State
act_unless p r true S a = Done (Over endings.Limit S) a
act_unless p r false S a = act p.lines r.0 r.1 S a

abbrev pub turn_by : StoredProgram → ℕ → Option (Place × Command) → State → Answers → Outcome StepResult State
turn_by p limit None S a = Done (Over endings.End S) a
turn_by p limit (Some r) S a = act_unless p r (nat_le limit S.steps) S a

-- a run ends where no command is next, or where the steps are the limit or more; else a command is done
unfoldable pub turn : StoredProgram → ℕ → State → Answers → Outcome StepResult State
turn p limit S a = turn_by p limit (next_command p.lines S.place) S a

-- ---- runs

-- the state in which a run is over
pub record FinalState : Type 0 where
  pub ending : Ending
  pub state : State

abbrev pub last_in : Ending → State → FinalState
last_in ending S = record { ending = ending; state = S }

-- the run continues, or is over
abbrev pub after_turn : (State → Answers → Outcome FinalState State) → StepResult → Answers → Outcome FinalState State
after_turn others (Next S) rest = others S rest
after_turn others (Over ending S) rest = Done (last_in ending S) rest

-- at most n turns
unfoldable pub turns_within : ℕ → StoredProgram → ℕ → State → Answers → Outcome FinalState State
turns_within zero p limit S a = Done (last_in endings.Limit S) a
turns_within (suc n) p limit S a = go_on (turn p limit S a) (after_turn (turns_within n p limit))

-- each turn after which a run continues is a step below the limit, so there are no more turns than these
unfoldable pub all_turns : StoredProgram → ℕ → State → Answers → Outcome FinalState State
all_turns p limit S a = turns_within (suc (limit - S.steps)) p limit S a

-- how a run ends: the commands begun, and all that was shown
pub record Finish : Type 0 where
  pub ending : Ending
  pub steps : ℕ
  pub shown : List ℕ

abbrev pub finish_in : Ending → State → Finish
finish_in ending S = record { ending = ending; steps = S.steps; shown = S.shown }

abbrev pub finish_of : FinalState → Finish
finish_of l = finish_in l.ending l.state

-- the result of all turns, as the end of a run is reported
unfoldable pub turns : StoredProgram → ℕ → State → Answers → Outcome Finish State
turns p limit S a = map_outcome finish_of (λ T. T) (all_turns p limit S a)

abbrev pub after_step_result : (State → Answers → Outcome Finish State) → StepResult → Answers → Outcome Finish State
after_step_result others (Next S) rest = others S rest
after_step_result others (Over ending S) rest = Done (finish_in ending S) rest

-- what is left of a run from a state on
abbrev pub run_from : StoredProgram → Rules → State → Answers → Outcome Finish (List ℕ)
run_from p rules S a = map_outcome (λ f. f) (λ (T : State). T.shown) (turns p rules.limit S a)

-- a question is accompanied by what was shown before it
unfoldable pub play : StoredProgram → List (List ℕ) → Rules → Answers → Outcome Finish (List ℕ)
play p input rules a = map_outcome (λ f. f) (λ S. S.shown) (turns p rules.limit (first_state p input rules.choose) a)

-- the state in which a run is over, or asks
abbrev pub last_state : Outcome FinalState State → State
last_state (Done l rest) = l.state
last_state (Asks n S) = S
last_state (Out n S) = S

-- a line that the run didn't ask for is among the lines of its last state
abbrev pub unasked_lines : StoredProgram → List (List ℕ) → Rules → Answers → List (List ℕ)
unasked_lines p input rules a = (last_state (all_turns p rules.limit (first_state p input rules.choose) a)).lines

-- the number of the statement in which the next command begins, at a place
abbrev pub next_number : Statements → Option Place → Option ℕ
next_number p place = option_map (λ (next : Place × Command). next.0.number) (next_command p place)

-- the same at the place of its last state
abbrev pub stopping_line : StoredProgram → List (List ℕ) → Rules → Answers → Option ℕ
stopping_line p input rules a =
    next_number p.lines (last_state (all_turns p rules.limit (first_state p input rules.choose) a)).place

-- ---- plain runs

abbrev pub plain_of : Outcome Finish (List ℕ) → List ℕ × Ending
plain_of (Done f rest) = (f.shown, f.ending)
plain_of (Asks n shown) = (shown, endings.NoAnswer)
plain_of (Out n shown) = (shown, endings.BadAnswer)

-- answers that are left over are not looked at
abbrev pub plain : StoredProgram → List (List ℕ) → Rules → Answers → List ℕ × Ending
plain p input rules a = plain_of (play p input rules a)

-- the number of an ending
abbrev pub status : Ending → ℕ
status endings.End = 0
status endings.Stop = 0
status endings.What = 1
status endings.How = 2
status endings.Sorry = 3
status endings.Limit = 4
status endings.NoInput = 5
status endings.NoAnswer = 6
status endings.BadAnswer = 7
