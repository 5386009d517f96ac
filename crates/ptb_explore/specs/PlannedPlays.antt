-- This file defines the result of a run that is played with the answers of a plan, and 1 to each question after them.
-- Main definition: `PlayEnds`.
--     Holds play c left                      what a chooser holds, and what of the play is left to be done
--     NextIsOutside play c bound             the plan's next answer is outside the bound of its question
--     PlayEnds play c bound steps shown ending    the play has this ending; the bound is that of the question where an
--                                                 answer is outside it
--     play_steps p input rules a             how many commands a play begins until it is over, or asks
--     limited rules n                        the same rules with the limit n
--     IsRunPrefix p input rules c shown left m    with what a chooser holds, a run has come to where a machine is
use Rattle.std.specs.Prelude.{◌≡◌, ℕ, ◌≤◌, List, ◌∷◌, ◌++◌, false, Some, ℤ}
use Rattle.ptb_text.specs.Statements.{StoredProgram}
use Rattle.ptb_answers.specs.Outcome.{Answers, Outcome, Done, Asks, Out, bounds, is_answer}
use Rattle.ptb_answers.specs.Choices.{Choices}
use Rattle.ptb_command.specs.declared.ending.Ending.{Ending}
use Rattle.ptb_command.specs.declared.ending.Ending.TheVariants as endings
use Rattle.ptb_command.specs.State.{State, first_state}
use Rattle.ptb_command.specs.Configuration.{Configuration}
use Rattle.ptb_command.specs.Representation.{Represents}
use Rattle.ptb_answers.specs.declared.rules.Rules.{Rules}
use Rattle.ptb_machine.specs.Play.{Finish, play, run_from, turns}
use Rattle.ptb_machine.specs.RunEffects.{steps_of_run}

module _ {A W : Type 0} (play : Answers → Outcome A W) where
  -- the bounds of the answers that were taken are kept, and what is left does what play does after them
  pub record Holds (c : Choices) (left : Answers → Outcome A W) : Type 0 where
    pub bounds_are : c.kept ≡ Some (bounds play c.taken)
    pub rest : (later : Answers) → play (c.taken ++ later) ≡ left later

  -- so no list of answers that begins with the plan is played to an end
  pub record NextIsOutside (c : Choices) (bound : ℤ) : Type 0 where
    pub next : ℤ
    pub later : Answers
    pub plan_is : c.plan ≡ c.taken ++ next ∷ later
    pub bounds_are : c.kept ≡ Some (bounds play c.taken)
    pub beside : W
    pub asks : play c.taken ≡ Asks bound beside
    pub outside : is_answer bound next ≡ false
    pub out : play c.plan ≡ Out bound beside

-- it never lacks an answer
abbrev pub PlayEnds : (Answers → Outcome Finish (List ℕ)) → Choices → ℤ → ℕ → List ℕ → Ending → Type 0
PlayEnds play c bound steps shown endings.NoAnswer = ⊥
PlayEnds play c bound steps shown endings.BadAnswer = NextIsOutside play c bound
PlayEnds play c bound steps shown ending =
    Holds play c (λ later. Done (record { ending = ending; steps = steps; shown = shown }) later)

-- ---- how far it is played

-- a command that asks is begun
abbrev pub play_steps : StoredProgram → List (List ℕ) → Rules → Answers → ℕ
play_steps p input rules a = steps_of_run (turns p rules.limit (first_state p input rules.choose) a)

-- ---- a run that is underway

abbrev pub limited : Rules → ℕ → Rules
limited rules n = record rules { limit = n }

-- a run was begun, and with what the chooser holds it has come to where the machine is
pub record IsRunPrefix (p : StoredProgram) (input : List (List ℕ)) (rules : Rules) (c : Choices) (shown : List ℕ)
    (left : List (List ℕ)) (m : Configuration) : Type 0 where
  pub state : State
  pub represents : Represents p.lines m state
  pub shown_is : state.shown ≡ shown
  pub left_is : state.lines ≡ left
  pub choose : state.choose ≡ rules.choose
  pub holds : Holds (play p input rules) c (run_from p rules state)
  pub within : state.steps ≤ rules.limit
  -- under each limit that isn't less than the steps, these are the turns to the state, and then those after it
  pub reached :
      (limit : ℕ) → state.steps ≤ limit → (later : Answers)
      → turns p limit (first_state p input rules.choose) (c.taken ++ later) ≡ turns p limit state later
