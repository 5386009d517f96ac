-- This file defines the result of a command for an entire machine.
-- Main definition: `Acts`.
--     Refines p old new o n f g           from machine to machine and devices to devices, what f does is what is left
--                                         to do for g
--     Acts refused p old new o n f r   f has the result r
use Rattle.std.specs.Prelude.{◌≡◌, ℕ, List, ◌++◌, Result, Ok, Err}
use Rattle.ptb_text.specs.Statements.{Statements}
use Rattle.ptb_answers.specs.Outcome.{Answers, Outcome}
use Rattle.ptb_command.specs.declared.stop.CommandStop.{CommandStop}
use Rattle.ptb_command.specs.State.{State}
use Rattle.ptb_command.specs.Actions.{Action, goes_on}
use Rattle.ptb_command.specs.Devices.{Devices, Exchange, Exchanges, MayFollow, Refusal}
use Rattle.ptb_command.specs.Traces.{Leaves}
use Rattle.ptb_command.specs.Configuration.{Configuration}
use Rattle.ptb_command.specs.Representation.{Represents}
use Rattle.ptb_command.specs.Stops.{Stops}

-- from state S, what is left of f is g, in a state that the machine then represents
pub record Leads {A : Type 0} (p : Statements) (new : Configuration) (x : Exchange) (rest : List (List ℕ)) (S : State)
    (f : Answers → Outcome A State) (g : State → Answers → Outcome A State) : Type 0 where
  pub state : State
  pub leaves : Leaves f x.answers x.bounds (g state)
  pub represents : Represents p new state
  pub shown : state.shown ≡ S.shown ++ x.bytes
  pub lines : state.lines ≡ rest
  pub choose : state.choose ≡ S.choose

-- in every state that the old machine represents, and whose lines begin with those that are given, and have left what
-- may follow them
pub record Refines {A : Type 0} (p : Statements) (old new : Configuration) (o n : Devices) (f g : State → Answers
    → Outcome A State) : Type 0 where
  pub exchange : Exchange
  pub exchanges : Exchanges o n exchange
  pub leads :
      (S : State) (rest : List (List ℕ)) → Represents p old S → MayFollow n rest S.choose
      → S.lines ≡ exchange.given ++ rest
      → Leads p new exchange rest S (f S) g

-- with the old machine f has come to an action, with the new machine and these devices
abbrev pub RefinesTo : {A : Type 0} → Statements → Configuration → Configuration → Devices → Action A → Devices
    → Action A → Type 0
RefinesTo p old new o f d g = Refines p old new o d f g

abbrev pub Acts : {X : Type 0} → (Refusal → Type 0) → Statements → Configuration → Configuration → Devices → Devices
    → Action (Unit {0}) → Result X CommandStop → Type 0
Acts refused p old new o n f (Ok x) = Refines p old new o n f (goes_on tt)
Acts refused p old new o n f (Err e) = Stops refused (RefinesTo p old new o f) n e
