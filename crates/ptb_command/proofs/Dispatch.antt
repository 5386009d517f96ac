-- This file proves the result of a command by its word.
-- Main lemma: `acts_alone`.
use Rattle.std.proofs.Common.{◌≡◌, ℕ, List, [], ◌++◌, Option, Result, Ok, Err, ℤ, sym, subst, append-nil}
use Rattle.ptb_text.specs.declared.word.Word.{Word}
use Rattle.ptb_text.specs.Statements.{Statements}
use Rattle.ptb_answers.specs.declared.pause.Pause.{Pause}
use Rattle.ptb_answers.specs.Choices.{Choices}
use Rattle.ptb_text.specs.declared.device_fault.DeviceFault.{DeviceFault}
use Rattle.ptb_command.specs.declared.location.Location.{Location}
use Rattle.ptb_command.specs.declared.stop.CommandStop.{CommandStop}
use Rattle.ptb_command.specs.Commands.{command_of, parts_of}
use Rattle.ptb_command.specs.State.{Place}
use Rattle.ptb_command.specs.Actions.{Action}
use Rattle.ptb_command.specs.Act.{command_action}
use Rattle.ptb_command.specs.Places.{IsSamePlace}
use Rattle.ptb_command.specs.ReadCommands.{IsFirstWord}
use Rattle.ptb_command.specs.Devices.{ScreenState, Devices, devices, Refusal, Unanswered, Unread}
use Rattle.ptb_command.specs.Devices.{NoLine, refused_answers, refused_by}
use Rattle.ptb_command.specs.Configuration.{Configuration}
use Rattle.ptb_command.specs.Representation.{Begun}
use Rattle.ptb_command.specs.CommandOutcomes.{RefinesTo, Acts}
use Rattle.ptb_command.specs.Locations.{NextIs}
use Rattle.ptb_command.proofs.Stops.{stops_along}

-- ---- refusals

-- of the chooser alone
pub answers_refused : (refused : Pause → ℤ → Type 0) (unread : DeviceFault → Type 0) (lines : Option (List (List ℕ)))
    (r : Refusal)
    → refused_answers refused r → refused_by refused unread lines r
answers_refused refused unread lines (Unanswered z n) h = h
answers_refused refused unread lines (Unread f) h = absurd h
answers_refused refused unread lines NoLine h = absurd h

-- ---- commands

acts_more : {X : Type 0} (refused others : Refusal → Type 0) → ((r : Refusal) → refused r → others r)
    → (p : Statements) (m n : Configuration) (o d : Devices) (f : Action (Unit {0})) (r : Result X CommandStop)
    → Acts refused p m n o d f r → Acts others p m n o d f r
acts_more refused others more p m n o d f (Ok x) a = a
acts_more refused others more p m n o d f (Err e) a =
    stops_along refused others more (RefinesTo p m n o f) (RefinesTo p m n o f) (λ k g b. b) d e a

pub acts_word : {X : Type 0} (refused : Refusal → Type 0) (p : Statements) (m n : Configuration) (o d : Devices)
    (q : Place) (t : List ℕ) (i : ℕ) (word v : Word) (r : Result X CommandStop)
    → word ≡ v → Acts refused p m n o d (command_action p q (command_of v (parts_of v t i))) r
    → Acts refused p m n o d (command_action p q (command_of word (parts_of word t i))) r
acts_word refused p m n o d q t i word v r e a =
    subst (λ (x : Word). Acts refused p m n o d (command_action p q (command_of x (parts_of x t i))) r) (sym e) a

-- a command that takes no line
pub acts_alone : {X : Type 0} (refused others : Refusal → Type 0) → ((r : Refusal) → refused r → others r)
    → (p : Statements) (m n : Configuration) (o : Devices) (choices : Choices) (screen : ScreenState)
    (most : ℕ) (choose : Option ℤ) (before : List (List ℕ)) (q : Place) (t : List ℕ) (i : ℕ) (word v : Word)
    (r : Result X CommandStop)
    → word ≡ v
    → Acts refused p m n o (devices choices screen most choose before)
    (command_action p q (command_of v (parts_of v t i))) r
    → Acts others p m n o (devices choices screen most choose (before ++ []))
    (command_action p q (command_of word (parts_of word t i))) r
acts_alone refused others more p m n o choices screen most choose before q t i word v r e a =
    subst (λ (x : List (List ℕ)). Acts others p m n o (devices choices screen most choose x)
    (command_action p q (command_of word (parts_of word t i))) r) (sym (append-nil before))
    (acts_more refused others more p m n o (devices choices screen most choose before) _ r
    (acts_word refused p m n o (devices choices screen most choose before) q t i word v r e a))

-- ---- the next command

pub begun_next : (p : Statements) (o : Option Place) (here : Location) (t : List ℕ) (word : Word) (i : ℕ)
    (n : NextIs p o here t)
    → IsFirstWord t here.offset word i → Begun p n.place here.statement t word i
begun_next p o here t word i n f = record {
  statement = n.is.statement;
  text = n.text;
  start = here.offset;
  at = subst (λ (x : List ℕ). IsSamePlace x n.place.index here.offset) n.text n.is.at;
  more = n.more;
  command = f.command;
  from = f.from;
  within = f.within;
}
