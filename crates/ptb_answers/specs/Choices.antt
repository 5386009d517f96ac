-- This file defines what a chooser holds, and what a call that asks it does.
-- Main definition: `Choices`.
--     Choices                       the plan, the answers given so far, and their bounds where these are kept
--     with_answers ts bs c          the same after more answers with these bounds
--     AnswerList, choices_of l      a list of answers, of which some were given, and what it holds as a chooser
--     RefusedByList                 why it refuses one
--     Reaches f c d g               between c and d answers were given, and what f was is what g is for all later
--                                   answers
--     Pauses refused f c d z        f came to a question that the chooser refused
use Rattle.std.specs.Prelude.{◌≡◌, ℕ, false, List, [], ◌∷◌, ◌++◌, length, take, Option, Some, None}
use Rattle.std.specs.Prelude.{option_map, slice_get, ℤ}
use Rattle.ptb_answers.specs.declared.pause.Pause.{Pause}
use Rattle.ptb_answers.specs.declared.pause.Pause.TheVariants.{Ended, OutOfRange, Memory}
use Rattle.ptb_answers.specs.Outcome.{Answers, Outcome, Asks, Out, is_answer}

-- ---- what a chooser holds

-- the plan is what a chooser was made with, as a list of numbers: its answers, or its seed; no call changes it
pub record Choices : Type 0 where
  pub plan : List ℤ
  pub taken : Answers
  pub kept : Option (List ℤ)

-- kept bounds grow by these, where bounds are kept
abbrev pub with_bounds : List ℤ → Option (List ℤ) → Option (List ℤ)
with_bounds bs kept = option_map (λ ks. ks ++ bs) kept

abbrev pub with_answers : Answers → List ℤ → Choices → Choices
with_answers ts bs c = record { plan = c.plan; taken = c.taken ++ ts; kept = with_bounds bs c.kept }

-- an answer that is refused as out of range is none
abbrev pub IsOutside : Pause → ℤ → Type 0
IsOutside Ended n = Unit {0}
IsOutside (OutOfRange g) n = is_answer n g ≡ false
IsOutside Memory n = Unit {0}

-- a list of answers, and how many of them were given
pub record AnswerList : Type 0 where
  pub answers : List ℤ
  pub given : ℕ

-- such a list keeps no bounds
abbrev pub choices_of : AnswerList → Choices
choices_of l = record { plan = l.answers; taken = take l.given l.answers; kept = None }

-- why a list of answers, of which some were given, refuses one: it is used up, or its next answer isn't one; never
-- for lack of memory
abbrev pub RefusedByList : List ℤ → ℕ → Pause → ℤ → Type 0
RefusedByList answers given Ended n = given ≡ length answers
RefusedByList answers given (OutOfRange g) n = (slice_get answers given ≡ Some g) × (is_answer n g ≡ false)
RefusedByList answers given Memory n = ⊥

-- ---- calls that ask

-- each of the answers was taken where f, after the answers before it, asks with the bound at its place
abbrev pub AsksFor : {A W : Type 0} → (Answers → Outcome A W) → Answers → List ℤ → Type 0
AsksFor f [] [] = Unit {0}
AsksFor f [] (n ∷ bs) = ⊥
AsksFor f (k ∷ ts) [] = ⊥
AsksFor {W = W} f (k ∷ ts) (n ∷ bs) = ((w : W) × (f [] ≡ Asks n w)) × AsksFor (λ a. f (k ∷ a)) ts bs

-- between two states of a chooser f took answers, and what is left of it is g
pub record Reaches {A W : Type 0} (f : Answers → Outcome A W) (c d : Choices) (g : Answers → Outcome A W) : Type 0 where
  pub answers : Answers
  pub bounds : List ℤ
  pub grown : d ≡ with_answers answers bounds c
  pub asked : AsksFor f answers bounds
  pub rest : (λ later. f (answers ++ later)) ≡ g

-- with an answer that was refused as out of range, g is out
abbrev pub SaysOut : {A W : Type 0} → (Answers → Outcome A W) → ℤ → W → Pause → Type 0
SaysOut g n w Ended = Unit {0}
SaysOut g n w (OutOfRange k) = (later : Answers) → g (k ∷ later) ≡ Out n w
SaysOut g n w Memory = Unit {0}

-- f came to a question that the chooser refused
pub record Pauses {A W : Type 0} (refused : Pause → ℤ → Type 0) (f : Answers
    → Outcome A W) (c d : Choices) (z : Pause) : Type 0 where
  pub left : Answers → Outcome A W
  pub bound : ℤ
  pub beside : W
  pub reaches : Reaches f c d left
  pub asks : left [] ≡ Asks bound beside
  pub refuses : refused z bound
  pub outside : SaysOut left bound beside z
