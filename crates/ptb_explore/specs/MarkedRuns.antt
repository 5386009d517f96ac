-- This file defines when a list of answers, of which some may have bounds, is a run.
-- Main definition: `IsMarkedRun`.
--     states_bounds list bounds    whether each bound that is stated is that of the question
--     IsMarkedRun play list        the answers are a run, and each bound that is stated is that of its question
--     IsMarkedBeginning play list  a run begins with the answers, and each bound that is stated is that of its question
use Rattle.std.specs.Prelude.{◌≡◌, List, [], ◌∷◌, Bool, true, false, ◌&&◌, Option, Some, None, ℤ}
use Rattle.std.specs.Ordering.{int_eq}
use Rattle.ptb_answers.specs.Outcome.{Answers, Outcome, bounds, is_open}
use Rattle.ptb_answers.specs.declared.form.Marked.{Marked}
use Rattle.ptb_answers.specs.AnswerText.{answers_of}
use Rattle.ptb_machine.specs.RunTree.{IsRun}

-- where none is stated, any is right
abbrev pub is_bound : Option ℤ → ℤ → Bool
is_bound None n = true
is_bound (Some stated) n = int_eq stated n

-- the first bound is that of the first question, and so on
abbrev pub states_bounds : List Marked → List ℤ → Bool
states_bounds [] bounds = true
states_bounds (m ∷ list) [] = false
states_bounds (m ∷ list) (n ∷ bounds) = is_bound m.bound n && states_bounds list bounds

abbrev pub IsMarkedRun : {A W : Type 0} → (Answers → Outcome A W) → List Marked → Type 0
IsMarkedRun play list = IsRun play (answers_of list) × (states_bounds list (bounds play (answers_of list)) ≡ true)

-- a run begins with the answers where they are one, or a question comes after them
abbrev pub IsMarkedBeginning : {A W : Type 0} → (Answers → Outcome A W) → List Marked → Type 0
IsMarkedBeginning play list = (is_open (play (answers_of list)) ≡ true)
    × (states_bounds list (bounds play (answers_of list)) ≡ true)
