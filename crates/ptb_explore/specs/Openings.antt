-- This file defines where an explorer is that was opened, and how many commands were played to open it.
-- Main definition: `first_front`.
--     first_front after                where it is: before the first run, or at the run of a list
--     IsRunWithPrefix play under list  the list is a run that begins with the answers of another
--     IsRefusedRun play under after m    a run is named, and m says why it is no run that begins so
--     IsPlayedBefore play under n    so many commands were played before the first run
--     IsPlayedFor play under after n     and in all, where it went to a run
use Rattle.std.specs.Prelude.{◌≡◌, ℕ, List, [], ◌∷◌, Option, Some, None}
use Rattle.ptb_answers.specs.Outcome.{Answers, Outcome}
use Rattle.ptb_answers.specs.declared.form.Marked.{Marked}
use Rattle.ptb_answers.specs.AnswerText.{answers_of}
use Rattle.ptb_machine.specs.Play.{Finish}
use Rattle.ptb_explore.specs.declared.mismatch.Mismatch.{Mismatch}
use Rattle.ptb_explore.specs.Explorations.{IsAdded, IsPlayed}
use Rattle.ptb_explore.specs.MarkedRuns.{IsMarkedRun}
use Rattle.ptb_explore.specs.Mismatch.{IsRunMismatch, HasPrefix}
use Rattle.ptb_machine.specs.RunTree.{Front, Start, At, IsNextRun}

abbrev pub first_front : Option (List Marked) → Front
first_front None = Start
first_front (Some list) = At (answers_of list)

module _ (play : Answers → Outcome Finish (List ℕ)) where
  pub record IsRunWithPrefix (under list : List Marked) : Type 0 where
    pub run : IsMarkedRun play list
    pub begins : HasPrefix under list

  abbrev pub IsRefusedRun : List Marked → Option (List Marked) → Mismatch → Type 0
  IsRefusedRun under None m = ⊥
  IsRefusedRun under (Some list) m = IsRunMismatch play under list m

  -- where all runs are listed nothing was, otherwise the first run that begins so
  abbrev pub IsPlayedBefore : List Marked → ℕ → Type 0
  IsPlayedBefore [] n = n ≡ 0
  IsPlayedBefore (m ∷ under) n = (a : Answers) → IsNextRun play (answers_of (m ∷ under)) Start a → IsPlayed play a n

  -- the run to which it went was played after that
  abbrev pub IsPlayedFor : List Marked → Option (List Marked) → ℕ → Type 0
  IsPlayedFor under None n = IsPlayedBefore under n
  IsPlayedFor under (Some list) n = (k : ℕ) × IsPlayedBefore under k × IsAdded play (answers_of list) k n
