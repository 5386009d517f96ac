-- This file states which endings a run can have.
-- Main definition: `EndingLaws`.
--     IsRunEnding choose ending    play that isn't short of answers can end so
--     EndingLaws               play ends in no other way, whatever the answers
use Rattle.std.specs.Prelude.{◌≡◌, ℕ, List, ℤ, Option, None}
use Rattle.ptb_text.specs.Statements.{StoredProgram}
use Rattle.ptb_answers.specs.Outcome.{Answers, Done}
use Rattle.ptb_command.specs.declared.ending.Ending.{Ending}
use Rattle.ptb_command.specs.declared.ending.Ending.TheVariants as endings
use Rattle.ptb_answers.specs.declared.rules.Rules.{Rules}
use Rattle.ptb_machine.specs.Play.{Finish, play}

-- all but those of a plain run that has no answer, or a bad one; and for lack of a line only where no answers are taken
-- instead of lines
abbrev pub IsRunEnding : Option ℤ → Ending → Type 0
IsRunEnding choose endings.NoAnswer = ⊥
IsRunEnding choose endings.BadAnswer = ⊥
IsRunEnding choose endings.NoInput = choose ≡ None
IsRunEnding choose _ = Unit {0}

pub record EndingLaws : Type 0 where
  pub ends :
      (p : StoredProgram) (input : List (List ℕ)) (rules : Rules) (a rest : Answers) (f : Finish)
      → play p input rules a ≡ Done f rest → IsRunEnding rules.choose f.ending
