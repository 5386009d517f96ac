-- This file proves what holds of every ending.
-- Main lemmas: `every_ending` and `of_turn`.
use Rattle.std.proofs.Common.{Some, Ok}
use Rattle.ptb_answers.specs.Outcome.{Answers, Outcome}
use Rattle.ptb_command.specs.State.{State}
use Rattle.ptb_command.specs.Act.{StepResult}
use Rattle.ptb_command.specs.Devices.{Devices, Refusal}
use Rattle.ptb_machine.specs.TurnResults.{ends, StepComes}
use Rattle.ptb_command.specs.declared.ending.Ending.{Ending}
use Rattle.ptb_command.specs.declared.ending.Ending.TheVariants as endings

-- what holds of each ending by its name holds of every ending
pub every_ending : (P : Ending → Type 0) → P endings.End → P endings.Stop → P endings.What → P endings.How
    → P endings.Sorry → P endings.Limit → P endings.NoInput → P endings.NoAnswer → P endings.BadAnswer
    → (e : Ending) → P e
every_ending P a b c d f g h i j endings.End = a
every_ending P a b c d f g h i j endings.Stop = b
every_ending P a b c d f g h i j endings.What = c
every_ending P a b c d f g h i j endings.How = d
every_ending P a b c d f g h i j endings.Sorry = f
every_ending P a b c d f g h i j endings.Limit = g
every_ending P a b c d f g h i j endings.NoInput = h
every_ending P a b c d f g h i j endings.NoAnswer = i
every_ending P a b c d f g h i j endings.BadAnswer = j

-- what follows of each turn follows of the last one of a run, however it ended
pub of_turn : {P : Type 0} (refused : Refusal → Type 0) (R : Devices → (State → Answers → Outcome StepResult State) →
    Type 0)
    (n : Devices) → ((g : State → Answers → Outcome StepResult State) → R n g → P) → (e : Ending)
    → StepComes refused R n (Ok (Some e)) → P
of_turn refused R n f endings.End x = f (ends endings.End) x
of_turn refused R n f endings.Stop x = f (ends endings.Stop) x
of_turn refused R n f endings.What x = f (ends endings.What) x
of_turn refused R n f endings.How x = f (ends endings.How) x
of_turn refused R n f endings.Sorry x = f (ends endings.Sorry) x
of_turn refused R n f endings.Limit x = f (ends endings.Limit) x
of_turn refused R n f endings.NoInput w = f w.left w.comes
of_turn refused R n f endings.NoAnswer w = f w.left w.comes
of_turn refused R n f endings.BadAnswer w = f w.1.left w.1.comes
