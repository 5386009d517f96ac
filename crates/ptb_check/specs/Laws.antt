-- This file states that the mistakes of a program are all those that its runs can meet in its text.
-- Main definition: `CheckLaws`.
--     IsReported p q c         the command c, whose place is q, has no mistake, or its mistake is one of the program's
--     IsJumpNowhere p c        the command c is a jump to a written number that no statement has
--     FaultsAt p S             so it is with the command that is next in the state S
--     CodeMistakeLaws          the code of a command has its mistake
--     CheckLaws                so it is with the command at which a run ends with a fault
use Rattle.std.specs.Prelude.{◌≡◌, ◌⊎◌, ℕ, ℤ, List, [], ◌∷◌, ◌++◌, Some, None}
use Rattle.ptb_text.specs.declared.word.Word.{Word}
use Rattle.ptb_text.specs.declared.word.Word.TheVariants.{GotoKw, GosubKw}
use Rattle.ptb_text.specs.Statements.{Statements, StoredProgram}
use Rattle.ptb_answers.specs.Outcome.{Answers, Done}
use Rattle.ptb_answers.specs.declared.rules.Rules.{Rules}
use Rattle.ptb_expr.specs.declared.fault.Fault.{Fault}
use Rattle.ptb_expr.specs.declared.fault.FaultKind.{FaultKind}
use Rattle.ptb_expr.specs.declared.fault.FaultKind.TheVariants.{How}
use Rattle.ptb_expr.specs.Reading.{Whole, item_of}
use Rattle.ptb_expr.specs.Tree.{Num}
use Rattle.ptb_expr.specs.Value.{fault}
use Rattle.ptb_command.specs.Act.{ending_of}
use Rattle.ptb_command.specs.Code.{Code, IsCodeOf}
use Rattle.ptb_command.specs.Commands.{Command, Operand, command_of, parts_of}
use Rattle.ptb_command.specs.State.{Place, State, first_state, next_command, command_there, statement, text_of}
use Rattle.ptb_machine.specs.Play.{all_turns, Finish, play, last_state}
use Rattle.ptb_check.specs.CodeMistakes.{code_mistake}
use Rattle.ptb_check.specs.Mistakes.{command_mistake, mistakes}

-- ---- the mistake of a command

-- x is in the list
pub record IsAmong {X : Type 0} (xs : List X) (x : X) : Type 0 where
  pub before : List X
  pub after : List X
  pub split : xs ≡ before ++ x ∷ after

pub record IsMistakeOf (p : Statements) (q : Place) (c : Command) : Type 0 where
  pub fault : Fault
  pub is : command_mistake p c ≡ Some fault
  pub reported : IsAmong (mistakes p) (record { number = q.number; text = text_of p q.number; fault = fault })

-- it is well formed, and no jump to a written number that no statement has
pub record IsFaultless (p : Statements) (c : Command) : Type 0 where
  pub end : ℕ
  pub whole : c.parts ≡ Whole (item_of c.parts) end
  pub clean : command_mistake p c ≡ None

abbrev pub IsReported : Statements → Place → Command → Type 0
IsReported p q c = IsFaultless p c ⊎ IsMistakeOf p q c

-- the number is all that is after GOTO or GOSUB, and it ends at `end`
pub record IsJumpNowhere (p : Statements) (c : Command) : Type 0 where
  pub number : ℤ
  pub end : ℕ
  pub kind : (c.kind ≡ GotoKw) ⊎ (c.kind ≡ GosubKw)
  pub whole : c.parts ≡ Whole (Operand (Num number) ∷ []) end
  pub nowhere : statement p number ≡ None

-- ---- the command at which a run ends

abbrev pub end_state : StoredProgram → List (List ℕ) → Rules → Answers → State
end_state p input rules a = last_state (all_turns p rules.limit (first_state p input rules.choose) a)

pub record FaultsAt (p : Statements) (S : State) : Type 0 where
  pub place : Place
  pub command : Command
  pub next : next_command p S.place ≡ Some (place, command)
  pub reported : IsReported p place command

-- the mistake of a command is that of its code
pub record CodeMistakeLaws : Type 0 where
  pub code :
      (p : Statements) (t : List ℕ) (word : Word) (i : ℕ) (code : Code) → IsCodeOf t word i code
      → code_mistake p code.steps code.operations ≡ command_mistake p (command_of word (parts_of word t i))

pub record CheckLaws : Type 0 where
  -- each command of the program has no mistake, or its mistake is one of the program's
  pub commands :
      (p : Statements) (q : Place) (c : Command) → command_there p q ≡ Some c → IsReported p q c
  -- HOW, at its end, is one for each jump to a written number that no statement has
  pub jumps :
      (p : Statements) (q : Place) (c : Command) → command_there p q ≡ Some c → (jump : IsJumpNowhere p c)
      → IsAmong (mistakes p) (record { number = q.number; text = text_of p q.number; fault = fault How jump.end })
  -- and so is the one at whose place a run ends with WHAT, HOW or SORRY
  pub runs :
      (p : StoredProgram) (input : List (List ℕ)) (rules : Rules) (a rest : Answers) (f : Finish) (kind : FaultKind)
      → play p input rules a ≡ Done f rest → f.ending ≡ ending_of kind → FaultsAt p.lines (end_state p input rules a)
