-- This file defines how many answers a run can take.
-- Main definition: `most_answers`.
--     most_answers p input limit       no run of the program p takes more
--     answers_left p limit S           nor does it from the state S on
use Rattle.std.specs.Prelude.{ℕ, ◌+◌, ◌-◌, ◌*◌, List, length, sum_by}
use Rattle.ptb_text.specs.Statements.{Statements, StoredProgram}
use Rattle.ptb_expr.specs.Tree.{questions}
use Rattle.ptb_expr.specs.Reading.{item_of, expression}
use Rattle.ptb_command.specs.Commands.{Part, Assign, Say, Width, Show, NewLine, Take, Letter}
use Rattle.ptb_command.specs.Commands.{Operand, Defect, Command, commands}
use Rattle.ptb_command.specs.State.{State}

-- how often a part asks at most, except for the lines that it takes: once for each RND, and once for a line that isn't
-- there
abbrev pub part_questions : Part → ℕ
part_questions (Assign x y) = questions x + questions y
part_questions (Say s) = 0
part_questions (Width x m) = questions x
part_questions (Show x) = questions x
part_questions NewLine = 0
part_questions (Take said x prompt) = questions x + 1
part_questions (Letter x) = 0
part_questions (Operand x) = questions x
part_questions (Defect kind m) = 0

abbrev pub command_questions : Command → ℕ
command_questions c = sum_by part_questions (item_of c.parts)

abbrev pub text_questions : List ℕ → ℕ
text_questions t = sum_by command_questions (commands t)

abbrev pub line_questions : List ℕ → ℕ
line_questions l = questions (item_of (expression l 0))

abbrev pub program_questions : Statements → ℕ
program_questions p = sum_by (λ s. text_questions s.1) p

-- all of them: those of the statements, and the RNDs that input lines begin with
abbrev pub all_questions : Statements → List (List ℕ) → ℕ
all_questions p input = program_questions p + sum_by line_questions input

-- A step asks each of these at most once before its first line. Each line may ask them twice more: in what it says,
-- and when its item starts over.
abbrev pub most_answers : StoredProgram → List (List ℕ) → ℕ → ℕ
most_answers p input limit = all_questions p.lines input * (limit + 2 * length input)

-- each step that is left, and for each line that is left its own expression and once more the item that takes it
abbrev pub answers_left : StoredProgram → ℕ → State → ℕ
answers_left p limit S =
    program_questions p.lines * (limit - S.steps) + sum_by (λ l. line_questions l + program_questions p.lines) S.lines
