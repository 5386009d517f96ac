-- This file defines a statement as a list of commands. A command is its word and its parts in order.
-- Main definition: `commands`.
--     commands t               the commands of the statement text t
--     commands_from t i        those from place i on
--     command_at t i           the command at place i; LET where there is no word
--     parts_of word t i        the parts of a command whose word ends at i
use Rattle.std.specs.Prelude.{ℕ, Bool, true, false, ◌||◌, is_some, if◌then◌else◌, List, [], ◌∷◌}
use Rattle.std.specs.Prelude.{◌++◌, reverse, Option, Some, None, slice_range, pos}
use Rattle.ptb_text.specs.declared.word.Table.TheVariants.{Commands, To, Step}
use Rattle.ptb_text.specs.declared.word.Word.{Word}
use Rattle.ptb_text.specs.declared.word.Word.TheVariants.{NextKw, LetKw, IfKw, GotoKw, GosubKw}
use Rattle.ptb_text.specs.declared.word.Word.TheVariants.{ReturnKw, RemKw, ForKw, InputKw, PrintKw}
use Rattle.ptb_text.specs.declared.word.Word.TheVariants.{StopKw}
use Rattle.ptb_text.specs.Statements.{trim_start}
use Rattle.ptb_text.specs.Words.{past_blanks, is_over, word_at, token_at, letter_at, Quotation}
use Rattle.ptb_text.specs.Words.{NoQuote, OpenQuote, QuotedText, quotation_at}
use Rattle.ptb_expr.specs.declared.fault.FaultKind.{FaultKind}
use Rattle.ptb_expr.specs.declared.fault.FaultKind.TheVariants.{What}
use Rattle.ptb_expr.specs.Tree.{Tree, Num, Var, Bad}
use Rattle.ptb_expr.specs.Reading.{Reading, Whole, Malformed, item_of, after, map_reading, expression, variable_tree}
use Rattle.ptb_command.specs.Items.{Round, Last, Onward, in_front, items}

pub data Part : Type 0 where
  -- a value is stored
  Assign : (target value : Tree) → Part
  -- these bytes are shown
  Say : (s : List ℕ) → Part
  -- a value becomes the width of those shown after it
  Width : (x : Tree) (mark : ℕ) → Part
  Show : (x : Tree) → Part
  NewLine : Part
  -- a string is shown, then a prompt, and a line of the input is stored
  Take : (said : List ℕ) (target : Tree) (prompt : List ℕ) → Part
  -- the variable of a loop
  Letter : (letter : ℕ) → Part
  -- a value that the command uses
  Operand : (x : Tree) → Part
  -- a part that must be there and isn't, or something that mustn't be there
  Defect : (kind : FaultKind) (mark : ℕ) → Part

-- the parts are malformed where one of them is, and nothing is read after it; else the place after them is known
pub record Command : Type 0 where
  pub kind : Word
  pub parts : Reading (List Part)

-- ---- ends

-- the text is over, or `;` is next
abbrev pub command_ends : List ℕ → ℕ → Bool
command_ends t i = is_over t i || is_some (token_at 59 t i)

-- something other than what must be at i
abbrev pub defect : ℕ → Reading (List Part)
defect i = Malformed (Defect What i ∷ [])

-- a command ends at i
abbrev pub end_check : List ℕ → ℕ → Reading (List Part)
end_check t i = if command_ends t i then Whole [] i else defect i

-- the text is over at i
abbrev pub over_check : List ℕ → ℕ → Reading (List Part)
over_check t i = if is_over t i then Whole [] i else defect i

-- a part made of a tree, and after a whole one the parts after it
abbrev pub part_and : (Tree → Part) → Reading Tree → (ℕ → Reading (List Part)) → Reading (List Part)
part_and node r next = after r (λ x. node x ∷ []) (λ x j. in_front (node x) (next j))

-- after one of several parts: a comma and the next part, or the end
abbrev pub after_part : List ℕ → Part → ℕ → Option ℕ → Round Part
after_part t part i (Some j) = Onward part j
after_part t part i None = Last (in_front part (end_check t i))

-- parts with commas between them
abbrev pub comma_round : List ℕ → Reading Part → Round Part
comma_round t (Whole part i) = after_part t part i (token_at 44 t i)
comma_round t (Malformed part) = Last (Malformed (part ∷ []))

-- ---- LET

-- after the variable, which ends at i: `=` and the value
abbrev pub value_part : List ℕ → Tree → ℕ → Option ℕ → Reading Part
value_part t x i (Some j) = map_reading (Assign x) (expression t j)
value_part t x i None = Malformed (Assign x (Bad What i))

-- V=E; where the variable is malformed no value is looked at
unfoldable pub assignment : List ℕ → ℕ → Reading Part
assignment t i = after (variable_tree t i) (λ x. Assign x (Bad What i)) (λ x j. value_part t x j (token_at 61 t j))

-- ---- PRINT

-- `_` stands for a byte 13
abbrev pub or_quotation : Option ℕ → Quotation → Quotation
or_quotation (Some j) q = QuotedText (13 ∷ []) j
or_quotation None q = q

-- a string, or `_`
unfoldable pub string_at : List ℕ → ℕ → Quotation
string_at t i = or_quotation (token_at 95 t i) (quotation_at t i)

abbrev pub string_or_value : List ℕ → ℕ → Quotation → Reading Part
string_or_value t i (QuotedText s j) = Whole (Say s) j
string_or_value t i OpenQuote = Malformed (Defect What i)
string_or_value t i NoQuote = map_reading Show (expression t i)

abbrev pub width_or : List ℕ → ℕ → Option ℕ → Reading Part
width_or t i (Some j) = after (expression t j) (λ x. Width x j) (λ x k. Whole (Width x k) k)
width_or t i None = string_or_value t i (string_at t i)

-- #E, a string, `_` or a value
unfoldable pub print_item : List ℕ → ℕ → Reading Part
print_item t i = width_or t i (token_at 35 t i)

-- after a comma: the line stays open, or the next item
abbrev pub next_item : List ℕ → Part → ℕ → Bool → Round Part
next_item t part j true = Last (Whole (part ∷ []) j)
next_item t part j false = Onward part j

abbrev pub after_item : List ℕ → Part → ℕ → Option ℕ → Round Part
after_item t part i (Some j) = next_item t part j (command_ends t j)
after_item t part i None = Last (in_front part (in_front NewLine (end_check t i)))

abbrev pub item_round : List ℕ → Reading Part → Round Part
item_round t (Whole part i) = after_item t part i (token_at 44 t i)
item_round t (Malformed part) = Last (Malformed (part ∷ []))

abbrev pub print_parts_if : List ℕ → ℕ → Bool → Reading (List Part)
print_parts_if t i true = Whole (NewLine ∷ []) i
print_parts_if t i false = items t (λ j. item_round t (print_item t j)) i

-- a newline alone, or items
unfoldable pub print_parts : List ℕ → ℕ → Reading (List Part)
print_parts t i = print_parts_if t i (command_ends t i)

-- ---- INPUT

-- whether a variable begins there
abbrev pub variable_begins : List ℕ → ℕ → Bool
variable_begins t i = is_some (letter_at t i) || is_some (token_at 64 t i)

-- the text from i to j, without the blanks at its ends
abbrev pub source : List ℕ → ℕ → ℕ → List ℕ
source t i j = reverse (trim_start (reverse (slice_range t (past_blanks t i) j)))

-- a variable, whose source is its prompt
abbrev pub variable_item : List ℕ → ℕ → Bool → Reading Part
variable_item t i true = after (variable_tree t i) (λ x. Take [] x [])
    (λ x j. Whole (Take [] x (source t i j ++ 58 ∷ [])) j)
variable_item t i false = Malformed (Defect What i)

-- a string, and a variable where one follows it
abbrev pub string_item : List ℕ → List ℕ → ℕ → Bool → Reading Part
string_item t s j true = map_reading (λ x. Take s x (58 ∷ [])) (variable_tree t j)
string_item t s j false = Whole (Say s) j

abbrev pub input_item_by : List ℕ → ℕ → Quotation → Reading Part
input_item_by t i (QuotedText s j) = string_item t s j (variable_begins t j)
input_item_by t i OpenQuote = Malformed (Defect What i)
input_item_by t i NoQuote = variable_item t i (variable_begins t i)

unfoldable pub input_item : List ℕ → ℕ → Reading Part
input_item t i = input_item_by t i (string_at t i)

-- ---- FOR and NEXT

abbrev pub step_by : List ℕ → ℕ → Option (Word × ℕ) → Reading (List Part)
step_by t i (Some w) = part_and Operand (expression t w.1) (end_check t)
step_by t i None = in_front (Operand (Num (pos 1))) (end_check t i)

-- after the limit: the step, which is 1 where STEP isn't written
unfoldable pub step_parts : List ℕ → ℕ → Reading (List Part)
step_parts t i = step_by t i (word_at Step t i)

abbrev pub limit_by : List ℕ → ℕ → Option (Word × ℕ) → Reading (List Part)
limit_by t i (Some w) = part_and Operand (expression t w.1) (step_parts t)
limit_by t i None = Malformed (Operand (Bad What i) ∷ [])

-- after the first value: TO and the limit
unfoldable pub limit_parts : List ℕ → ℕ → Reading (List Part)
limit_parts t i = limit_by t i (word_at To t i)

-- after the variable, which ends at i: `=` and the first value
abbrev pub first_parts : List ℕ → ℕ → ℕ → Option ℕ → Reading (List Part)
first_parts t x i (Some j) = part_and (Assign (Var x)) (expression t j) (limit_parts t)
first_parts t x i None = Malformed (Assign (Var x) (Bad What i) ∷ [])

abbrev pub for_by : List ℕ → ℕ → Option (ℕ × ℕ) → Reading (List Part)
for_by t i (Some x) = in_front (Letter x.0) (first_parts t x.0 x.1 (token_at 61 t x.1))
for_by t i None = defect i

unfoldable pub for_parts : List ℕ → ℕ → Reading (List Part)
for_parts t i = for_by t i (letter_at t i)

abbrev pub next_by : List ℕ → ℕ → Option (ℕ × ℕ) → Reading (List Part)
next_by t i (Some x) = in_front (Letter x.0) (end_check t x.1)
next_by t i None = defect i

unfoldable pub next_parts : List ℕ → ℕ → Reading (List Part)
next_parts t i = next_by t i (letter_at t i)

-- the variable of these parts, which is the first of them; 0 where there is none
abbrev pub letter_of : List Part → ℕ
letter_of (Letter x ∷ parts) = x
letter_of _ = 0

-- ---- all commands

unfoldable pub parts_of : Word → List ℕ → ℕ → Reading (List Part)
parts_of RemKw t i = Whole [] i
parts_of ReturnKw t i = over_check t i
parts_of StopKw t i = over_check t i
parts_of PrintKw t i = print_parts t i
parts_of InputKw t i = items t (λ j. comma_round t (input_item t j)) i
parts_of IfKw t i = part_and Operand (expression t i) (Whole [])
parts_of GotoKw t i = part_and Operand (expression t i) (over_check t)
parts_of GosubKw t i = part_and Operand (expression t i) (end_check t)
parts_of ForKw t i = for_parts t i
parts_of NextKw t i = next_parts t i
parts_of _ t i = items t (λ j. comma_round t (assignment t j)) i

abbrev pub command_of : Word → Reading (List Part) → Command
command_of kind parts = record { kind = kind; parts = parts }

abbrev pub command_by : List ℕ → ℕ → Option (Word × ℕ) → Command
command_by t i (Some w) = command_of w.0 (parts_of w.0 t w.1)
command_by t i None = command_of LetKw (parts_of LetKw t i)

unfoldable pub command_at : List ℕ → ℕ → Command
command_at t i = command_by t i (word_at Commands t i)

-- where the next command of the statement begins, after one that ends at e
abbrev pub next_start : Word → List ℕ → ℕ → Option ℕ
next_start RemKw t e = None
next_start GotoKw t e = None
next_start ReturnKw t e = None
next_start StopKw t e = None
next_start IfKw t e = Some e
next_start _ t e = token_at 59 t e

abbrev pub command_and : Command → ℕ → Option ℕ → Round Command
command_and c e (Some j) = Onward c j
command_and c e None = Last (Whole (c ∷ []) e)

abbrev pub after_command : List ℕ → Command → Reading (List Part) → Round Command
after_command t c (Whole parts e) = command_and c e (next_start c.kind t e)
after_command t c (Malformed parts) = Last (Malformed (c ∷ []))

abbrev pub command_unless : List ℕ → ℕ → Bool → Round Command
command_unless t i true = Last (Whole [] i)
command_unless t i false = after_command t (command_at t i) (command_at t i).parts

-- after the last command, or a malformed one, nothing more is read
unfoldable pub command_round : List ℕ → ℕ → Round Command
command_round t i = command_unless t i (is_over t i)

unfoldable pub commands_from : List ℕ → ℕ → List Command
commands_from t i = item_of (items t (command_round t) i)

abbrev pub commands : List ℕ → List Command
commands t = commands_from t 0
