-- This file defines what a command does.
-- Main definition: `act`.
--     parts_action parts w operands    the parts of a command, one after the other
--     finish kind p q ..               what a command does once its parts are done
--     act p q c                        an entire command, whose fault is reported
use Rattle.std.specs.Prelude.{ℕ, ◌+◌, ◌-◌, Bool, true, false, not, ◌||◌, ◌==◌, nat_le}
use Rattle.std.specs.Prelude.{if◌then◌else◌, List, [], ◌∷◌, ◌++◌, length, take, drop, filter}
use Rattle.std.specs.Prelude.{replicate, slice_index, Option, Some, None, Result, Ok, Err}
use Rattle.std.specs.Prelude.{ℤ, pos, negsuc, neg_ℤ, ◌+ℤ◌, int_lt, codes, decimal}
use Rattle.std.specs.List.{slice_index_or}
use Rattle.std.specs.Ordering.{int_eq}
use Rattle.std.specs.Fmt.{signed_decimal}
use Rattle.ptb_text.specs.declared.word.Word.{Word}
use Rattle.ptb_text.specs.declared.word.Word.TheVariants.{NextKw, IfKw, GotoKw, GosubKw, ReturnKw}
use Rattle.ptb_text.specs.declared.word.Word.TheVariants.{RemKw, ForKw, StopKw}
use Rattle.ptb_text.specs.Statements.{Statements}
use Rattle.ptb_expr.specs.declared.fault.Fault.{Fault}
use Rattle.ptb_expr.specs.declared.fault.FaultKind.{FaultKind}
use Rattle.ptb_expr.specs.declared.fault.FaultKind.TheVariants as kinds
use Rattle.ptb_expr.specs.declared.store.Target.{Target}
use Rattle.ptb_answers.specs.Outcome.{Answers, Outcome, map_outcome}
use Rattle.ptb_expr.specs.Store.{value_at, with_value}
use Rattle.ptb_expr.specs.Tree.{Tree}
use Rattle.ptb_expr.specs.Reading.{Reading, Whole, Malformed, item_of, expression}
use Rattle.ptb_expr.specs.Value.{fault, or_fault, in_range, random_number, value, target_of, with_target}
use Rattle.ptb_command.specs.declared.ending.Ending.{Ending}
use Rattle.ptb_command.specs.declared.ending.Ending.TheVariants as endings
use Rattle.ptb_command.specs.Commands.{Part, Assign, Say, Width, Show, NewLine, Take, Letter, Operand, Defect, Command}
use Rattle.ptb_command.specs.Commands.{letter_of}
use Rattle.ptb_command.specs.State.{Place, Loop, Call, State, nesting, nesting_limit}
use Rattle.ptb_command.specs.State.{place_after, next_index, text_of, statement}
use Rattle.ptb_command.specs.Actions.{Faults, Ends, Progress, Goes, Halts, Action, and_then}
use Rattle.ptb_command.specs.Actions.{goes_on, halt, change, show, evaluation, work_action}

-- ---- values

abbrev pub value_action : Tree → Action ℤ
value_action x = work_action (λ c. value c x)

abbrev pub target_action : Tree → Action Target
target_action x = work_action (λ c. target_of c x)

abbrev pub store : Target → ℤ → Action (Unit {0})
store at v = change (λ S. record S { cells = with_target S.cells at v })

-- ---- PRINT

abbrev pub newline : List ℕ
newline = 10 ∷ []

-- decimals, with as many blanks before them as the width needs
abbrev pub padded_decimal : ℕ → ℤ → List ℕ
padded_decimal w v = let s = signed_decimal v in replicate (w - length s) 32 ++ s

-- a width from 0 to 255; else HOW? at the mark
abbrev pub width_limit : ℕ
width_limit = 255

abbrev pub width_of : ℤ → Result ℕ FaultKind
width_of (pos n) = if nat_le n width_limit then Ok n else Err kinds.How
width_of (negsuc n) = Err kinds.How

-- the width at the start of each PRINT
abbrev pub first_width : ℕ
first_width = 6

-- ---- INPUT

-- the word of a fault
abbrev pub fault_word : FaultKind → List ℕ
fault_word kinds.What = codes "WHAT?"
fault_word kinds.How = codes "HOW?"
fault_word kinds.Sorry = codes "SORRY"

-- a line is taken and shown
abbrev pub take_line : List ℕ → List (List ℕ) → Action (Unit {0})
take_line l ls = change (λ S. record S { lines = ls; shown = S.shown ++ l ++ newline })

-- the string is shown, the target is found, and the prompt is shown
abbrev pub ask_for : List ℕ → Tree → List ℕ → Action Target
ask_for said x prompt =
    and_then (show said) (λ _. and_then (target_action x) (λ at. and_then (show prompt) (λ _. goes_on at)))

-- a value goes into the variable; for a fault its word is shown, and the item starts over
abbrev pub store_or_again : Target → Action (Unit {0}) → Result ℤ Fault → Action (Unit {0})
store_or_again at again (Ok v) = store at v
store_or_again at again (Err f) = and_then (show (fault_word f.kind ++ newline)) (λ _. again)

-- an answer is asked for as RND asks with this bound, which is at least 1; it is shown as a line, and stored
abbrev pub answer_instead : ℤ → Target → Action (Unit {0})
answer_instead n at =
    and_then (work_action (λ _. random_number n 0))
    (λ v. and_then (show (signed_decimal v ++ newline)) (λ _. store at v))

-- where no line is left the run ends, or asks for an answer with this bound instead
abbrev pub without_line : Option ℤ → Target → Action (Unit {0})
without_line None at = halt (Ends endings.NoInput)
without_line (Some n) at = answer_instead n at

-- an item of INPUT, over the lines that are left: a line's beginning is read as an expression
unfoldable pub input_action : List ℕ → Tree → List ℕ → List (List ℕ) → Action (Unit {0})
input_action said x prompt [] = and_then (ask_for said x prompt) (λ at S. without_line S.choose at S)
input_action said x prompt (l ∷ ls) =
    and_then (ask_for said x prompt) (λ at.
    and_then (take_line l ls) (λ _.
    and_then (evaluation (λ c. value c (item_of (expression l 0))))
    (store_or_again at (input_action said x prompt ls))))

-- over the lines that the state has left
abbrev pub item_action : List ℕ → Tree → List ℕ → Action (Unit {0})
item_action said x prompt S = input_action said x prompt S.lines S

-- ---- parts

-- the parts in order, from a width on and with the values of the operands so far; all these values
unfoldable pub parts_action : List Part → ℕ → List ℤ → Action (List ℤ)
parts_action [] w operands = goes_on operands
parts_action (Assign x y ∷ parts) w operands =
    and_then (target_action x)
    (λ at. and_then (value_action y) (λ v. and_then (store at v) (λ _. parts_action parts w operands)))
parts_action (Say s ∷ parts) w operands = and_then (show s) (λ _. parts_action parts w operands)
parts_action (Width x m ∷ parts) w operands =
    and_then (value_action x) (λ v. and_then (work_action (λ _. or_fault (width_of v) m))
    (λ u. parts_action parts u operands))
parts_action (Show x ∷ parts) w operands =
    and_then (value_action x) (λ v. and_then (show (padded_decimal w v)) (λ _. parts_action parts w operands))
parts_action (NewLine ∷ parts) w operands = and_then (show newline) (λ _. parts_action parts w operands)
parts_action (Take said x prompt ∷ parts) w operands =
    and_then (λ S. input_action said x prompt S.lines S) (λ _. parts_action parts w operands)
parts_action (Letter x ∷ parts) w operands = parts_action parts w operands
parts_action (Operand x ∷ parts) w operands = and_then (value_action x) (λ v. parts_action parts w (operands ++ v ∷ []))
parts_action (Defect kind m ∷ parts) w operands = halt (Faults (fault kind m))

-- all parts of a command, with the width at the start and no operands yet
abbrev pub action_of : List Part → Action (List ℤ)
action_of parts = parts_action parts first_width []

-- ---- what a command does with its operands

abbrev pub operand : List ℤ → ℕ → ℤ
operand operands k = slice_index_or operands k (pos 0)

-- the place after a command's parts; it is not looked at where these are malformed
abbrev pub end_of : Reading (List Part) → ℕ
end_of (Whole parts e) = e
end_of (Malformed parts) = 0

abbrev pub fails : FaultKind → ℕ → Action (Unit {0})
fails kind m = halt (Faults (fault kind m))

-- the run continues at a place
abbrev pub proceed_to : Option Place → Action (Unit {0})
proceed_to q = change (λ S. record S { place = q })

abbrev pub is_full : State → Bool
is_full S = nat_le nesting_limit (nesting S)

-- where there is no room for one more loop or call, SORRY
abbrev pub if_not_full : ℕ → (State → State) → Action (Unit {0})
if_not_full e f S a = if is_full S then fails kinds.Sorry e S a else change f S a

-- ---- IF, GOTO, GOSUB and RETURN

-- 0 continues with the next statement, any other value with what follows
abbrev pub if_place : Statements → Place → Bool → Option Place
if_place p q true = place_after p q.number
if_place p q false = Some (next_index q)

abbrev pub goto_action : ℕ → Option Place → Action (Unit {0})
goto_action e (Some r) = proceed_to (Some r)
goto_action e None = fails kinds.How e

-- a new level, without loops
abbrev pub with_call : Place → Place → State → State
with_call back r S = record S { place = Some r; loops = []; calls = record { back = back; loops = S.loops } ∷ S.calls }

abbrev pub gosub_action : ℕ → Place → Option Place → Action (Unit {0})
gosub_action e back (Some r) = if_not_full e (with_call back r)
gosub_action e back None = fails kinds.How e

-- the newest level ends, its loops with it
abbrev pub return_action : ℕ → List Call → Action (Unit {0})
return_action e [] = fails kinds.What e
return_action e (c ∷ calls) = change (λ S. record S { place = Some c.back; loops = c.loops; calls = calls })

-- ---- FOR and NEXT

-- without the newest level's loop of a variable
abbrev pub without_loop : ℕ → State → State
without_loop x S = record S { loops = filter (λ l. not (l.letter == x)) S.loops }

abbrev pub with_loop : Loop → State → State
with_loop loop S = record S { place = Some loop.back; loops = loop ∷ S.loops }

-- an open loop of the same variable is removed first
abbrev pub for_action : ℕ → Loop → Action (Unit {0})
for_action e loop = and_then (change (without_loop loop.letter)) (λ _. if_not_full e (with_loop loop))

-- the loops from that of the variable on
abbrev pub loops_from : ℕ → List Loop → List Loop
loops_from x [] = []
loops_from x (l ∷ ls) = if l.letter == x then l ∷ ls else loops_from x ls

-- whether a value is past a loop's limit
abbrev pub is_past : Loop → ℤ → Bool
is_past l v = if int_lt l.step (pos 0) then int_lt v l.limit else int_lt l.limit v

-- the loop is over: the run continues after NEXT
abbrev pub loop_end : Place → List Loop → State → State
loop_end next ls S = record S { place = Some next; loops = ls }

-- the next turn
abbrev pub loop_turn : Loop → List Loop → State → State
loop_turn l ls S = record S { place = Some l.back; loops = l ∷ ls }

-- the sum is stored, and the loop continues or ends; without a sum it ends, and the variable keeps its value
abbrev pub after_sum : Place → Loop → List Loop → Result ℤ FaultKind → State → State
after_sum next l ls (Err kind) S = loop_end next ls S
after_sum next l ls (Ok v) S =
    let T = record S { cells = with_value S.cells l.letter v } in
    if is_past l v then loop_end next ls T else loop_turn l ls T

-- newer loops than that of the variable end
abbrev pub next_action : ℕ → Place → List Loop → Action (Unit {0})
next_action e next [] = fails kinds.What e
next_action e next (l ∷ ls) =
    change (λ S. after_sum next l ls (in_range (neg_ℤ (pos 32768)) (value_at S.cells l.letter +ℤ l.step)) S)

-- ---- all commands

-- p is the program, q the command's place, and e the place after its parts
unfoldable pub finish : Word → Statements → Place → ℕ → ℕ → List ℤ → Action (Unit {0})
finish RemKw p q e x operands = proceed_to (place_after p q.number)
finish StopKw p q e x operands = halt (Ends endings.Stop)
finish ReturnKw p q e x operands = λ S. return_action e S.calls S
finish IfKw p q e x operands = proceed_to (if_place p q (int_eq (operand operands 0) (pos 0)))
finish GotoKw p q e x operands = goto_action e (statement p (operand operands 0))
finish GosubKw p q e x operands = gosub_action e (next_index q) (statement p (operand operands 0))
finish ForKw p q e x operands =
    for_action e (record { letter = x; limit = operand operands 0; step = operand operands 1; back = next_index q })
finish NextKw p q e x operands = λ S. next_action e (next_index q) (loops_from x S.loops) S
finish _ p q e x operands = proceed_to (Some (next_index q))

-- the parts, and then the command
unfoldable pub command_action : Statements → Place → Command → Action (Unit {0})
command_action p q c =
    and_then (action_of (item_of c.parts)) (finish c.kind p q (end_of c.parts) (letter_of (item_of c.parts)))

-- ---- faults

-- a transcript is fresh where it is empty or ends in a newline
abbrev pub is_fresh : List ℕ → Bool
is_fresh shown = length shown == 0 || slice_index shown (length shown - 1) == 10

-- on a fresh line: the word, and the statement with `?` at the mark
abbrev pub report_bytes : Bool → ℕ → List ℕ → Fault → List ℕ
report_bytes fresh n text f =
    (if fresh then [] else newline) ++ fault_word f.kind ++ newline
    ++ decimal n ++ codes " " ++ take f.mark text ++ codes "?" ++ drop f.mark text ++ newline

abbrev pub ending_of : FaultKind → Ending
ending_of kinds.What = endings.What
ending_of kinds.How = endings.How
ending_of kinds.Sorry = endings.Sorry

-- ---- a step of a run

pub data StepResult : Type 0 where
  -- the run continues
  Next : (S : State) → StepResult
  -- the run is over
  Over : (ending : Ending) (S : State) → StepResult

-- a fault is reported with its statement
abbrev pub step_result_of : ℕ → List ℕ → Progress (Unit {0}) → StepResult
step_result_of n text (Goes x S) = Next S
step_result_of n text (Halts (Faults f) S) =
    Over (ending_of f.kind) (record S { shown = S.shown ++ report_bytes (is_fresh S.shown) n text f })
step_result_of n text (Halts (Ends ending) S) = Over ending S

-- a command that begins is a step
abbrev pub with_step : State → State
with_step S = record S { steps = S.steps + 1 }

-- the command c, whose place is q
unfoldable pub act : Statements → Place → Command → State → Answers → Outcome StepResult State
act p q c S a = map_outcome (step_result_of q.number (text_of p q.number)) (λ T. T)
    (command_action p q c (with_step S) a)
