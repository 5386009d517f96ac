-- This file proves which endings a run can have.
-- Main lemma: `ending_laws`.
use Rattle.std.proofs.Common.{ℕ, zero, suc, Bool, true, false, cond, List, [], ◌∷◌, ◌++◌, Option}
use Rattle.std.proofs.Common.{Some, None, Result, Ok, Err, ◌≡◌, ◌∙◌, refl, sym, subst}
use Rattle.std.specs.Prelude.{ℤ, pos, neg_ℤ, ◌+ℤ◌, if◌then◌else◌}
use Rattle.std.specs.Fmt.{signed_decimal}
use Rattle.ptb_text.specs.declared.word.Word.{Word}
use Rattle.ptb_text.specs.declared.word.Word.TheVariants.{NextKw, IfKw, GotoKw, GosubKw, ReturnKw}
use Rattle.ptb_text.specs.declared.word.Word.TheVariants.{RemKw, ForKw, StopKw}
use Rattle.ptb_text.specs.Statements.{Statements, StoredProgram}
use Rattle.ptb_expr.specs.declared.fault.Fault.{Fault}
use Rattle.ptb_expr.specs.declared.fault.FaultKind.{FaultKind}
use Rattle.ptb_expr.specs.declared.fault.FaultKind.TheVariants as kinds
use Rattle.ptb_expr.specs.declared.store.Target.{Target}
use Rattle.ptb_expr.specs.Tree.{Tree}
use Rattle.ptb_answers.specs.Outcome.{Answers, Outcome, Done, Asks, Out, go_on, map_outcome}
use Rattle.ptb_expr.specs.Store.{Cells, value_at, with_value}
use Rattle.ptb_expr.specs.Reading.{item_of, expression}
use Rattle.ptb_expr.specs.Value.{Work, in_range, random_number, value}
use Rattle.ptb_command.specs.Commands.{Part, Assign, Say, Width, Show, NewLine, Take, Letter, Operand, Defect, Command}
use Rattle.ptb_command.specs.State.{State, Place, Loop, Call, first_state, text_of, next_command}
use Rattle.ptb_command.specs.Actions.{Halt, Faults, Ends, Progress, Goes, Halts, Action, on_progress, and_then, goes_on}
use Rattle.ptb_command.specs.Actions.{halt, change, show, evaluation, or_halt, work_action}
use Rattle.ptb_command.specs.Act.{newline, fails, is_full, if_not_full, goto_action, gosub_action, action_of}
use Rattle.ptb_command.specs.Act.{return_action, without_loop, with_loop, with_call, for_action}
use Rattle.ptb_command.specs.Act.{loops_from, is_past, loop_end, loop_turn, after_sum, next_action}
use Rattle.ptb_command.specs.Commands.{letter_of}
use Rattle.ptb_command.specs.Act.{finish, end_of, first_width, command_action}
use Rattle.ptb_command.specs.Act.{StepResult, Next, Over, step_result_of, ending_of, with_step, act}
use Rattle.ptb_command.specs.Act.{value_action, target_action, store, take_line, ask_for}
use Rattle.ptb_command.specs.Act.{store_or_again, without_line, input_action, parts_action}
use Rattle.ptb_machine.specs.Play.{act_unless, turn_by, turn, FinalState, after_turn, turns_within}
use Rattle.ptb_machine.specs.Play.{all_turns, Finish, finish_of, turns, play}
use Rattle.ptb_answers.specs.declared.rules.Rules.{Rules}
use Rattle.ptb_machine.specs.EndingLaws.{IsRunEnding, EndingLaws}

-- ---- how an action halts

abbrev IsHaltOfRun : Option ℤ → Halt → Type 0
IsHaltOfRun choose (Faults f) = Unit {0}
IsHaltOfRun choose (Ends ending) = IsRunEnding choose ending

-- where it continues, answers are taken instead of lines as before
abbrev HaltsLikeRun : {A : Type 0} → Option ℤ → Outcome (Progress A) State → Type 0
HaltsLikeRun choose (Done (Goes x S) rest) = S.choose ≡ choose
HaltsLikeRun choose (Done (Halts h S) rest) = IsHaltOfRun choose h
HaltsLikeRun choose (Asks n S) = Unit {0}
HaltsLikeRun choose (Out n S) = Unit {0}

record EndsLikeRun {A : Type 0} (m : Action A) : Type 0 where
  at : (choose : Option ℤ) (S : State) (a : Answers) → S.choose ≡ choose → HaltsLikeRun choose (m S a)

go_on_ends : {A B : Type 0} (choose : Option ℤ) (next : A → Action B) → ((x : A) → EndsLikeRun (next x))
    → (o : Outcome (Progress A) State) → HaltsLikeRun choose o → HaltsLikeRun choose (go_on o (on_progress next))
go_on_ends choose next each (Done (Goes x T) rest) r = (each x).at choose T rest r
go_on_ends choose next each (Done (Halts h T) rest) r = r
go_on_ends choose next each (Asks n T) r = tt
go_on_ends choose next each (Out n T) r = tt

then_ends : {A B : Type 0} (m : Action A) (next : A → Action B) → EndsLikeRun m → ((x : A) → EndsLikeRun (next x))
    → EndsLikeRun (and_then m next)
then_ends m next first each =
    record { at = λ choose S a e. go_on_ends choose next each (m S a) (first.at choose S a e) }

worked_out_ends : {A B : Type 0} (choose : Option ℤ) (f : A → B) (S : State) → S.choose ≡ choose
    → (o : Outcome A (Unit {0})) → HaltsLikeRun choose (map_outcome (λ r. Goes (f r) S) (λ _. S) o)
worked_out_ends choose f S e (Done x rest) = e
worked_out_ends choose f S e (Asks n w) = tt
worked_out_ends choose f S e (Out n w) = tt

evaluation_ends : {A : Type 0} (m : Cells → Work A) → EndsLikeRun (evaluation m)
evaluation_ends m = record { at = λ choose S a e. worked_out_ends choose (λ r. r) S e (m S.cells a) }

goes_ends : {A : Type 0} (x : A) → EndsLikeRun (goes_on x)
goes_ends x = record { at = λ choose S a e. e }

change_ends : (f : State → State) → ((S : State) → (f S).choose ≡ S.choose) → EndsLikeRun (change f)
change_ends f keeps = record { at = λ choose S a e. keeps S ∙ e }

halt_ends : {A : Type 0} (h : Halt) → ((choose : Option ℤ) → IsHaltOfRun choose h) → EndsLikeRun (halt {A = A} h)
halt_ends h k = record { at = λ choose S a e. k choose }

or_halt_ends : {A : Type 0} (r : Result A Fault) → EndsLikeRun (or_halt r)
or_halt_ends (Ok v) = goes_ends v
or_halt_ends (Err f) = halt_ends (Faults f) (λ _. tt)

work_action_ends : {A : Type 0} (m : Cells → Work A) → EndsLikeRun (work_action m)
work_action_ends m = then_ends (evaluation m) or_halt (evaluation_ends m) or_halt_ends

-- ---- parts

ask_ends : (said : List ℕ) (x : Tree) (prompt : List ℕ) → EndsLikeRun (ask_for said x prompt)
ask_ends said x prompt =
    then_ends (show said) _ (change_ends _ (λ S. refl)) (λ _. then_ends (target_action x) _ (work_action_ends _)
    (λ at. then_ends (show prompt) (λ _. goes_on at) (change_ends _ (λ S. refl)) (λ _. goes_ends at)))

line_value : List ℕ → Cells → Work ℤ
line_value l c = value c (item_of (expression l 0))

again_ends : (at : Target) (again : Action (Unit {0})) (r : Result ℤ Fault) → EndsLikeRun again
    → EndsLikeRun (store_or_again at again r)
again_ends at again (Ok v) k = change_ends _ (λ S. refl)
again_ends at again (Err f) k = then_ends (show _) _ (change_ends _ (λ S. refl)) (λ _. k)

answer_ends : (n : ℤ) (at : Target) → EndsLikeRun (without_line (Some n) at)
answer_ends n at = then_ends (work_action (λ _. random_number n 0)) _ (work_action_ends _)
    (λ v. then_ends (show (signed_decimal v ++ newline)) (λ _. store at v) (change_ends _ (λ S. refl))
    (λ _. change_ends _ (λ S. refl)))

-- where no line is left, it ends or takes an answer
without_ends : (bound : Option ℤ) (at : Target) (choose : Option ℤ) (S : State) (a : Answers) → bound ≡ choose
    → S.choose ≡ choose → HaltsLikeRun choose (without_line bound at S a)
without_ends None at choose S a is e = sym is
without_ends (Some n) at choose S a is e = (answer_ends n at).at choose S a e

input_ends : (said : List ℕ) (x : Tree) (prompt : List ℕ) (lines : List (List ℕ))
    → EndsLikeRun (input_action said x prompt lines)
unfolding input_action line_value
input_ends said x prompt [] = then_ends (ask_for said x prompt) _ (ask_ends said x prompt)
    (λ at. record { at = λ choose S a e. without_ends S.choose at choose S a e e })
input_ends said x prompt (l ∷ ls) =
    then_ends (ask_for said x prompt) _ (ask_ends said x prompt) (λ at.
    then_ends (take_line l ls) _ (change_ends _ (λ S. refl)) (λ _.
    then_ends (evaluation (line_value l)) _ (evaluation_ends (line_value l))
    (λ r. again_ends at (input_action said x prompt ls) r (input_ends said x prompt ls))))

take_action_ends : (said : List ℕ) (x : Tree) (prompt : List ℕ)
    → EndsLikeRun (λ S. input_action said x prompt S.lines S)
take_action_ends said x prompt = record { at = λ choose S a e. (input_ends said x prompt S.lines).at choose S a e }

parts_ends : (parts : List Part) (w : ℕ) (operands : List ℤ) → EndsLikeRun (parts_action parts w operands)
unfolding parts_action
parts_ends [] w operands = goes_ends operands
parts_ends (Assign x y ∷ parts) w operands =
    then_ends (target_action x) _ (work_action_ends _) (λ at. then_ends (value_action y) _ (work_action_ends _)
    (λ v. then_ends (store at v) _ (change_ends _ (λ S. refl)) (λ _. parts_ends parts w operands)))
parts_ends (Say s ∷ parts) w operands =
    then_ends (show s) _ (change_ends _ (λ S. refl)) (λ _. parts_ends parts w operands)
parts_ends (Width x m ∷ parts) w operands =
    then_ends (value_action x) _ (work_action_ends _)
    (λ v. then_ends (work_action _) _ (work_action_ends _) (λ u. parts_ends parts u operands))
parts_ends (Show x ∷ parts) w operands =
    then_ends (value_action x) _ (work_action_ends _)
    (λ v. then_ends (show _) _ (change_ends _ (λ S. refl)) (λ _. parts_ends parts w operands))
parts_ends (NewLine ∷ parts) w operands =
    then_ends (show newline) _ (change_ends _ (λ S. refl)) (λ _. parts_ends parts w operands)
parts_ends (Take said x prompt ∷ parts) w operands =
    then_ends (λ S. input_action said x prompt S.lines S) _ (take_action_ends said x prompt)
    (λ _. parts_ends parts w operands)
parts_ends (Letter x ∷ parts) w operands = parts_ends parts w operands
parts_ends (Operand x ∷ parts) w operands =
    then_ends (value_action x) _ (work_action_ends _) (λ v. parts_ends parts w (operands ++ v ∷ []))
parts_ends (Defect kind m ∷ parts) w operands = halt_ends _ (λ _. tt)

-- ---- commands

if_room_ends : (e : ℕ) (f : State → State) → ((S : State) → (f S).choose ≡ S.choose) → EndsLikeRun (if_not_full e f)
if_room_ends e f keeps = record { at = λ choose S a h. by_room choose S a h (is_full S) }
  where
    by_room : (choose : Option ℤ) (S : State) (a : Answers) → S.choose ≡ choose → (b : Bool)
        → HaltsLikeRun choose (cond b (fails kinds.Sorry e S a) (change f S a))
    by_room choose S a h true = tt
    by_room choose S a h false = keeps S ∙ h

goto_ends : (e : ℕ) (r : Option Place) → EndsLikeRun (goto_action e r)
goto_ends e (Some r) = change_ends _ (λ S. refl)
goto_ends e None = halt_ends _ (λ _. tt)

gosub_ends : (e : ℕ) (back : Place) (r : Option Place) → EndsLikeRun (gosub_action e back r)
gosub_ends e back (Some r) = if_room_ends e (with_call back r) (λ S. refl)
gosub_ends e back None = halt_ends _ (λ _. tt)

return_ends : (e : ℕ) → EndsLikeRun (λ S. return_action e S.calls S)
return_ends e = record { at = λ choose S a h. by_calls choose S a h S.calls }
  where
    by_calls : (choose : Option ℤ) (S : State) (a : Answers) → S.choose ≡ choose → (calls : List Call)
        → HaltsLikeRun choose (return_action e calls S a)
    by_calls choose S a h [] = tt
    by_calls choose S a h (c ∷ calls) = h

for_ends : (e : ℕ) (loop : Loop) → EndsLikeRun (for_action e loop)
for_ends e loop = then_ends (change (without_loop loop.letter)) (λ _. if_not_full e (with_loop loop))
    (change_ends _ (λ S. refl)) (λ _. if_room_ends e (with_loop loop) (λ S. refl))

-- a loop that continues or ends leaves them as they were
sum_keeps : (next : Place) (l : Loop) (ls : List Loop) (S : State) (r : Result ℤ FaultKind)
    → (after_sum next l ls r S).choose ≡ S.choose
sum_keeps next l ls S (Err kind) = refl
sum_keeps next l ls S (Ok v) = by_limit (is_past l v)
  where
    by_limit : (past : Bool)
        → (if past then loop_end next ls (record S { cells = with_value S.cells l.letter v }) else loop_turn l ls
        (record S { cells = with_value S.cells l.letter v })).choose ≡ S.choose
    by_limit true = refl
    by_limit false = refl

next_ends : (e x : ℕ) (next : Place) → EndsLikeRun (λ S. next_action e next (loops_from x S.loops) S)
next_ends e x next = record { at = λ choose S a h. by_loops choose S a h (loops_from x S.loops) }
  where
    by_loops : (choose : Option ℤ) (S : State) (a : Answers) → S.choose ≡ choose → (ls : List Loop)
        → HaltsLikeRun choose (next_action e next ls S a)
    by_loops choose S a h [] = tt
    by_loops choose S a h (l ∷ ls) =
        sum_keeps next l ls S (in_range (neg_ℤ (pos 32768)) (value_at S.cells l.letter +ℤ l.step)) ∙ h

finish_ends : (kind : Word) (p : Statements) (q : Place) (e x : ℕ) (operands : List ℤ)
    → EndsLikeRun (finish kind p q e x operands)
unfolding finish
finish_ends RemKw p q e x operands = change_ends _ (λ S. refl)
finish_ends StopKw p q e x operands = halt_ends _ (λ _. tt)
finish_ends ReturnKw p q e x operands = return_ends e
finish_ends IfKw p q e x operands = change_ends _ (λ S. refl)
finish_ends GotoKw p q e x operands = goto_ends e _
finish_ends GosubKw p q e x operands = gosub_ends e _ _
finish_ends ForKw p q e x operands = for_ends e _
finish_ends NextKw p q e x operands = next_ends e x _
finish_ends _ p q e x operands = change_ends _ (λ S. refl)

command_ends : (p : Statements) (q : Place) (c : Command) → EndsLikeRun (command_action p q c)
unfolding command_action
command_ends p q c =
    then_ends (action_of (item_of c.parts))
    (finish c.kind p q (end_of c.parts) (letter_of (item_of c.parts)))
    (parts_ends (item_of c.parts) first_width [])
    (λ operands. finish_ends c.kind p q (end_of c.parts) (letter_of (item_of c.parts)) operands)

-- ---- turns and runs

abbrev IsStepResultOfRun : Option ℤ → StepResult → Type 0
IsStepResultOfRun choose (Next S) = S.choose ≡ choose
IsStepResultOfRun choose (Over ending S) = IsRunEnding choose ending

abbrev TurnsLikeRun : Option ℤ → Outcome StepResult State → Type 0
TurnsLikeRun choose (Done d rest) = IsStepResultOfRun choose d
TurnsLikeRun choose (Asks n S) = Unit {0}
TurnsLikeRun choose (Out n S) = Unit {0}

abbrev pub HasRunEnding : {W : Type 0} → Option ℤ → Outcome Finish W → Type 0
HasRunEnding choose (Done f rest) = IsRunEnding choose f.ending
HasRunEnding choose (Asks n w) = Unit {0}
HasRunEnding choose (Out n w) = Unit {0}

fault_ends : (choose : Option ℤ) (kind : FaultKind) → IsRunEnding choose (ending_of kind)
fault_ends choose kinds.What = tt
fault_ends choose kinds.How = tt
fault_ends choose kinds.Sorry = tt

step_result_ends : (choose : Option ℤ) (n : ℕ) (text : List ℕ) (o : Outcome (Progress (Unit {0})) State)
    → HaltsLikeRun choose o → TurnsLikeRun choose (map_outcome (step_result_of n text) (λ T. T) o)
step_result_ends choose n text (Done (Goes x S) rest) c = c
step_result_ends choose n text (Done (Halts (Faults f) S) rest) c = fault_ends choose f.kind
step_result_ends choose n text (Done (Halts (Ends ending) S) rest) c = c
step_result_ends choose n text (Asks k S) c = tt
step_result_ends choose n text (Out k S) c = tt

module _ (choose : Option ℤ) where
  act_ends : (p : Statements) (q : Place) (c : Command) (S : State) (a : Answers) → S.choose ≡ choose
      → TurnsLikeRun choose (act p q c S a)
  unfolding act
  act_ends p q c S a e =
      step_result_ends choose q.number (text_of p q.number) (command_action p q c (with_step S) a)
      ((command_ends p q c).at choose (with_step S) a e)

  unless_ends : (p : StoredProgram) (r : Place × Command) (b : Bool) (S : State) (a : Answers) → S.choose ≡ choose
      → TurnsLikeRun choose (act_unless p r b S a)
  unless_ends p r true S a e = tt
  unless_ends p r false S a e = act_ends p.lines r.0 r.1 S a e

  turn_by_ends : (p : StoredProgram) (limit : ℕ) (r : Option (Place × Command)) (S : State) (a : Answers)
      → S.choose ≡ choose → TurnsLikeRun choose (turn_by p limit r S a)
  turn_by_ends p limit None S a e = tt
  turn_by_ends p limit (Some r) S a e = unless_ends p r _ S a e

  turn_ends : (p : StoredProgram) (limit : ℕ) (S : State) (a : Answers) → S.choose ≡ choose
      → TurnsLikeRun choose (turn p limit S a)
  unfolding turn
  turn_ends p limit S a e = turn_by_ends p limit (next_command p.lines S.place) S a e

  abbrev LastLikeRun : Outcome FinalState State → Type 0
  LastLikeRun (Done l rest) = IsRunEnding choose l.ending
  LastLikeRun (Asks n S) = Unit {0}
  LastLikeRun (Out n S) = Unit {0}

  after_ends : (others : State → Answers → Outcome FinalState State)
      → ((S : State) (a : Answers) → S.choose ≡ choose → LastLikeRun (others S a))
      → (o : Outcome StepResult State) → TurnsLikeRun choose o → LastLikeRun (go_on o (after_turn others))
  after_ends others each (Done (Next S) rest) c = each S rest c
  after_ends others each (Done (Over ending S) rest) c = c
  after_ends others each (Asks n S) c = tt
  after_ends others each (Out n S) c = tt

  within_ends : (n : ℕ) (p : StoredProgram) (limit : ℕ) (S : State) (a : Answers) → S.choose ≡ choose
      → LastLikeRun (turns_within n p limit S a)
  unfolding turns_within
  within_ends zero p limit S a e = tt
  within_ends (suc n) p limit S a e = after_ends (turns_within n p limit) (within_ends n p limit) (turn p limit S a)
      (turn_ends p limit S a e)

  told_ends : (o : Outcome FinalState State) → LastLikeRun o
      → HasRunEnding choose (map_outcome (λ f. f) (λ (S : State). S.shown) (map_outcome finish_of (λ (S : State). S) o))
  told_ends (Done l rest) c = c
  told_ends (Asks n S) c = tt
  told_ends (Out n S) c = tt

pub play_ends : (p : StoredProgram) (input : List (List ℕ)) (rules : Rules) (a : Answers)
    → HasRunEnding rules.choose (play p input rules a)
unfolding play turns all_turns
play_ends p input rules a =
    told_ends rules.choose (all_turns p rules.limit (first_state p input rules.choose) a)
    (within_ends rules.choose _ p rules.limit (first_state p input rules.choose) a refl)

pub ending_laws : EndingLaws
ending_laws =
    record { ends = λ p input rules a rest f e. subst (HasRunEnding rules.choose) e (play_ends p input rules a) }
