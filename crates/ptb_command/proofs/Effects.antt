-- This file proves what a command may change of the state in which it begins.
-- Main lemma: `act_keeps`.
use Rattle.std.proofs.Common.{◌≡◌, ℕ, ◌+◌, ◌≤◌, Bool, true, false, cond, List, [], ◌∷◌, ◌++◌}
use Rattle.std.proofs.Common.{length, Option, Some, None, Result, Ok, Err, refl, sym, ap, subst}
use Rattle.std.proofs.Common.{◌∙◌, arith, append_assoc, append-nil}
use Rattle.std.specs.Prelude.{ℤ, sum_by, filter, not, ◌==◌}
use Rattle.std.proofs.lemmas.Bool.{leb-false}
use Rattle.std.proofs.lemmas.List.Sums.{sum_by-cons, length-filter, count_by-le-length}
use Rattle.ptb_text.specs.declared.word.Word.{Word}
use Rattle.ptb_text.specs.declared.word.Word.TheVariants.{NextKw, IfKw, GotoKw, GosubKw, ReturnKw}
use Rattle.ptb_text.specs.declared.word.Word.TheVariants.{RemKw, ForKw, StopKw}
use Rattle.ptb_text.specs.Statements.{Statements}
use Rattle.ptb_expr.specs.declared.fault.Fault.{Fault}
use Rattle.ptb_expr.specs.declared.fault.FaultKind.{FaultKind}
use Rattle.ptb_expr.specs.declared.fault.FaultKind.TheVariants as kinds
use Rattle.ptb_expr.specs.declared.store.Target.{Target}
use Rattle.ptb_expr.specs.Tree.{Tree}
use Rattle.ptb_answers.specs.Outcome.{Answers, Outcome, Done, Asks, Out, go_on, map_outcome}
use Rattle.ptb_expr.specs.Store.{Cells, with_value}
use Rattle.ptb_expr.specs.Reading.{item_of, expression}
use Rattle.ptb_expr.specs.Value.{Work, random_number, value}
use Rattle.ptb_command.specs.Commands.{Part, Assign, Say, Width, Show, NewLine, Take, Letter, Operand, Defect, Command}
use Rattle.ptb_command.specs.State.{Place, Loop, Call, State, text_of, nesting, nesting_limit}
use Rattle.ptb_command.specs.Actions.{Halt, Faults, Ends, Progress, Goes, Halts, Action, on_progress, and_then, goes_on}
use Rattle.ptb_command.specs.Actions.{halt, change, show, evaluation, or_halt, work_action}
use Rattle.ptb_command.specs.Act.{newline, without_line, fails, is_full, proceed_to, if_not_full, action_of}
use Rattle.ptb_command.specs.Act.{goto_action, with_call, gosub_action, return_action, without_loop}
use Rattle.ptb_command.specs.Act.{with_loop, for_action, loops_from, is_past, loop_end, loop_turn}
use Rattle.ptb_command.specs.Commands.{letter_of}
use Rattle.ptb_command.specs.Act.{after_sum, next_action, finish, end_of, first_width}
use Rattle.ptb_command.specs.Act.{command_action, is_fresh, report_bytes, step_result_of, with_step}
use Rattle.ptb_command.specs.Act.{act, value_action, target_action, store, take_line, ask_for}
use Rattle.ptb_command.specs.Act.{store_or_again, input_action, parts_action}
use Rattle.ptb_command.specs.Effects.{progress_state, action_state, step_result_state, act_state}
use Rattle.ptb_command.specs.Effects.{Begins, TakesLines, PartChange, EndChange, CommandChange}

-- ---- what is shown

pub begins_itself : (s : List ℕ) → Begins s s
begins_itself s = ([], sym (append-nil s))

pub begins_joined : (r s t : List ℕ) → Begins r s → Begins s t → Begins r t
begins_joined r s t b c = (b.0 ++ c.0, c.1 ∙ ap (λ u. u ++ c.0) b.1 ∙ append_assoc r b.0 c.0)

-- ---- lines that are taken

pub takes_itself : (ls : List (List ℕ)) → TakesLines ls ls
takes_itself ls = ([], refl)

pub takes_joined : (ls ms ns : List (List ℕ)) → TakesLines ls ms → TakesLines ms ns → TakesLines ls ns
takes_joined ls ms ns a b = (a.0 ++ b.0, a.1 ∙ ap (λ l. a.0 ++ l) b.1 ∙ sym (append_assoc a.0 b.0 ns))

-- ---- one action after the other

-- a relation between the state in which an action begins and the one in which it is then
pub record Preserves {A : Type 0} (R : State → State → Type 0) (m : Action A) : Type 0 where
  pub at : (S : State) (a : Answers) → R S (action_state (m S a))

module _ (R : State → State → Type 0) (joined : (S T U : State) → R S T → R T U → R S U) where
  go_on_keeps : {A B : Type 0} (next : A → Action B) → ((x : A) → Preserves R (next x))
      → (S : State) (o : Outcome (Progress A) State) → R S (action_state o)
      → R S (action_state (go_on o (on_progress next)))
  go_on_keeps next each S (Done (Goes x T) rest) r = joined S T _ r ((each x).at T rest)
  go_on_keeps next each S (Done (Halts h T) rest) r = r
  go_on_keeps next each S (Asks n T) r = r
  go_on_keeps next each S (Out n T) r = r

  pub then_keeps : {A B : Type 0} (m : Action A) (next : A → Action B) → Preserves R m
      → ((x : A) → Preserves R (next x)) → Preserves R (and_then m next)
  then_keeps m next first each = record { at = λ S a. go_on_keeps next each S (m S a) (first.at S a) }

-- working something out changes nothing
worked_out_state : {A B : Type 0} (f : A → B) (S : State) (o : Outcome A (Unit {0}))
    → action_state (map_outcome (λ r. Goes (f r) S) (λ _. S) o) ≡ S
worked_out_state f S (Done x rest) = refl
worked_out_state f S (Asks n w) = refl
worked_out_state f S (Out n w) = refl

pub evaluation_state : {A : Type 0} (m : Cells → Work A) (S : State) (a : Answers) → action_state (evaluation m S a) ≡ S
evaluation_state m S a = worked_out_state (λ r. r) S (m S.cells a)

-- ---- parts

-- what each part keeps, all of them keep
module _ (R : State → State → Type 0) (joined : (S T U : State) → R S T → R T U → R S U) (itself : (S : State) → R S S)
    (shows : (s : List ℕ) → Preserves R (show s)) (stores : (at : Target) (v : ℤ) → Preserves R (store at v)) where
  and_keeps : {A B : Type 0} (m : Action A) (next : A → Action B) → Preserves R m → ((x : A) → Preserves R (next x))
      → Preserves R (and_then m next)
  and_keeps m next = then_keeps R joined m next

  evaluation_keeps : {A : Type 0} (m : Cells → Work A) → Preserves R (evaluation m)
  evaluation_keeps m = record { at = λ S a. subst (λ T. R S T) (sym (evaluation_state m S a)) (itself S) }

  goes_keeps : {A : Type 0} (x : A) → Preserves R (goes_on x)
  goes_keeps x = record { at = λ S a. itself S }

  halt_keeps : {A : Type 0} (h : Halt) → Preserves R (halt {A = A} h)
  halt_keeps h = record { at = λ S a. itself S }

  or_halt_keeps : {A : Type 0} (r : Result A Fault) → Preserves R (or_halt r)
  or_halt_keeps (Ok v) = goes_keeps v
  or_halt_keeps (Err f) = halt_keeps (Faults f)

  worked_keeps : {A : Type 0} (m : Cells → Work A) → Preserves R (work_action m)
  worked_keeps m = and_keeps (evaluation m) or_halt (evaluation_keeps m) or_halt_keeps

  pub ask_keeps : (said : List ℕ) (x : Tree) (prompt : List ℕ) → Preserves R (ask_for said x prompt)
  ask_keeps said x prompt =
      and_keeps (show said) _ (shows said) (λ _. and_keeps (target_action x) _ (worked_keeps _)
      (λ at. and_keeps (show prompt) (λ _. goes_on at) (shows prompt) (λ _. goes_keeps at)))

  pub without_keeps : (choose : Option ℤ) (at : Target) → Preserves R (without_line choose at)
  without_keeps None at = halt_keeps _
  without_keeps (Some n) at = and_keeps (work_action (λ _. random_number n 0)) _ (worked_keeps _)
      (λ v. and_keeps (show _) _ (shows _) (λ _. stores at v))

  module _ (takes : (said : List ℕ) (x : Tree) (prompt : List ℕ)
      → Preserves R (λ S. input_action said x prompt S.lines S)) where
    pub parts_keep : (parts : List Part) (w : ℕ) (operands : List ℤ) → Preserves R (parts_action parts w operands)
    unfolding parts_action
    parts_keep [] w operands = goes_keeps operands
    parts_keep (Assign x y ∷ parts) w operands =
        and_keeps (target_action x) _ (worked_keeps _) (λ at. and_keeps (value_action y) _ (worked_keeps _)
        (λ v. and_keeps (store at v) _ (stores at v) (λ _. parts_keep parts w operands)))
    parts_keep (Say s ∷ parts) w operands = and_keeps (show s) _ (shows s) (λ _. parts_keep parts w operands)
    parts_keep (Width x m ∷ parts) w operands =
        and_keeps (value_action x) _ (worked_keeps _)
        (λ v. and_keeps (work_action _) _ (worked_keeps _) (λ u. parts_keep parts u operands))
    parts_keep (Show x ∷ parts) w operands =
        and_keeps (value_action x) _ (worked_keeps _)
        (λ v. and_keeps (show _) _ (shows _) (λ _. parts_keep parts w operands))
    parts_keep (NewLine ∷ parts) w operands =
        and_keeps (show newline) _ (shows newline) (λ _. parts_keep parts w operands)
    parts_keep (Take said x prompt ∷ parts) w operands =
        and_keeps (λ S. input_action said x prompt S.lines S) _ (takes said x prompt) (λ _. parts_keep parts w operands)
    parts_keep (Letter x ∷ parts) w operands = parts_keep parts w operands
    parts_keep (Operand x ∷ parts) w operands =
        and_keeps (value_action x) _ (worked_keeps _) (λ v. parts_keep parts w (operands ++ v ∷ []))
    parts_keep (Defect kind m ∷ parts) w operands = halt_keeps _

pub part_itself : (S : State) → PartChange S S
part_itself S = record { place = refl; loops = refl; calls = refl; steps = refl; shown = begins_itself S.shown }

pub part_joined : (S T U : State) → PartChange S T → PartChange T U → PartChange S U
part_joined S T U a b = record {
  place = b.place ∙ a.place;
  loops = b.loops ∙ a.loops;
  calls = b.calls ∙ a.calls;
  steps = b.steps ∙ a.steps;
  shown = begins_joined S.shown T.shown U.shown a.shown b.shown;
}

then_part : {A B : Type 0} (m : Action A) (next : A → Action B) → Preserves PartChange m
    → ((x : A) → Preserves PartChange (next x)) → Preserves PartChange (and_then m next)
then_part m next = then_keeps PartChange part_joined m next

evaluation_part : {A : Type 0} (m : Cells → Work A) → Preserves PartChange (evaluation m)
evaluation_part m = record { at = λ S a. subst (λ T. PartChange S T) (sym (evaluation_state m S a)) (part_itself S) }

show_part : (s : List ℕ) → Preserves PartChange (show s)
show_part s =
    record { at = λ S a. record { place = refl; loops = refl; calls = refl; steps = refl; shown = (s, refl) } }

store_part : (at : Target) (v : ℤ) → Preserves PartChange (store at v)
store_part at v = record {
  at = λ S a. record {
    place = refl;
    loops = refl;
    calls = refl;
    steps = refl;
    shown = begins_itself S.shown;
  };
}

ask_part : (said : List ℕ) (x : Tree) (prompt : List ℕ) → Preserves PartChange (ask_for said x prompt)
ask_part = ask_keeps PartChange part_joined part_itself show_part store_part

without_part : (choose : Option ℤ) (at : Target) → Preserves PartChange (without_line choose at)
without_part = without_keeps PartChange part_joined part_itself show_part store_part

take_part : (l : List ℕ) (ls : List (List ℕ)) → Preserves PartChange (take_line l ls)
take_part l ls = record {
  at = λ S a. record {
    place = refl;
    loops = refl;
    calls = refl;
    steps = refl;
    shown = (l ++ newline, append_assoc S.shown l newline);
  };
}

-- what a line is worth
line_value : List ℕ → Cells → Work ℤ
line_value l c = value c (item_of (expression l 0))

again_part : (at : Target) (again : Action (Unit {0})) (r : Result ℤ Fault) → Preserves PartChange again
    → Preserves PartChange (store_or_again at again r)
again_part at again (Ok v) k = store_part at v
again_part at again (Err f) k = then_part (show _) _ (show_part _) (λ _. k)

pub input_part : (said : List ℕ) (x : Tree) (prompt : List ℕ) (lines : List (List ℕ))
    → Preserves PartChange (input_action said x prompt lines)
unfolding input_action line_value
input_part said x prompt [] = then_part (ask_for said x prompt) _ (ask_part said x prompt)
    (λ at. record { at = λ S a. (without_part S.choose at).at S a })
input_part said x prompt (l ∷ ls) =
    then_part (ask_for said x prompt) _ (ask_part said x prompt) (λ at.
    then_part (take_line l ls) _ (take_part l ls) (λ _.
    then_part (evaluation (line_value l)) _ (evaluation_part (line_value l))
    (λ r. again_part at (input_action said x prompt ls) r (input_part said x prompt ls))))

-- the lines are those of the state, whatever they are
take_action_part : (said : List ℕ) (x : Tree) (prompt : List ℕ)
    → Preserves PartChange (λ S. input_action said x prompt S.lines S)
take_action_part said x prompt = record { at = λ S a. (input_part said x prompt S.lines).at S a }

pub parts_part : (parts : List Part) (w : ℕ) (operands : List ℤ) → Preserves PartChange (parts_action parts w operands)
parts_part = parts_keep PartChange part_joined part_itself show_part store_part take_action_part

-- ---- lines are taken one by one, and none comes back

abbrev pub LinesTaken : State → State → Type 0
LinesTaken S T = TakesLines S.lines T.lines

taken_joined : (S T U : State) → LinesTaken S T → LinesTaken T U → LinesTaken S U
taken_joined S T U a b = takes_joined S.lines T.lines U.lines a b

abbrev pub SameLines : State → State → Type 0
SameLines S T = T.lines ≡ S.lines

without_lines : (choose : Option ℤ) (at : Target) → Preserves SameLines (without_line choose at)
without_lines = without_keeps SameLines (λ S T U p q. q ∙ p) (λ S. refl) (λ s. record { at = λ S a. refl })
    (λ at v. record { at = λ S a. refl })

pub ask_lines : (said : List ℕ) (x : Tree) (prompt : List ℕ) → Preserves SameLines (ask_for said x prompt)
ask_lines = ask_keeps SameLines (λ S T U p q. q ∙ p) (λ S. refl) (λ s. record { at = λ S a. refl })
    (λ at v. record { at = λ S a. refl })

-- after what leaves the lines as they are
then_takes : {A B : Type 0} (next : A → Action B) (ls : List (List ℕ)) (o : Outcome (Progress A) State)
    → (action_state o).lines ≡ ls
    → ((x : A) (T : State) (rest : Answers) → T.lines ≡ ls → TakesLines ls (action_state (next x T rest)).lines)
    → TakesLines ls (action_state (go_on o (on_progress next))).lines
then_takes next ls (Done (Goes x T) rest) e each = each x T rest e
then_takes next ls (Done (Halts h T) rest) e each = ([], sym e)
then_takes next ls (Asks n T) e each = ([], sym e)
then_takes next ls (Out n T) e each = ([], sym e)

-- where one line was taken, its value is stored, or what comes again takes more
again_takes : (ls : List (List ℕ)) (at : Target) (again : Action (Unit {0}))
    → ((T : State) (rest : Answers) → T.lines ≡ ls → TakesLines ls (action_state (again T rest)).lines)
    → (r : Result ℤ Fault) (T : State) (rest : Answers) → T.lines ≡ ls
    → TakesLines ls (action_state (store_or_again at again r T rest)).lines
again_takes ls at again each (Ok v) T rest k = ([], sym k)
again_takes ls at again each (Err f) T rest k = each _ rest k

-- an item of INPUT, in a state with these lines
pub input_takes : (said : List ℕ) (x : Tree) (prompt : List ℕ) (ls : List (List ℕ)) (S : State) (a : Answers)
    → S.lines ≡ ls → TakesLines ls (action_state (input_action said x prompt ls S a)).lines
unfolding input_action line_value
input_takes said x prompt [] S a e =
    then_takes _ [] (ask_for said x prompt S a) ((ask_lines said x prompt).at S a ∙ e)
    (λ at T rest k. ([], sym ((without_lines T.choose at).at T rest ∙ k)))
input_takes said x prompt (l ∷ ls) S a e =
    then_takes _ (l ∷ ls) (ask_for said x prompt S a) ((ask_lines said x prompt).at S a ∙ e) (λ at T rest k.
    let U : State = record T { lines = ls; shown = T.shown ++ l ++ newline } in
    takes_joined (l ∷ ls) ls _ (l ∷ [], refl)
    (then_takes (store_or_again at (input_action said x prompt ls)) ls (evaluation (line_value l) U rest)
    (ap (λ (V : State). V.lines) (evaluation_state (line_value l) U rest))
    (again_takes ls at (input_action said x prompt ls) (input_takes said x prompt ls))))

take_action_takes : (said : List ℕ) (x : Tree) (prompt : List ℕ)
    → Preserves LinesTaken (λ S. input_action said x prompt S.lines S)
take_action_takes said x prompt = record { at = λ S a. input_takes said x prompt S.lines S a refl }

pub parts_take : (parts : List Part) (w : ℕ) (operands : List ℤ) → Preserves LinesTaken (parts_action parts w operands)
parts_take = parts_keep LinesTaken taken_joined (λ S. takes_itself S.lines)
    (λ s. record { at = λ S a. takes_itself S.lines }) (λ at v. record { at = λ S a. takes_itself S.lines })
    take_action_takes

-- ---- what a command does with its operands

end_itself : (S : State) → EndChange S S
end_itself S = record { lines = refl; shown = refl; steps = refl; nested = λ h. h }

end_joined : (S T U : State) → EndChange S T → EndChange T U → EndChange S U
end_joined S T U a b = record {
  lines = b.lines ∙ a.lines;
  shown = b.shown ∙ a.shown;
  steps = b.steps ∙ a.steps;
  nested = λ h. b.nested (a.nested h);
}

halt_end : {A : Type 0} (h : Halt) → Preserves EndChange (halt {A = A} h)
halt_end h = record { at = λ S a. end_itself S }

go_to_end : (q : Option Place) → Preserves EndChange (proceed_to q)
go_to_end q = record { at = λ S a. record { lines = refl; shown = refl; steps = refl; nested = λ h. h } }

-- one more is open where there is room
if_room_end : (e : ℕ) (f : State → State) → ((S : State) → (f S).lines ≡ S.lines)
    → ((S : State) → (f S).shown ≡ S.shown) → ((S : State) → (f S).steps ≡ S.steps)
    → ((S : State) → nesting (f S) ≡ nesting S + 1) → Preserves EndChange (if_not_full e f)
if_room_end e f lines shown steps more = record { at = λ S a. by_room S a (is_full S) refl }
  where
    by_room : (S : State) (a : Answers) (b : Bool) → is_full S ≡ b
        → EndChange S (action_state (cond b (fails kinds.Sorry e S a) (change f S a)))
    by_room S a true h = end_itself S
    by_room S a false h = record {
      lines = lines S;
      shown = shown S;
      steps = steps S;
      nested = λ n. omega (arith, more S, leb-false nesting_limit (nesting S) h);
    }

-- how many loops and calls are open in older levels
older : List Call → ℕ
older calls = sum_by (λ c. length c.loops + 1) calls

older_more : (c : Call) (calls : List Call) → older (c ∷ calls) ≡ length c.loops + 1 + older calls
unfolding older
older_more c calls = sum_by-cons (λ (c : Call). length c.loops + 1) c calls

nesting_is : (S : State) → nesting S ≡ length S.loops + older S.calls
unfolding older
nesting_is S = refl

with_call_nesting : (back r : Place) (S : State) → nesting (with_call back r S) ≡ nesting S + 1
with_call_nesting back r S =
    let deep : nesting (with_call back r S) ≡ 0 + older (record { back = back; loops = S.loops } ∷ S.calls) =
    nesting_is (with_call back r S) in
    omega (arith, older_more (record { back = back; loops = S.loops }) S.calls, nesting_is S)

goto_end : (e : ℕ) (r : Option Place) → Preserves EndChange (goto_action e r)
goto_end e (Some r) = go_to_end (Some r)
goto_end e None = halt_end _

gosub_end : (e : ℕ) (back : Place) (r : Option Place) → Preserves EndChange (gosub_action e back r)
gosub_end e back (Some r) = if_room_end e (with_call back r) (λ S. refl) (λ S. refl) (λ S. refl)
    (with_call_nesting back r)
gosub_end e back None = halt_end _

abbrev without_call : Call → List Call → State → State
without_call c calls S = record S { place = Some c.back; loops = c.loops; calls = calls }

without_call_nesting : (c : Call) (calls : List Call) (S : State) → S.calls ≡ c ∷ calls → nesting S ≤ nesting_limit
    → nesting (without_call c calls S) ≤ nesting_limit
without_call_nesting c calls S h n =
    let then_is : nesting (without_call c calls S) ≡ length c.loops + older calls =
    nesting_is (without_call c calls S) in
    omega (arith, older_more c calls, nesting_is S, ap older h)

return_end : (e : ℕ) → Preserves EndChange (λ S. return_action e S.calls S)
return_end e = record { at = λ S a. by_calls S a S.calls refl }
  where
    by_calls : (S : State) (a : Answers) (calls : List Call) → S.calls ≡ calls
        → EndChange S (action_state (return_action e calls S a))
    by_calls S a [] h = end_itself S
    by_calls S a (c ∷ calls) h = record {
      lines = refl;
      shown = refl;
      steps = refl;
      nested = λ n. without_call_nesting c calls S h n;
    }

fewer_loops : (p : Loop → Bool) (ls : List Loop) → length (filter p ls) ≤ length ls
fewer_loops p ls = omega (arith, length-filter p ls, count_by-le-length p ls)

for_end : (e : ℕ) (loop : Loop) → Preserves EndChange (for_action e loop)
for_end e loop =
    then_keeps EndChange end_joined (change (without_loop loop.letter)) (λ _. if_not_full e (with_loop loop))
    (record {
      at = λ S a. record {
        lines = refl;
        shown = refl;
        steps = refl;
        nested = λ n. omega (arith, fewer_loops (λ l. not (l.letter == loop.letter)) S.loops);
      };
    })
    (λ _. if_room_end e (with_loop loop) (λ S. refl) (λ S. refl) (λ S. refl) (λ S. omega arith))

loops_from_fewer : (x : ℕ) (ls : List Loop) → length (loops_from x ls) ≤ length ls
loops_from_fewer x [] = omega arith
loops_from_fewer x (l ∷ ls) = by_letter (l.letter == x) (loops_from_fewer x ls)
  where
    by_letter : (b : Bool) → length (loops_from x ls) ≤ length ls
        → length (cond b (l ∷ ls) (loops_from x ls)) ≤ length (l ∷ ls)
    by_letter true h = omega arith
    by_letter false h = omega arith

after_sum_end : (next : Place) (l : Loop) (ls : List Loop) (r : Result ℤ FaultKind) (S : State)
    → length (l ∷ ls) ≤ length S.loops → EndChange S (after_sum next l ls r S)
after_sum_end next l ls (Err kind) S h = record { lines = refl; shown = refl; steps = refl; nested = λ n. omega arith }
after_sum_end next l ls (Ok v) S h = by_limit (is_past l v) (record S { cells = with_value S.cells l.letter v })
    (record { lines = refl; shown = refl; steps = refl; nested = λ n. n }) h
  where
    by_limit : (b : Bool) (T : State) → EndChange S T → length (l ∷ ls) ≤ length T.loops
        → EndChange S (cond b (loop_end next ls T) (loop_turn l ls T))
    by_limit true T e h = end_joined S T (loop_end next ls T) e
        (record { lines = refl; shown = refl; steps = refl; nested = λ n. omega arith })
    by_limit false T e h = end_joined S T (loop_turn l ls T) e
        (record { lines = refl; shown = refl; steps = refl; nested = λ n. omega arith })

next_end : (e x : ℕ) (next : Place) → Preserves EndChange (λ S. next_action e next (loops_from x S.loops) S)
next_end e x next = record { at = λ S a. by_loops S a (loops_from x S.loops) (loops_from_fewer x S.loops) }
  where
    by_loops : (S : State) (a : Answers) (ls : List Loop) → length ls ≤ length S.loops
        → EndChange S (action_state (next_action e next ls S a))
    by_loops S a [] h = end_itself S
    by_loops S a (l ∷ ls) h = after_sum_end next l ls _ S h

pub finish_end : (kind : Word) (p : Statements) (q : Place) (e x : ℕ) (operands : List ℤ)
    → Preserves EndChange (finish kind p q e x operands)
unfolding finish
finish_end RemKw p q e x operands = go_to_end _
finish_end StopKw p q e x operands = halt_end _
finish_end ReturnKw p q e x operands = return_end e
finish_end IfKw p q e x operands = go_to_end _
finish_end GotoKw p q e x operands = goto_end e _
finish_end GosubKw p q e x operands = gosub_end e _ _
finish_end ForKw p q e x operands = for_end e _
finish_end NextKw p q e x operands = next_end e x _
finish_end _ p q e x operands = go_to_end _

-- ---- complete commands

command_joined : (S T U : State) → CommandChange S T → CommandChange T U → CommandChange S U
command_joined S T U a b = record {
  shown = begins_joined S.shown T.shown U.shown a.shown b.shown;
  lines = takes_joined S.lines T.lines U.lines a.lines b.lines;
  steps = b.steps ∙ a.steps;
  nested = λ h. b.nested (a.nested h);
}

of_parts : (S T : State) → PartChange S T → LinesTaken S T → CommandChange S T
of_parts S T c l = record {
  shown = c.shown;
  lines = l;
  steps = c.steps;
  nested = λ h. omega (arith, nesting_is S, nesting_is T, ap (λ (ls : List Loop). length ls) c.loops, ap older c.calls);
}

of_end : (S T : State) → EndChange S T → CommandChange S T
of_end S T c = record {
  shown = ([], c.shown ∙ sym (append-nil S.shown));
  lines = ([], sym c.lines);
  steps = c.steps;
  nested = c.nested;
}

pub command_change : (p : Statements) (q : Place) (c : Command) → Preserves CommandChange (command_action p q c)
unfolding command_action
command_change p q c =
    then_keeps CommandChange command_joined (action_of (item_of c.parts))
    (finish c.kind p q (end_of c.parts) (letter_of (item_of c.parts)))
    (record {
      at = λ S a. of_parts S _ ((parts_part (item_of c.parts) first_width []).at S a)
          ((parts_take (item_of c.parts) first_width []).at S a);
    })
    (λ operands. record {
      at = λ S a. of_end S _
          ((finish_end c.kind p q (end_of c.parts) (letter_of (item_of c.parts)) operands).at S a);
    })

-- a fault's report only adds to what is shown
step_result_change : (S : State) (n : ℕ) (text : List ℕ) (r : Progress (Unit {0})) → CommandChange S (progress_state r)
    → CommandChange S (step_result_state (step_result_of n text r))
step_result_change S n text (Goes x T) c = c
step_result_change S n text (Halts (Faults f) T) c = record {
  shown = begins_joined S.shown T.shown _ c.shown (report_bytes (is_fresh T.shown) n text f, refl);
  lines = c.lines;
  steps = c.steps;
  nested = c.nested;
}
step_result_change S n text (Halts (Ends ending) T) c = c

act_change : (S : State) (n : ℕ) (text : List ℕ) (o : Outcome (Progress (Unit {0})) State)
    → CommandChange S (action_state o) → CommandChange S (act_state (map_outcome (step_result_of n text) (λ T. T) o))
act_change S n text (Done r rest) c = step_result_change S n text r c
act_change S n text (Asks k T) c = c
act_change S n text (Out k T) c = c

-- a command is a step
pub act_keeps : (p : Statements) (q : Place) (c : Command) (S : State) (a : Answers)
    → CommandChange (with_step S) (act_state (act p q c S a))
unfolding act
act_keeps p q c S a = act_change (with_step S) q.number (text_of p q.number) (command_action p q c (with_step S) a)
    ((command_change p q c).at (with_step S) a)
