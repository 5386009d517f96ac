-- This file proves that a command which halts keeps its place, and at which command a run ends with a fault.
-- Main lemma: `play_next`.
use Rattle.std.proofs.Common.{◌≡◌, ◌∙◌, ℕ, zero, suc, Bool, true, false, cond, leb, List, [], ◌∷◌}
use Rattle.std.proofs.Common.{Option, Some, None, ap, refl}
use Rattle.std.specs.Prelude.{ℤ, ◌-◌}
use Rattle.ptb_text.specs.declared.word.Word.{Word}
use Rattle.ptb_text.specs.declared.word.Word.TheVariants.{NextKw, IfKw, GotoKw, GosubKw, ReturnKw}
use Rattle.ptb_text.specs.declared.word.Word.TheVariants.{RemKw, ForKw, StopKw}
use Rattle.ptb_text.specs.Statements.{Statements, StoredProgram}
use Rattle.ptb_answers.specs.Outcome.{Answers, Outcome, Done, Asks, Out, go_on, map_outcome}
use Rattle.ptb_answers.specs.declared.rules.Rules.{Rules}
use Rattle.ptb_expr.specs.declared.fault.FaultKind.{FaultKind}
use Rattle.ptb_expr.specs.declared.fault.FaultKind.TheVariants as kinds
use Rattle.ptb_expr.specs.Reading.{item_of}
use Rattle.ptb_command.specs.declared.ending.Ending.TheVariants as endings
use Rattle.ptb_command.specs.Actions.{Faults, Ends, Progress, Goes, Halts, Action, on_progress}
use Rattle.ptb_command.specs.Act.{fails, is_full, if_not_full, goto_action, gosub_action, return_action, action_of}
use Rattle.ptb_command.specs.Act.{without_loop, with_loop, with_call, loops_from, next_action}
use Rattle.ptb_command.specs.State.{statement, Place, Loop, Call, State, next_index, next_command, text_of, first_state}
use Rattle.ptb_command.specs.Commands.{letter_of, Command}
use Rattle.ptb_command.specs.Act.{operand, finish, end_of, first_width}
use Rattle.ptb_command.specs.Act.{command_action, StepResult, Next, Over}
use Rattle.ptb_command.specs.Act.{step_result_of, ending_of, with_step, act}
use Rattle.ptb_command.specs.Effects.{action_state}
use Rattle.ptb_machine.specs.Laws.{EffectLaws}
use Rattle.ptb_machine.specs.Play.{FinalState, act_unless, turn_by, turn, after_turn, turns_within}
use Rattle.ptb_machine.specs.Play.{all_turns, last_state, Finish, finish_of, turns, play}
use Rattle.ptb_check.specs.Laws.{end_state}

-- ---- commands

-- where it halts, the place is as before
abbrev HaltStays : {A : Type 0} → State → Outcome (Progress A) State → Type 0
HaltStays S (Done (Goes x T) rest) = Unit {0}
HaltStays S (Done (Halts h T) rest) = T.place ≡ S.place
HaltStays S (Asks n T) = Unit {0}
HaltStays S (Out n T) = Unit {0}

room_stays : (e : ℕ) (f : State → State) (S : State) (a : Answers) → HaltStays S (if_not_full e f S a)
room_stays e f S a = by_room (is_full S)
  where
    by_room : (b : Bool) → HaltStays S (cond b (fails kinds.Sorry e S a) (Done (Goes tt (f S)) a))
    by_room true = refl
    by_room false = tt

return_stays : (e : ℕ) (calls : List Call) (S : State) (a : Answers) → HaltStays S (return_action e calls S a)
return_stays e [] S a = refl
return_stays e (c ∷ calls) S a = tt

goto_stays : (e : ℕ) (o : Option Place) (S : State) (a : Answers) → HaltStays S (goto_action e o S a)
goto_stays e (Some r) S a = tt
goto_stays e None S a = refl

gosub_stays : (e : ℕ) (back : Place) (o : Option Place) (S : State) (a : Answers)
    → HaltStays S (gosub_action e back o S a)
gosub_stays e back (Some r) S a = room_stays e (with_call back r) S a
gosub_stays e back None S a = refl

next_stays : (e : ℕ) (next : Place) (loops : List Loop) (S : State) (a : Answers)
    → HaltStays S (next_action e next loops S a)
next_stays e next [] S a = refl
next_stays e next (l ∷ ls) S a = tt

for_stays : (e : ℕ) (loop : Loop) (S : State) (a : Answers)
    → HaltStays S (if_not_full e (with_loop loop) (without_loop loop.letter S) a)
for_stays e loop S a = by_room (is_full (without_loop loop.letter S))
  where
    by_room : (b : Bool)
        → HaltStays S (cond b (fails kinds.Sorry e (without_loop loop.letter S) a)
        (Done (Goes tt (with_loop loop (without_loop loop.letter S))) a))
    by_room true = refl
    by_room false = tt

finish_stays : (kind : Word) (p : Statements) (q : Place) (e x : ℕ) (operands : List ℤ) (S : State) (a : Answers)
    → HaltStays S (finish kind p q e x operands S a)
unfolding finish
finish_stays RemKw p q e x operands S a = tt
finish_stays StopKw p q e x operands S a = refl
finish_stays ReturnKw p q e x operands S a = return_stays e S.calls S a
finish_stays IfKw p q e x operands S a = tt
finish_stays GotoKw p q e x operands S a = goto_stays e (statement p (operand operands 0)) S a
finish_stays GosubKw p q e x operands S a = gosub_stays e (next_index q) (statement p (operand operands 0)) S a
finish_stays ForKw p q e x operands S a = for_stays e _ S a
finish_stays NextKw p q e x operands S a = next_stays e (next_index q) (loops_from x S.loops) S a
finish_stays _ p q e x operands S a = tt

stays_as : {A : Type 0} (S T : State) (o : Outcome (Progress A) State) → T.place ≡ S.place → HaltStays T o
    → HaltStays S o
stays_as S T (Done (Goes x U) rest) e h = tt
stays_as S T (Done (Halts halt U) rest) e h = h ∙ e
stays_as S T (Asks n U) e h = tt
stays_as S T (Out n U) e h = tt

then_stays : {A B : Type 0} (S : State) (o : Outcome (Progress A) State) (next : A → Action B)
    → (action_state o).place ≡ S.place → ((x : A) (T : State) (a : Answers) → HaltStays T (next x T a))
    → HaltStays S (go_on o (on_progress next))
then_stays S (Done (Goes x T) rest) next e each = stays_as S T (next x T rest) e (each x T rest)
then_stays S (Done (Halts halt T) rest) next e each = e
then_stays S (Asks n T) next e each = tt
then_stays S (Out n T) next e each = tt

-- ---- one turn

abbrev OverStays : State → Outcome StepResult State → Type 0
OverStays S (Done (Next T) rest) = Unit {0}
OverStays S (Done (Over ending T) rest) = T.place ≡ S.place
OverStays S (Asks n T) = Unit {0}
OverStays S (Out n T) = Unit {0}

result_stays : (n : ℕ) (text : List ℕ) (S : State) (o : Outcome (Progress (Unit {0})) State) → HaltStays S o
    → OverStays S (map_outcome (step_result_of n text) (λ T. T) o)
result_stays n text S (Done (Goes x T) rest) h = tt
result_stays n text S (Done (Halts (Faults f) T) rest) h = h
result_stays n text S (Done (Halts (Ends ending) T) rest) h = h
result_stays n text S (Asks k T) h = tt
result_stays n text S (Out k T) h = tt

-- the command that is next where a run is over with a fault
pub record StandsNext (p : Statements) (T : State) : Type 0 where
  pub place : Place
  pub command : Command
  pub next : next_command p T.place ≡ Some (place, command)

not_end : (kind : FaultKind) → endings.End ≡ ending_of kind → ⊥
not_end kinds.What e = cc e
not_end kinds.How e = cc e
not_end kinds.Sorry e = cc e

not_limit : (kind : FaultKind) → endings.Limit ≡ ending_of kind → ⊥
not_limit kinds.What e = cc e
not_limit kinds.How e = cc e
not_limit kinds.Sorry e = cc e

module _ (effects : EffectLaws) where
  command_stays : (p : Statements) (q : Place) (c : Command) (S : State) (a : Answers)
      → HaltStays S (command_action p q c S a)
  unfolding command_action
  command_stays p q c S a =
      then_stays S (action_of (item_of c.parts) S a) _
      (effects.parts (item_of c.parts) first_width [] S a).place
      (λ operands T b. finish_stays c.kind p q (end_of c.parts) (letter_of (item_of c.parts)) operands T b)

  act_stays : (p : Statements) (q : Place) (c : Command) (S : State) (a : Answers) → OverStays S (act p q c S a)
  unfolding act
  act_stays p q c S a =
      result_stays q.number (text_of p q.number) S (command_action p q c (with_step S) a)
      (stays_as S (with_step S) _ refl (command_stays p q c (with_step S) a))

  module _ (p : StoredProgram) (limit : ℕ) (kind : FaultKind) where
    abbrev NextWhereOver : Outcome StepResult State → Type 0
    NextWhereOver (Done (Next T) rest) = Unit {0}
    NextWhereOver (Done (Over ending T) rest) = ending ≡ ending_of kind → StandsNext p.lines T
    NextWhereOver (Asks n T) = Unit {0}
    NextWhereOver (Out n T) = Unit {0}

    stands : (q : Place) (c : Command) (S : State) (o : Outcome StepResult State)
        → next_command p.lines S.place ≡ Some (q, c) → OverStays S o → NextWhereOver o
    stands q c S (Done (Next T) rest) e h = tt
    stands q c S (Done (Over ending T) rest) e h =
        λ _. record { place = q; command = c; next = ap (next_command p.lines) h ∙ e }
    stands q c S (Asks n T) e h = tt
    stands q c S (Out n T) e h = tt

    by_limit : (q : Place) (c : Command) (S : State) (a : Answers) (b : Bool)
        → next_command p.lines S.place ≡ Some (q, c) → NextWhereOver (act_unless p (q, c) b S a)
    by_limit q c S a true e = λ h. absurd (not_limit kind h)
    by_limit q c S a false e = stands q c S (act p.lines q c S a) e (act_stays p.lines q c S a)

    by_next : (S : State) (a : Answers) (o : Option (Place × Command)) → next_command p.lines S.place ≡ o
        → NextWhereOver (turn_by p limit o S a)
    by_next S a None e = λ h. absurd (not_end kind h)
    by_next S a (Some r) e = by_limit r.0 r.1 S a (leb limit S.steps) e

    turn_next : (S : State) (a : Answers) → NextWhereOver (turn p limit S a)
    unfolding turn
    turn_next S a = by_next S a (next_command p.lines S.place) refl

    -- ---- runs

    abbrev NextAtLast : Outcome FinalState State → Type 0
    NextAtLast (Done last rest) = last.ending ≡ ending_of kind → StandsNext p.lines last.state
    NextAtLast (Asks n T) = Unit {0}
    NextAtLast (Out n T) = Unit {0}

    after_next : (others : State → Answers → Outcome FinalState State) (o : Outcome StepResult State)
        → ((T : State) (a : Answers) → NextAtLast (others T a)) → NextWhereOver o
        → NextAtLast (go_on o (after_turn others))
    after_next others (Done (Next T) rest) each h = each T rest
    after_next others (Done (Over ending T) rest) each h = h
    after_next others (Asks n T) each h = tt
    after_next others (Out n T) each h = tt

    within_next : (n : ℕ) (S : State) (a : Answers) → NextAtLast (turns_within n p limit S a)
    unfolding turns_within
    within_next zero S a = λ h. absurd (not_limit kind h)
    within_next (suc n) S a = after_next (turns_within n p limit) (turn p limit S a) (within_next n) (turn_next S a)

    all_next : (S : State) (a : Answers) → NextAtLast (all_turns p limit S a)
    unfolding all_turns
    all_next S a = within_next (suc (limit - S.steps)) S a

    -- as the result of play has the end of a run
    told_next : (o : Outcome FinalState State) (f : Finish) (rest : Answers) → NextAtLast o
        → map_outcome (λ g. g) (λ (S : State). S.shown) (map_outcome finish_of (λ (S : State). S) o) ≡ Done f rest
        → f.ending ≡ ending_of kind → StandsNext p.lines (last_state o)
    told_next (Done last r) f rest h e k = let same : finish_of last ≡ f = cc in
        h (ap (λ (g : Finish). g.ending) same ∙ k)
    told_next (Asks n T) f rest h e k = absurd cc
    told_next (Out n T) f rest h e k = absurd cc

  pub play_next : (p : StoredProgram) (input : List (List ℕ)) (rules : Rules) (a rest : Answers) (f : Finish)
      (kind : FaultKind)
      → play p input rules a ≡ Done f rest → f.ending ≡ ending_of kind → StandsNext p.lines (end_state p input rules a)
  unfolding play turns
  play_next p input rules a rest f kind e h =
      let S = first_state p input rules.choose in
      told_next p rules.limit kind (all_turns p rules.limit S a) f rest (all_next p rules.limit kind S a) e h
