-- This file proves that what a command does once its parts are done takes no answer.
-- Main lemma: `finish_spends`.
use Rattle.std.proofs.Common.{◌≡◌, ℕ, ◌+◌, Bool, true, false, cond, List, [], ◌∷◌, Option, Some}
use Rattle.std.proofs.Common.{None, Result, Ok, Err, refl, ap, arith}
use Rattle.std.specs.Prelude.{ℤ, pos, neg_ℤ, ◌+ℤ◌}
use Rattle.ptb_text.specs.declared.word.Word.{Word}
use Rattle.ptb_text.specs.declared.word.Word.TheVariants.{NextKw, IfKw, GotoKw, GosubKw, ReturnKw}
use Rattle.ptb_text.specs.declared.word.Word.TheVariants.{RemKw, ForKw, StopKw}
use Rattle.ptb_text.specs.Statements.{Statements}
use Rattle.ptb_expr.specs.declared.fault.FaultKind.{FaultKind}
use Rattle.ptb_expr.specs.declared.fault.FaultKind.TheVariants as kinds
use Rattle.ptb_expr.specs.Store.{value_at, with_value}
use Rattle.ptb_expr.specs.Value.{in_range}
use Rattle.ptb_command.specs.State.{Place, Loop, Call, State}
use Rattle.ptb_command.specs.Actions.{change}
use Rattle.ptb_command.specs.Act.{fails, is_full, if_not_full, goto_action, with_call, gosub_action}
use Rattle.ptb_command.specs.Act.{return_action, without_loop, with_loop, for_action, loops_from}
use Rattle.ptb_command.specs.Act.{after_sum, is_past, loop_end, loop_turn, next_action, finish}
use Rattle.ptb_machine.proofs.Budgets.{Budget, done_budget}
use Rattle.ptb_machine.proofs.SpentAnswers.{left_for, Spends, halt_spends, after_spends, lines_cost}
use Rattle.ptb_machine.proofs.SpentAnswers.{later, become_spends}

module _ (again : ℕ) where
  if_room_spends : (e : ℕ) (f : State → State) → ((S : State) → (f S).lines ≡ S.lines)
      → Spends (later again) (if_not_full e f) 0
  if_room_spends e f same = record { at = λ S. by_room S (is_full S) }
    where
      by_room : (S : State) (b : Bool)
          → Budget (λ a. cond b (fails kinds.Sorry e S a) (change f S a)) (0 + later again S) (left_for (later again))
      by_room S true = (halt_spends (later again) 0 _).at S
      by_room S false = (become_spends again f same).at S

  goto_spends : (e : ℕ) (r : Option Place) → Spends (later again) (goto_action e r) 0
  goto_spends e (Some r) = become_spends again _ (λ S. refl)
  goto_spends e None = halt_spends _ 0 _

  gosub_spends : (e : ℕ) (back : Place) (r : Option Place) → Spends (later again) (gosub_action e back r) 0
  gosub_spends e back (Some r) = if_room_spends e (with_call back r) (λ S. refl)
  gosub_spends e back None = halt_spends _ 0 _

  return_spends : (e : ℕ) → Spends (later again) (λ S. return_action e S.calls S) 0
  unfolding left_for later
  return_spends e = record { at = λ S. by_calls S S.calls }
    where
      by_calls : (S : State) (calls : List Call)
          → Budget (return_action e calls S) (0 + later again S) (left_for (later again))
      by_calls S [] = done_budget _ _ _ (omega arith)
      by_calls S (c ∷ calls) = done_budget _ _ _ (omega arith)

  for_spends : (e : ℕ) (loop : Loop) → Spends (later again) (for_action e loop) 0
  for_spends e loop = after_spends _ (change (without_loop loop.letter)) _ 0 (become_spends again _ (λ S. refl))
      (λ _. if_room_spends e (with_loop loop) (λ S. refl))

  after_sum_lines : (next : Place) (l : Loop) (ls : List Loop) (r : Result ℤ FaultKind) (S : State)
      → (after_sum next l ls r S).lines ≡ S.lines
  after_sum_lines next l ls (Err kind) S = refl
  after_sum_lines next l ls (Ok v) S = by_limit (is_past l v) (record S { cells = with_value S.cells l.letter v })
    where
      by_limit : (b : Bool) (T : State) → (cond b (loop_end next ls T) (loop_turn l ls T)).lines ≡ T.lines
      by_limit true T = refl
      by_limit false T = refl

  next_spends : (e x : ℕ) (next : Place) → Spends (later again) (λ S. next_action e next (loops_from x S.loops) S) 0
  unfolding left_for later
  next_spends e x next = record { at = λ S. by_loops S (loops_from x S.loops) }
    where
      by_loops : (S : State) (ls : List Loop)
          → Budget (next_action e next ls S) (0 + later again S) (left_for (later again))
      by_loops S [] = done_budget _ _ _ (omega arith)
      by_loops S (l ∷ ls) = done_budget _ _ _ (omega (
        arith,
        ap (lines_cost again)
            (after_sum_lines next l ls (in_range (neg_ℤ (pos 32768)) (value_at S.cells l.letter +ℤ l.step)) S),
      ))

  pub finish_spends : (kind : Word) (p : Statements) (q : Place) (e x : ℕ) (operands : List ℤ)
      → Spends (later again) (finish kind p q e x operands) 0
  unfolding finish
  finish_spends RemKw p q e x operands = become_spends again _ (λ S. refl)
  finish_spends StopKw p q e x operands = halt_spends _ 0 _
  finish_spends ReturnKw p q e x operands = return_spends e
  finish_spends IfKw p q e x operands = become_spends again _ (λ S. refl)
  finish_spends GotoKw p q e x operands = goto_spends e _
  finish_spends GosubKw p q e x operands = gosub_spends e _ _
  finish_spends ForKw p q e x operands = for_spends e _
  finish_spends NextKw p q e x operands = next_spends e x _
  finish_spends _ p q e x operands = become_spends again _ (λ S. refl)
