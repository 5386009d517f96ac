-- This file proves the result of a part of a command that works something out.
-- Main lemma: `has_result`.
use Rattle.std.proofs.Common.{◌≡◌, ℕ, List, Bool, [], ◌++◌, Result, Ok, Err, ℤ, refl, sym, ap}
use Rattle.std.proofs.Common.{subst, ◌∙◌, append-nil, arith, inl, inr}
use Rattle.ptb_expr.specs.declared.fault.Fault.{Fault}
use Rattle.ptb_expr.specs.declared.fault.Stop.{Stop as NoValue}
use Rattle.ptb_expr.specs.declared.fault.Stop.TheVariants as values
use Rattle.ptb_answers.specs.declared.pause.Pause.{Pause}
use Rattle.ptb_answers.specs.declared.pause.Pause.TheVariants as pauses
use Rattle.ptb_answers.specs.Outcome.{Answers, Outcome, Done, map_outcome, success}
use Rattle.ptb_answers.specs.Choices.{Choices, Reaches, Pauses}
use Rattle.ptb_expr.specs.Store.{Cells}
use Rattle.ptb_expr.specs.Value.{Work}
use Rattle.ptb_expr.specs.Evaluation.{WorkComes}
use Rattle.ptb_command.specs.declared.ending.Ending.TheVariants as endings
use Rattle.ptb_text.specs.declared.device_fault.DeviceFault.TheVariants as faults
use Rattle.ptb_command.specs.State.{State}
use Rattle.ptb_command.specs.Actions.{Ends, Progress, Goes, Halts, goes_on, evaluation, or_halt, work_action}
use Rattle.ptb_command.specs.Effects.{action_state}
use Rattle.ptb_command.specs.Effects.{action_state}
use Rattle.ptb_command.specs.Devices.{Devices, answers_alone, refused_answers, with_choices}
use Rattle.ptb_command.specs.Traces.{trace, with_pending, still_pending, state_after, once_shown, Leaves, RefinesPart}
use Rattle.ptb_command.specs.Stops.{stop_of, stop_of_pause, IsRefusal, AsksUnanswered, DeviceFails}
use Rattle.ptb_command.specs.Stops.{Stops, RefinesPartTo}
use Rattle.ptb_command.proofs.Effects.{evaluation_state}
use Rattle.ptb_command.proofs.Exchanges.{shows_nothing}
use Rattle.ptb_command.proofs.PartRefinement.{leaves_under, leaves_to, once_nothing}
use Rattle.ptb_command.proofs.PartRefinement.{freshens_nothing, refines_part_under}
use Rattle.ptb_command.proofs.PendingBytes.{after_is, refines_part_dropped, stops_pending, stops_dropped}
use Rattle.ptb_command.specs.declared.stop.CommandStop.TheVariants as stops
use Rattle.ptb_command.proofs.Stops.{asks_before, evaluation_adds, or_halt_adds, stops_under}

-- for devices that hold d except the choices, and a state that is fresh or not, with these bytes due and these cells
module _ {A : Type 0} (f : Cells → Work A) (c e : Choices) (d : Devices) (fresh : Bool) (pending : List ℕ)
    (cells : Cells) where
  -- what is left of the work is what is left to do
  attempted : (g : Work A) → Reaches (f cells) c e g
      → RefinesPart (with_pending pending (trace (with_choices c d) fresh cells))
      (with_pending pending (trace (with_choices e d) fresh cells)) (evaluation f) (evaluation (λ k. g))
  attempted g p = record {
    exchange = answers_alone p.answers p.bounds;
    exchanges = record {
      grown = p.grown;
      shows = shows_nothing d.screen;
      unfailed = refl;
      given = sym (append-nil d.given);
      falls = omega arith;
      same_choose = refl;
    };
    fresh = freshens_nothing fresh;
    leaves = λ S rest _ w.
        let n = with_pending pending (trace (with_choices e d) fresh cells) in
        let later : Answers → Outcome (Progress (Result A Fault)) State =
        evaluation (λ k. g) (once_shown pending (state_after n [] rest S)) in
        subst (λ k. Leaves (λ a. map_outcome (λ r. Goes r (once_shown pending S)) (λ u. once_shown pending S) (f k a))
        p.answers
        p.bounds later) (sym w.cells)
        (leaves_to later
        (ap (λ (T : State). evaluation (λ k. g) T) (once_nothing n pending rest S
        (record { fresh = w.fresh; cells = w.cells; lines = w.lines })))
        (leaves_under (λ o. map_outcome (λ r. Goes r (once_shown pending S)) (λ u. once_shown pending S) o)
        (λ u. once_shown pending S) (λ n v. refl) (record { asked = p.asked; rest = p.rest })));
  }

  waits : (refused : Pause → ℤ → Type 0) (z : Pause) → IsRefusal z → Pauses refused (f cells) c e z
      → AsksUnanswered (refused_answers refused) (RefinesPartTo
      (with_pending pending (trace (with_choices c d) fresh cells))
      (with_pending pending (trace (with_choices e d) fresh cells)) (evaluation f)) (with_choices e d) action_state z
  waits refused z r p = record {
    left = evaluation (λ k. p.left);
    bound = p.bound;
    comes = attempted p.left p.reaches;
    question = λ S. asks_before (λ o. map_outcome (λ r. Goes r S) (λ u. S) o) (λ v. S) (λ n v. refl)
        (λ n v. refl) p.left p.bound p.beside z (record { asks = p.asks; outside = p.outside });
    continues = record {
      begins = λ S a. ((evaluation_adds (λ k. p.left)).at S a).shown;
      takes = λ S a. ((evaluation_adds (λ k. p.left)).at S a).lines;
    };
    pause = r;
    refuses = p.refuses;
  }

  -- what was gathered isn't shown then
  breaks : (refused : Pause → ℤ → Type 0) → Pauses refused (f cells) c e pauses.Memory
      → DeviceFails (refused_answers refused) (RefinesPartTo (with_pending pending
      (trace (with_choices c d) fresh cells))
      (trace (with_choices e d) fresh cells) (evaluation f)) (with_choices e d) action_state
      (Halts (Ends endings.NoInput)) faults.Memory
  breaks refused p = record {
    left = λ S. evaluation (λ k. p.left) (once_shown pending S);
    screen = d.screen;
    bytes = [];
    comes = refines_part_dropped (attempted p.left p.reaches);
    shows = shows_nothing d.screen;
    continues = record {
      begins = λ S a. (
        pending,
        ap (λ (T : State). T.shown) (evaluation_state (λ k. p.left) (once_shown pending S) a)
            ∙ after_is S.shown pending ∙ ap (λ s. s ++ pending) (sym (append-nil S.shown)),
      );
      takes = λ S a. ([], sym (ap (λ (T : State). T.lines) (evaluation_state (λ k. p.left) (once_shown pending S) a)));
    };
    line = λ unread. absurd unread;
    broken = (record { by = inr (inl (p.bound, p.refuses)) }, refl);
  }

  -- a result, which may be a fault
  pub has_result : (r : Result A Fault) → Reaches (f cells) c e (λ a. Done r a)
      → RefinesPart (with_pending pending (trace (with_choices c d) fresh cells))
      (with_pending pending (trace (with_choices e d) fresh cells)) (evaluation f) (goes_on r)
  has_result r p = attempted (λ a. Done r a) p

  -- a pause
  pub has_paused : (refused : Pause → ℤ → Type 0) (z : Pause) → Pauses refused (f cells) c e z
      → Stops (refused_answers refused) (RefinesPartTo (with_pending pending (trace (with_choices c d) fresh cells))
      (with_pending (still_pending pending (stop_of_pause z)) (trace (with_choices e d) fresh cells)) (evaluation f))
      (with_choices e d) (stop_of_pause z)
  has_paused refused pauses.Ended p =
      stops_pending _ _ _ _ (stops.Pause pauses.Ended) refl (waits refused pauses.Ended tt p)
  has_paused refused (pauses.OutOfRange k) p =
      stops_pending _ _ _ _ (stops.Pause (pauses.OutOfRange k)) refl (waits refused (pauses.OutOfRange k) tt p)
  has_paused refused pauses.Memory p = stops_dropped _ _ _ _ (stops.Device faults.Memory) refl (breaks refused p)

  -- a value, which the code has as v
  pub has_value : (w v : A) → v ≡ w → Reaches (f cells) c e (success w)
      → RefinesPart (with_pending pending (trace (with_choices c d) fresh cells))
      (with_pending pending (trace (with_choices e d) fresh cells)) (work_action f) (goes_on v)
  has_value w v h p =
      subst (λ (x : A). RefinesPart (with_pending pending (trace (with_choices c d) fresh cells))
      (with_pending pending (trace (with_choices e d) fresh cells)) (work_action f) (goes_on x)) (sym h)
      (refines_part_under or_halt (has_result (Ok w) p))

  -- no value
  pub has_no_value : (refused : Pause → ℤ → Type 0) (s : NoValue) → WorkComes refused (f cells) c e (Err s)
      → Stops (refused_answers refused) (RefinesPartTo (with_pending pending (trace (with_choices c d) fresh cells))
      (with_pending (still_pending pending (stop_of s)) (trace (with_choices e d) fresh cells)) (work_action f))
      (with_choices e d) (stop_of s)
  has_no_value refused (values.Fault x) p = stops_pending (refused_answers refused)
      (with_pending pending (trace (with_choices c d) fresh cells))
      (with_pending pending (trace (with_choices e d) fresh cells))
      (work_action f) (stops.Fault x) refl (refines_part_under or_halt (has_result (Err x) p))
  has_no_value refused (values.Pause z) p = stops_under (refused_answers refused) _ _
      (evaluation f) or_halt or_halt_adds
      (stop_of_pause z) (has_paused refused z p)
