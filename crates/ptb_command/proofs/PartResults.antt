-- This file proves the result of a part of a command, whether it is done or stops.
-- Main lemma: `show_comes`.
use Rattle.std.proofs.Common.{◌≡◌, ℕ, List, ◌∷◌, Result, Ok, Err, ℤ}
use Rattle.std.specs.Prelude.{IfOk}
use Rattle.std.specs.Result.{IsErrAnd}
use Rattle.ptb_expr.specs.Tree.{Tree}
use Rattle.ptb_command.specs.declared.stop.CommandStop.{CommandStop}
use Rattle.ptb_command.specs.Act.{value_action, padded_decimal, parts_action}
use Rattle.ptb_command.specs.Commands.{Part, Say, Show}
use Rattle.ptb_command.specs.Actions.{goes_on, show}
use Rattle.ptb_command.specs.Devices.{Refusal, nothing_refused}
use Rattle.ptb_command.specs.Traces.{Trace, with_pending, still_pending, RefinesPart}
use Rattle.ptb_command.specs.Stops.{Comes}
use Rattle.ptb_command.proofs.Actions.{stops_unrefused}
use Rattle.ptb_command.proofs.Parts.{say_refines_part, say_stops, show_refines_part, show_stops}
use Rattle.ptb_command.proofs.Parts.{refines_part_part, stops_part}

-- nothing is done at the exit of a `?`
pub if_ok_never : {X E : Type 0} (P : X → Type 0) (r : Result X E) (e : E) → IsErrAnd r (λ y. y ≡ e) → IfOk r P
if_ok_never P (Ok x) e h = absurd h
if_ok_never P (Err y) e h = tt

-- ---- before these parts, with this width and these operands so far

module _ (refused : Refusal → Type 0) (o n : Trace) (rest : List Part) (w : ℕ) (operands : List ℤ) (p : Part) where
  pub say_comes : (s : List ℕ) → p ≡ Say s → (r : Result (Unit {0}) CommandStop)
      → Comes nothing_refused o n (show s) goes_on r
      → Comes refused o n (parts_action (p ∷ rest) w operands) (λ u. parts_action rest w operands) r
  say_comes s e (Ok x) h = refines_part_part rest w operands p _ e (say_refines_part rest w operands s h)
  say_comes s e (Err x) h =
      let k = with_pending (still_pending n.pending x) n in
      stops_part rest w operands refused o k p _ e x
      (say_stops rest w operands refused o k s x (stops_unrefused refused o k _ x h))

  pub show_comes : (m : Trace) (x : Tree) (v u : ℤ) → p ≡ Show x → u ≡ v → RefinesPart o m (value_action x) (goes_on v)
      → (r : Result (Unit {0}) CommandStop) → Comes nothing_refused m n (show (padded_decimal w u)) goes_on r
      → Comes refused o n (parts_action (p ∷ rest) w operands) (λ u. parts_action rest w operands) r
  show_comes m x v u e k a (Ok y) h =
      refines_part_part rest w operands p _ e (show_refines_part rest w operands x v u k a h)
  show_comes m x v u e k a (Err y) h =
      let l = with_pending (still_pending n.pending y) n in
      stops_part rest w operands refused o l p _ e y
      (show_stops rest w operands refused l x v u k y a (stops_unrefused refused m l _ y h))
