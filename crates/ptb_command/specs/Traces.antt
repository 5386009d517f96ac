-- This file defines how far something has come that is done while it is read.
-- Main definition: `Trace`.
--     Trace                    the devices, what of a state the parts of a command change, and what is still to be
--                              shown
--     with_pending pending o   the same trace, with these bytes to be shown next
--     still_pending pending e  what is to be shown once a part stops for the reason e
--     Fits o left S            a state that is as the trace says, with these lines left
--     state_after n bytes left S     such a state later
--     once_shown pending S     such a state once what is pending is shown
--     RefinesPart o n f g            from trace o to trace n, what f does is what is left to do for g
use Rattle.std.specs.Prelude.{◌≡◌, ◌==◌, ◌-◌, ℕ, Bool, if◌then◌else◌, List, [], ◌∷◌, ◌++◌, length, slice_index, ℤ}
use Rattle.ptb_answers.specs.Outcome.{Answers, Outcome}
use Rattle.ptb_answers.specs.Choices.{AsksFor}
use Rattle.ptb_expr.specs.Store.{Cells}
use Rattle.ptb_command.specs.declared.stop.CommandStop.{CommandStop}
use Rattle.ptb_command.specs.declared.stop.CommandStop.TheVariants as stops
use Rattle.ptb_command.specs.State.{State}
use Rattle.ptb_command.specs.Act.{is_fresh}
use Rattle.ptb_command.specs.Devices.{Devices, Exchange, Exchanges, MayFollow}

-- whether the transcript is fresh is known, and nothing else of it
pub record Trace : Type 0 where
  pub devices : Devices
  pub fresh : Bool
  pub cells : Cells
  -- bytes that are gathered, and not shown yet
  pub pending : List ℕ

-- where nothing is gathered
abbrev pub trace : Devices → Bool → Cells → Trace
trace devices fresh cells = record { devices = devices; fresh = fresh; cells = cells; pending = [] }

abbrev pub with_pending : List ℕ → Trace → Trace
with_pending pending o = record o { pending = pending }

-- where a device broke, or no line was left, nothing of it will be shown
abbrev pub still_pending : List ℕ → CommandStop → List ℕ
still_pending [] e = []
still_pending (b ∷ pending) (stops.Fault f) = b ∷ pending
still_pending (b ∷ pending) stops.Over = b ∷ pending
still_pending (b ∷ pending) stops.NoInput = []
still_pending (b ∷ pending) (stops.Pause z) = b ∷ pending
still_pending (b ∷ pending) (stops.Device fault) = []

-- whatever was shown before, these bytes make a transcript that was fresh or not into one that is or not
abbrev pub Freshens : Bool → List ℕ → Bool → Type 0
Freshens old bytes new = (shown : List ℕ) → is_fresh shown ≡ old → is_fresh (shown ++ bytes) ≡ new

-- whether a transcript is fresh once these bytes were shown
abbrev pub fresh_after : Bool → List ℕ → Bool
fresh_after fresh bytes = if length bytes == 0 then fresh else slice_index bytes (length bytes - 1) == 10

-- ---- states

pub record Fits (o : Trace) (left : List (List ℕ)) (S : State) : Type 0 where
  pub fresh : is_fresh S.shown ≡ o.fresh
  pub cells : S.cells ≡ o.cells
  pub lines : S.lines ≡ left

-- once the trace is n, these bytes were shown, and these lines are left
abbrev pub state_after : Trace → List ℕ → List (List ℕ) → State → State
state_after n bytes left S = record S { cells = n.cells; lines = left; shown = S.shown ++ bytes }

-- these bytes after what is shown; what isn't there changes nothing
abbrev pub following : List ℕ → List ℕ → List ℕ
following shown [] = shown
following shown (b ∷ pending) = shown ++ b ∷ pending

abbrev pub once_shown : List ℕ → State → State
once_shown pending S = record S { shown = following S.shown pending }

-- ---- moves

-- f takes these answers, each to a question with its bound, and what is left of it is g
pub record Leaves {A W : Type 0} (f : Answers → Outcome A W) (answers : Answers) (bounds : List ℤ) (g : Answers
    → Outcome A W) : Type 0 where
  pub asked : AsksFor f answers bounds
  pub rest : (λ later. f (answers ++ later)) ≡ g

-- in every state that fits, whose lines begin with those that are taken, and have left what may follow them;
-- what is gathered counts as shown for f and g, and not for the screen
pub record RefinesPart {A : Type 0} (o n : Trace) (f g : State → Answers → Outcome A State) : Type 0 where
  pub exchange : Exchange
  pub exchanges : Exchanges o.devices n.devices exchange
  pub fresh : Freshens o.fresh exchange.bytes n.fresh
  pub leaves : (S : State) (rest : List (List ℕ)) → MayFollow n.devices rest S.choose
      → Fits o (exchange.given ++ rest) S
      → Leaves (f (once_shown o.pending S)) exchange.answers exchange.bounds
      (g (once_shown n.pending (state_after n exchange.bytes rest S)))
