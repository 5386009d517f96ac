-- This file defines the result of a part of a command, where it stops and where it continues.
-- Main definition: `Comes`.
--
-- Where a device stops it, `left` is what is left to do. A question that was refused, or a line that isn't there, is
-- what is left next; where a device broke, the screen may have shown some of what is left.
--     stop_of                              why a command stops where an expression has no value
--     as_stop result                       the fault of a device as why a command stops
--     AsksNext f bound beside z            f asks a question next, which is refused for this pause
--     Continues state shown left           what is left takes back nothing
--     LacksLine choose ends left S         without a line it ends, or asks for an answer
--     WantsLine ends bytes left            a line is wanted next
--     AsksUnanswered, IsOutOfLines, DeviceFails                 it stops at a question, at an input line, at a device
--     Stops refused R n e                  it stops for the reason e
--     still_shows result                   with this result, what is gathered is shown
--     Miss, stop_miss, miss_of             whether a result reports that a line was asked for without success
--     UnlessMissed refused P miss          P holds, unless that is reported
--     NotMissed choose old new most        no line was asked for without success, unless an answer was asked for
--                                          instead
--     ReportsMissed source choose old new miss    the same of a source, unless it is reported
--     Comes refused o n f ok result        from trace o to trace n, f has the result
use Rattle.std.specs.Prelude.{◌≡◌, ◌≤◌, ◌⊎◌, ℕ, Bool, true, false, List, [], ◌++◌, Option, Some}
use Rattle.std.specs.Prelude.{None, Result, Ok, Err, ℤ, pos, ◌≤ℤ◌}
use Rattle.ptb_expr.specs.declared.fault.Stop.{Stop as NoValue}
use Rattle.ptb_expr.specs.declared.fault.Stop.TheVariants as values
use Rattle.ptb_answers.specs.declared.pause.Pause.{Pause}
use Rattle.ptb_answers.specs.declared.pause.Pause.TheVariants as pauses
use Rattle.ptb_answers.specs.Outcome.{Answers, Outcome, Done, Asks}
use Rattle.ptb_answers.specs.Choices.{SaysOut}
use Rattle.ptb_command.specs.declared.ending.Ending.TheVariants as endings
use Rattle.ptb_text.specs.declared.device_fault.DeviceFault.{DeviceFault}
use Rattle.ptb_text.specs.declared.device_fault.DeviceFault.TheVariants as faults
use Rattle.ptb_devices.specs.declared.lines.LineSource as sources
use Rattle.ptb_command.specs.declared.stop.CommandStop.{CommandStop}
use Rattle.ptb_command.specs.declared.stop.CommandStop.TheVariants as stops
use Rattle.ptb_command.specs.State.{State}
use Rattle.ptb_command.specs.Actions.{Faults, Ends, Halts, Action, halt}
use Rattle.ptb_command.specs.Effects.{action_state, Begins, TakesLines}
use Rattle.ptb_command.specs.Devices.{ScreenState, Devices, with_screen, Shows, Refusal, Unanswered, NoLine}
use Rattle.ptb_command.specs.Devices.{HasBroken, IsInputFault}
use Rattle.ptb_command.specs.Traces.{Trace, with_pending, still_pending, RefinesPart}

abbrev pub as_stop : {X : Type 0} → Result X DeviceFault → Result X CommandStop
as_stop (Ok x) = Ok x
as_stop (Err fault) = Err (stops.Device fault)

-- a chooser that was refused memory is a device that has failed
abbrev pub stop_of_pause : Pause → CommandStop
stop_of_pause pauses.Ended = stops.Pause pauses.Ended
stop_of_pause (pauses.OutOfRange k) = stops.Pause (pauses.OutOfRange k)
stop_of_pause pauses.Memory = stops.Device faults.Memory

abbrev pub stop_of : NoValue → CommandStop
stop_of (values.Fault f) = stops.Fault f
stop_of (values.Pause z) = stop_of_pause z

-- ---- where it stops

-- lack of memory is reported as a device's fault, and never as a pause
abbrev pub IsRefusal : Pause → Type 0
IsRefusal pauses.Ended = Unit {0}
IsRefusal (pauses.OutOfRange k) = Unit {0}
IsRefusal pauses.Memory = ⊥

-- f asks a question with this bound next; with an answer that z says is out of range, it is out
pub record AsksNext {A W : Type 0} (f : Answers → Outcome A W) (bound : ℤ) (beside : W) (z : Pause) : Type 0 where
  pub asks : f [] ≡ Asks bound beside
  pub outside : SaysOut f bound beside z

-- whatever answers follow, what is left shows these bytes and perhaps more, and takes lines from the first on
pub record Continues {A : Type 0} (state : Outcome A State → State) (shown : State → List ℕ) (left : State → Answers
    → Outcome A State) : Type 0 where
  pub begins : (S : State) (a : Answers) → Begins (shown S) (state (left S a)).shown
  pub takes : (S : State) (a : Answers) → TakesLines S.lines (state (left S a)).lines

-- without a line it ends so, or asks with this bound, which is at least 1
abbrev pub LacksLine : {A : Type 0} → Option ℤ → (State → A) → (State → Answers → Outcome A State) → State → Type 0
LacksLine None ends left S = (a : Answers) → left S a ≡ Done (ends S) a
LacksLine (Some n) ends left S = pos 1 ≤ℤ n → left S [] ≡ Asks n S

-- nothing of what is left was shown, and it lacks a line where none is left
abbrev pub WantsLine : {A : Type 0} → (State → A) → List ℕ → (State → Answers → Outcome A State) → Type 0
WantsLine ends bytes left = (bytes ≡ []) × ((S : State) → S.lines ≡ [] → LacksLine S.choose ends left S)

-- R d g says that it has come to g, with devices that hold d; `refused` is what holds after a refusal
module _ {A : Type 0} (refused : Refusal → Type 0) (R : Devices → (State → Answers → Outcome A State)
    → Type 0) (n : Devices) where
  -- the chooser has refused the question that is next
  pub record AsksUnanswered (state : Outcome A State → State) (z : Pause) : Type 0 where
    pub left : State → Answers → Outcome A State
    pub comes : R n left
    pub bound : ℤ
    pub question : (S : State) → AsksNext (left S) bound S z
    pub continues : Continues state (λ S. S.shown) left
    pub pause : IsRefusal z
    pub refuses : refused (Unanswered z bound)

  -- a line is wanted next, and the source has none; it ends so without one
  pub record IsOutOfLines (ends : State → A) : Type 0 where
    pub left : State → Answers → Outcome A State
    pub comes : R n left
    pub dry : (S : State) (a : Answers) → S.lines ≡ [] → left S a ≡ Done (ends S) a
    pub refuses : refused NoLine

  -- a device has failed, or was refused memory
  pub record DeviceFails (state : Outcome A State → State) (ends : State → A) (fault : DeviceFault) : Type 0 where
    pub left : State → Answers → Outcome A State
    -- the screen when it had come there, and the bytes that it has shown since then
    pub screen : ScreenState
    pub bytes : List ℕ
    pub comes : R (with_screen screen n) left
    pub shows : Shows screen n.screen bytes
    pub continues : Continues state (λ S. S.shown ++ bytes) left
    -- the input is read only where a line is wanted
    pub line : IsInputFault fault → WantsLine ends bytes left
    pub broken : HasBroken refused screen n.screen fault

abbrev pub Stops : {A : Type 0} → (Refusal → Type 0) → (Devices → Action A → Type 0) → Devices → CommandStop → Type 0
Stops refused R n (stops.Fault f) = R n (halt (Faults f))
Stops refused R n stops.Over = R n (halt (Ends endings.Stop))
Stops refused R n stops.NoInput = IsOutOfLines refused R n (Halts (Ends endings.NoInput))
Stops refused R n (stops.Pause z) = AsksUnanswered refused R n action_state z
Stops refused R n (stops.Device fault) = DeviceFails refused R n action_state (Halts (Ends endings.NoInput)) fault

-- what is gathered is shown unless a device broke, or no line was left, before which it was shown
abbrev pub still_shows : {X : Type 0} → Result X CommandStop → Bool
still_shows (Ok x) = true
still_shows (Err (stops.Fault f)) = true
still_shows (Err stops.Over) = true
still_shows (Err stops.NoInput) = false
still_shows (Err (stops.Pause z)) = true
still_shows (Err (stops.Device fault)) = false

-- ---- lines that the source didn't give

-- whether a result reports that a line was asked for without success
pub data Miss : Type 0 where
  NoMiss : Miss
  LineMiss : Miss
  -- memory was refused, to the source or to another device
  MemoryMiss : Miss

-- P holds, unless that is reported; `refused` is what holds after a fault of the source
abbrev pub UnlessMissed : (DeviceFault → Type 0) → Type 0 → Miss → Type 0
UnlessMissed refused P NoMiss = P
UnlessMissed refused P LineMiss = Unit {0}
UnlessMissed refused P MemoryMiss = P ⊎ refused faults.Memory

abbrev pub stop_miss : CommandStop → Miss
stop_miss stops.NoInput = LineMiss
stop_miss (stops.Device faults.Read) = LineMiss
stop_miss (stops.Device faults.TooLong) = LineMiss
stop_miss (stops.Device faults.Memory) = MemoryMiss
stop_miss _ = NoMiss

abbrev pub miss_of : {X : Type 0} → Result X CommandStop → Miss
miss_of (Ok x) = NoMiss
miss_of (Err e) = stop_miss e

-- no line was asked for without success; where answers are asked for instead, one may have been that the source can't
-- give
abbrev pub NotMissed : Option ℤ → ℕ → ℕ → ℕ → Type 0
NotMissed None old new most = new ≤ old
NotMissed (Some n) old new most = (new ≤ old) ⊎ (most ≡ 0)

-- no line was asked for without success between the old source and the new one, unless the result reports it
abbrev pub ReportsMissed : {L : Type 0} → sources.Ghosts L → Option ℤ → L → L → Miss → Type 0
ReportsMissed source choose old new miss =
    UnlessMissed (source.refused new) (NotMissed choose (source.missed old) (source.missed new) (source.most new)) miss

-- ---- the results

-- from trace o, f has come to an action; the trace is then n, with these devices
abbrev pub RefinesPartTo : {A : Type 0} → Trace → Trace → Action A → Devices → Action A → Type 0
RefinesPartTo o n f d g = RefinesPart o (record n { devices = d }) f g

-- at Ok, to what is left to do with its value; at a stop, with what is still due then
abbrev pub Comes : {A X : Type 0} → (Refusal → Type 0) → Trace → Trace → Action A → (X → Action A)
    → Result X CommandStop
    → Type 0
Comes refused o n f ok (Ok x) = RefinesPart o n f (ok x)
Comes refused o n f ok (Err e) = Stops refused (RefinesPartTo o (with_pending (still_pending n.pending e) n) f)
    n.devices e
