-- This file defines the result of a part of a command, and how one part follows another.
-- Main definition: `Action`.
--     Action A                  what is done in a state with a list of answers: it continues with an A in another
--                               state, or halts
--     and_then m next           one after the other
--     goes_on x, halt h         nothing is done; the command stops
--     evaluation m, work_action m  something is evaluated; its fault is a result, or halts
use Rattle.std.specs.Prelude.{ℕ, List, ◌++◌, Result, Ok, Err}
use Rattle.ptb_expr.specs.declared.fault.Fault.{Fault}
use Rattle.ptb_answers.specs.Outcome.{Answers, Outcome, Done, go_on, map_outcome}
use Rattle.ptb_expr.specs.Store.{Cells}
use Rattle.ptb_expr.specs.Value.{Work}
use Rattle.ptb_command.specs.declared.ending.Ending.{Ending}
use Rattle.ptb_command.specs.State.{State}

-- why a command stops: a fault, or the run is over
pub data Halt : Type 0 where
  Faults : (fault : Fault) → Halt
  Ends : (ending : Ending) → Halt

-- how far it has come: a result and the state there, or a halt and the state there
pub data Progress (A : Type 0) : Type 0 where
  Goes : (x : A) (S : State) → Progress A
  Halts : (halt : Halt) (S : State) → Progress A

-- a question is accompanied by the state in which it is asked
abbrev pub Action : Type 0 → Type 0
Action A = State → Answers → Outcome (Progress A) State

abbrev pub on_progress : {A B : Type 0} → (A → Action B) → Progress A → Answers → Outcome (Progress B) State
on_progress next (Goes x S) rest = next x S rest
on_progress next (Halts halt S) rest = Done (Halts halt S) rest

abbrev pub and_then : {A B : Type 0} → Action A → (A → Action B) → Action B
and_then m next S a = go_on (m S a) (on_progress next)

-- ---- small actions

abbrev pub goes_on : {A : Type 0} → A → Action A
goes_on x S a = Done (Goes x S) a

abbrev pub halt : {A : Type 0} → Halt → Action A
halt h S a = Done (Halts h S) a

-- the state becomes another
abbrev pub change : (State → State) → Action (Unit {0})
change f S a = Done (Goes tt (f S)) a

-- bytes are shown
abbrev pub show : List ℕ → Action (Unit {0})
show s = change (λ S. record S { shown = S.shown ++ s })

-- something is evaluated with the cells of the state; a fault is a result
abbrev pub evaluation : {A : Type 0} → (Cells → Work A) → Action (Result A Fault)
evaluation m S a = map_outcome (λ r. Goes r S) (λ _. S) (m S.cells a)

abbrev pub or_halt : {A : Type 0} → Result A Fault → Action A
or_halt (Ok v) = goes_on v
or_halt (Err f) = halt (Faults f)

-- a fault halts
abbrev pub work_action : {A : Type 0} → (Cells → Work A) → Action A
work_action m = and_then (evaluation m) or_halt
