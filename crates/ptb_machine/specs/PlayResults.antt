-- This file defines the result of a play of the definition with its devices, by the result of its run.
-- Main definition: `RunComes`.
--
-- The result says how far the play was done: to its end; to a question that was refused, or a line that
-- isn't there; or to where a device failed, so that a prefix of it was shown.
--     Plays p rules input o n x left       with what was exchanged, this is left of the play
--     played_bytes o                       what a play has shown, where it is over or asks
--     refused_by_pause z later              the answer that is refused as out of range, if one is, and later ones
--     PlayContinues .. x left              whatever answers follow, what is left takes back nothing
--     IsFinished, IsUnanswered, IsUnfinished    the play is over, waits for an answer, or was cut short
--     LacksInput ..                        without a line the play ends, or asks for an answer
--     RunComes refused p rules rest o n r  what has come of a play by the result r
use Rattle.std.specs.Prelude.{◌≡◌, ◌⊎◌, ℕ, ◌≤◌, List, [], ◌∷◌, ◌++◌, Result, Ok, Err, ℤ, Option, Some, None}
use Rattle.ptb_text.specs.Statements.{StoredProgram}
use Rattle.ptb_text.specs.declared.device_fault.DeviceFault.{DeviceFault}
use Rattle.ptb_answers.specs.declared.pause.Pause.{Pause}
use Rattle.ptb_answers.specs.declared.pause.Pause.TheVariants as pauses
use Rattle.ptb_answers.specs.declared.rules.Rules.{Rules}
use Rattle.ptb_answers.specs.Outcome.{Answers, Outcome, Done, Asks, Out}
use Rattle.ptb_command.specs.declared.ending.Ending.{Ending}
use Rattle.ptb_command.specs.declared.ending.Ending.TheVariants as endings
use Rattle.ptb_command.specs.Devices.{Devices, with_failures, Exchange, Exchanges, Refusal}
use Rattle.ptb_command.specs.Devices.{Unanswered, NoLine, HasBroken}
use Rattle.ptb_command.specs.Effects.{Begins}
use Rattle.ptb_command.specs.Stops.{AsksNext}
use Rattle.ptb_command.specs.Traces.{Leaves}
use Rattle.ptb_machine.specs.declared.fault.RunFault.{RunFault}
use Rattle.ptb_machine.specs.declared.fault.RunFault.TheVariants as faults
use Rattle.ptb_machine.specs.Play.{Finish, play, unasked_lines}
use Rattle.ptb_machine.specs.RunFaults.{fault_of_device}

-- the play took the answers that were exchanged, each to a question with its bound
pub record Plays (p : StoredProgram) (rules : Rules) (input : List (List ℕ)) (o n : Devices) (x : Exchange)
    (left : Answers → Outcome Finish (List ℕ)) : Type 0 where
  pub exchanges : Exchanges o n x
  pub leaves : Leaves (play p input rules) x.answers x.bounds left

abbrev pub played_bytes : Outcome Finish (List ℕ) → List ℕ
played_bytes (Done f rest) = f.shown
played_bytes (Asks n shown) = shown
played_bytes (Out n shown) = shown

-- lack of memory is no refusal of an answer
abbrev pub refused_by_pause : Pause → Answers → Answers
refused_by_pause pauses.Ended later = []
refused_by_pause (pauses.OutOfRange k) later = k ∷ later
refused_by_pause pauses.Memory later = []

-- from devices that hold o to devices that hold n, where no lines were given before; `refused` is what holds after a
-- refusal
module _ (refused : Refusal → Type 0) (p : StoredProgram) (rules : Rules) (input : List (List ℕ)) (o n : Devices) where
  -- it shows these bytes and perhaps more, and asks for the lines that the source gave and perhaps for more
  pub record PlayContinues (x : Exchange) (left : Answers → Outcome Finish (List ℕ)) : Type 0 where
    pub begins : (a : Answers) → Begins x.bytes (played_bytes (left a))
    pub more_lines : (a : Answers)
        → (more : List (List ℕ)) × (input ≡ n.given ++ (more ++ unasked_lines p input rules (x.answers ++ a)))

  -- the play is over, with these answers and whatever answers follow them; its bytes were shown
  pub record IsFinished (ending : Ending) : Type 0 where
    pub exchange : Exchange
    pub steps : ℕ
    pub plays : Plays p rules input o n exchange
        (λ a. Done (record { ending = ending; steps = steps; shown = exchange.bytes }) a)
    pub within_limit : steps ≤ rules.limit
    -- the source gave the lines for which it asks, and no others
    pub lines : (a : Answers) → input ≡ n.given ++ unasked_lines p input rules (exchange.answers ++ a)

  -- the play asks, what it shows before was shown, and the chooser has refused the question
  pub record IsUnanswered (z : Pause) : Type 0 where
    pub exchange : Exchange
    pub left : Answers → Outcome Finish (List ℕ)
    pub plays : Plays p rules input o n exchange left
    pub bound : ℤ
    pub question : AsksNext left bound exchange.bytes z
    pub refuses : refused (Unanswered z bound)
    -- the source gave the lines for which it asks before, and no others
    pub lines : (later : Answers)
        → input ≡ n.given ++ unasked_lines p input rules (exchange.answers ++ refused_by_pause z later)
    pub continues : PlayContinues exchange left

  -- without a line the play ends so, or asks with this bound; these bytes were shown, and this is left of it
  abbrev pub LacksInput : Option ℤ → List ℕ → (Answers → Outcome Finish (List ℕ)) → Type 0
  LacksInput None bytes left = IsFinished endings.NoInput
  LacksInput (Some k) bytes left = left [] ≡ Asks k bytes

  -- a device has failed, or was refused memory, and no write failed before; what was shown is a prefix of what the
  -- play shows
  pub record IsUnfinished (fault : RunFault) : Type 0 where
    pub device : DeviceFault
    pub is : fault ≡ fault_of_device device
    pub exchange : Exchange
    pub left : Answers → Outcome Finish (List ℕ)
    pub plays : Plays p rules input o (with_failures o.screen.failures n) exchange left
    pub broken : HasBroken refused o.screen n.screen device
    pub continues : PlayContinues exchange left
    -- where the input can't be read the play asks for a line: if these were all lines, it would lack one
    pub dry : fault ≡ faults.Read → input ≡ n.given → LacksInput rules.choose exchange.bytes left

-- a play with the lines that were given, and then these
abbrev pub RunComes : (Refusal → Type 0) → StoredProgram → Rules → List (List ℕ) → Devices → Devices
    → Result Ending RunFault → Type 0
RunComes refused p rules rest o n (Ok endings.NoInput) =
    refused NoLine × (rest ≡ [] → IsFinished refused p rules n.given o n endings.NoInput)
RunComes refused p rules rest o n (Ok endings.NoAnswer) =
    IsUnanswered refused p rules (n.given ++ rest) o n pauses.Ended
RunComes refused p rules rest o n (Ok endings.BadAnswer) =
    (k : ℤ) × IsUnanswered refused p rules (n.given ++ rest) o n (pauses.OutOfRange k)
RunComes refused p rules rest o n (Ok ending) = IsFinished refused p rules (n.given ++ rest) o n ending
-- the machine itself takes memory before the run begins
RunComes refused p rules rest o n (Err faults.Memory) =
    (n ≡ o) ⊎ IsUnfinished refused p rules (n.given ++ rest) o n faults.Memory
RunComes refused p rules rest o n (Err faults.Spent) = ⊥
RunComes refused p rules rest o n (Err fault) = IsUnfinished refused p rules (n.given ++ rest) o n fault
