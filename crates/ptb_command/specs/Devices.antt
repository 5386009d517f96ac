-- This file defines what the devices of a run hold, and what passes between them and the run.
-- Main definition: `Devices`.
--     Devices                  the chooser's answers, the screen, the lines that the source gave, and those it can give
--     Exchange                 answers with their bounds, bytes that are shown, and lines that are given
--     both_exchanges x y       one exchange after another
--     Exchanges o n x          from o to n the devices exchange x, and no write fails
--     MayFollow d rest choose  the source may have these lines left, and where none is, an answer be asked for so
--     Refusal                  what the chooser or the line source refuses
--     IsInputFault fault       the input could not be read, or is too long
--     HasBroken refused o n fault      between o and n a device has failed so
use Rattle.std.specs.Prelude.{◌≡◌, ◌≤◌, ◌+◌, ◌⊎◌, ℕ, Bool, List, [], ◌++◌, length, Option, ℤ, IsTrue}
use Rattle.std.specs.Borrow.{GName}
use Rattle.std.specs.Io.KnownBytes.{Appends}
use Rattle.ptb_text.specs.Device.{HasFailed}
use Rattle.ptb_answers.specs.declared.pause.Pause.{Pause}
use Rattle.ptb_answers.specs.declared.pause.Pause.TheVariants as pauses
use Rattle.ptb_answers.specs.Outcome.{Answers}
use Rattle.ptb_answers.specs.Choices.{Choices, with_answers}
use Rattle.ptb_text.specs.declared.device_fault.DeviceFault.{DeviceFault}
use Rattle.ptb_text.specs.declared.device_fault.DeviceFault.TheVariants as faults
use Rattle.ptb_devices.specs.declared.screen.Screen.{Ghosts}
use Rattle.ptb_devices.specs.Sources.{NoneLeft}

-- ---- what they hold

-- the bytes that it has shown, where they are known; how often its writer has failed;
-- the borrow of its writer, if it has one; and whether it may take memory
pub record ScreenState : Type 0 where
  pub shown : Option (List ℕ)
  pub failures : ℕ
  pub borrow : Option GName
  pub takes_memory : Bool

-- by what a screen's own contract says of it
abbrev pub screen_state : {S : Type 0} → Ghosts S → S → ScreenState
screen_state g s = record {
  shown = g.shown s;
  failures = g.failures s;
  borrow = g.borrow s;
  takes_memory = g.takes_memory;
}

pub record Devices : Type 0 where
  pub choices : Choices
  pub screen : ScreenState
  -- at most how many lines the source can still give
  pub most : ℕ
  -- where it gives none, the bound with which an answer is asked for instead, if one is
  pub choose : Option ℤ
  -- the lines that the source gave so far
  pub given : List (List ℕ)

abbrev pub devices : Choices → ScreenState → ℕ → Option ℤ → List (List ℕ) → Devices
devices choices screen most choose given = record {
  choices = choices;
  screen = screen;
  most = most;
  choose = choose;
  given = given;
}

-- the same with another chooser, with another screen, and with a writer that has failed so often
abbrev pub with_choices : Choices → Devices → Devices
with_choices choices d = record d { choices = choices }

abbrev pub with_screen : ScreenState → Devices → Devices
with_screen screen d = record d { screen = screen }

abbrev pub with_failures : ℕ → Devices → Devices
with_failures failures d = with_screen (record d.screen { failures = failures }) d

-- ---- exchanges

pub record Exchange : Type 0 where
  pub answers : Answers
  -- the bound of each answer
  pub bounds : List ℤ
  pub bytes : List ℕ
  pub given : List (List ℕ)

abbrev pub no_exchange : Exchange
no_exchange = record { answers = []; bounds = []; bytes = []; given = [] }

abbrev pub answers_alone : Answers → List ℤ → Exchange
answers_alone answers bounds = record { answers = answers; bounds = bounds; bytes = []; given = [] }

abbrev pub bytes_alone : List ℕ → Exchange
bytes_alone bytes = record { answers = []; bounds = []; bytes = bytes; given = [] }

abbrev pub both_exchanges : Exchange → Exchange → Exchange
both_exchanges x y = record {
  answers = x.answers ++ y.answers;
  bounds = x.bounds ++ y.bounds;
  bytes = x.bytes ++ y.bytes;
  given = x.given ++ y.given;
}

-- a screen shows these bytes
pub record Shows (old new : ScreenState) (bytes : List ℕ) : Type 0 where
  pub shown : Appends old.shown new.shown bytes
  pub same_borrow : new.borrow ≡ old.borrow
  pub same_memory : new.takes_memory ≡ old.takes_memory

pub record Exchanges (o n : Devices) (x : Exchange) : Type 0 where
  pub grown : n.choices ≡ with_answers x.answers x.bounds o.choices
  pub shows : Shows o.screen n.screen x.bytes
  pub unfailed : n.screen.failures ≡ o.screen.failures
  pub given : n.given ≡ o.given ++ x.given
  pub falls : n.most + length x.given ≤ o.most
  pub same_choose : n.choose ≡ o.choose

-- lines that may be left after those that were given, and the bound with which an answer may be asked for where none
-- is left. Where the source can give none, none is left, and the bound is the devices'; as long as it can give one, no
-- answer was asked for instead of a line, so the bound makes no difference.
abbrev pub MayFollow : Devices → List (List ℕ) → Option ℤ → Type 0
MayFollow d rest choose = d.most ≡ 0 → (rest ≡ []) × (choose ≡ d.choose)

-- ---- refusals

pub data Refusal : Type 0 where
  -- an answer to a question with this bound
  Unanswered : (pause : Pause) (bound : ℤ) → Refusal
  -- a line, for this fault
  Unread : (fault : DeviceFault) → Refusal
  -- a line, as none is left
  NoLine : Refusal

-- what holds after a refusal where nothing is refused, where only the chooser refuses, and where both may
abbrev pub nothing_refused : Refusal → Type 0
nothing_refused r = ⊥

abbrev pub refused_answers : (Pause → ℤ → Type 0) → Refusal → Type 0
refused_answers refused (Unanswered pause bound) = refused pause bound
refused_answers refused (Unread fault) = ⊥
refused_answers refused NoLine = ⊥

abbrev pub refused_by : (Pause → ℤ → Type 0) → (DeviceFault → Type 0) → Option (List (List ℕ)) → Refusal → Type 0
refused_by refused unread lines (Unanswered pause bound) = refused pause bound
refused_by refused unread lines (Unread fault) = unread fault
refused_by refused unread lines NoLine = NoneLeft lines

-- ---- devices that fail

-- a screen that takes memory, or a chooser or a source, was refused memory
pub record HasNoMemory (refused : Refusal → Type 0) (takes_memory : Bool) : Type 0 where
  pub by : IsTrue takes_memory ⊎ (((bound : ℤ) × refused (Unanswered pauses.Memory bound))
      ⊎ refused (Unread faults.Memory))

abbrev pub IsInputFault : DeviceFault → Type 0
IsInputFault faults.Read = Unit {0}
IsInputFault faults.TooLong = Unit {0}
IsInputFault faults.Write = ⊥
IsInputFault faults.Memory = ⊥

-- a write fails only where the writer is named
abbrev pub HasBroken : (Refusal → Type 0) → ScreenState → ScreenState → DeviceFault → Type 0
HasBroken refused old new faults.Read = refused (Unread faults.Read) × (new.failures ≡ old.failures)
HasBroken refused old new faults.TooLong = refused (Unread faults.TooLong) × (new.failures ≡ old.failures)
HasBroken refused old new faults.Write = HasFailed old.failures new.failures × (old.failures ≤ new.failures)
HasBroken refused old new faults.Memory = HasNoMemory refused old.takes_memory × (new.failures ≡ old.failures)
