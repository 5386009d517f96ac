-- This file defines what the devices of a command hold.
-- Main definition: `io_trace`.
--     io_devices choices screen most io given         what they hold, besides the lines that the source gave
--     io_trace choices screen most io given cells     the trace at which the devices are
--     pending_trace choices screen most io given cells pending  the same, with bytes that are gathered
--     SameBorrows old new                             the borrows are the same, and the rules
--     SameDevices old new                             so is the source, which gave nothing
use Rattle.std.specs.Prelude.{◌≡◌, ℕ, List}
use Rattle.ptb_answers.specs.Choices.{Choices}
use Rattle.ptb_expr.specs.Store.{Cells}
use Rattle.ptb_command.specs.declared.command_io.CommandIo.{CommandIo}
use Rattle.ptb_devices.specs.declared.screen.Screen.{Ghosts}
use Rattle.ptb_command.specs.Devices.{Devices, devices, screen_state}
use Rattle.ptb_command.specs.Traces.{Trace, trace, with_pending}

abbrev pub io_devices : {C S L : Type 0} → (C → Choices) → Ghosts S → (L → ℕ) → CommandIo C S L → List (List ℕ)
    → Devices
io_devices choices screen most io given =
    devices (choices io.chooser.now) (screen_state screen io.screen.now) (most io.source.now) io.rules.choose given

abbrev pub io_trace : {C S L : Type 0} → (C → Choices) → Ghosts S → (L → ℕ) → CommandIo C S L → List (List ℕ) → Cells
    → Trace
io_trace choices screen most io given cells = trace (io_devices choices screen most io given) io.fresh cells

abbrev pub pending_trace : {C S L : Type 0} → (C → Choices) → Ghosts S → (L → ℕ) → CommandIo C S L → List (List ℕ)
    → Cells
    → List ℕ → Trace
pending_trace choices screen most io given cells pending = with_pending pending
    (io_trace choices screen most io given cells)

pub record SameBorrows {C S L : Type 0} (old new : CommandIo C S L) : Type 0 where
  pub chooser : new.chooser.ghost_name ≡ old.chooser.ghost_name
  pub screen : new.screen.ghost_name ≡ old.screen.ghost_name
  pub source : new.source.ghost_name ≡ old.source.ghost_name
  pub rules : new.rules ≡ old.rules

pub record SameDevices {C S L : Type 0} (old new : CommandIo C S L) : Type 0 where
  pub chooser : new.chooser.ghost_name ≡ old.chooser.ghost_name
  pub screen : new.screen.ghost_name ≡ old.screen.ghost_name
  pub source : new.source ≡ old.source
  pub rules : new.rules ≡ old.rules
