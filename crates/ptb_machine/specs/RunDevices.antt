-- This file defines the three devices of a run as the contracts of steps and runs see them.
-- Main definition: `run_devices`.
--     RunDevices C S L, run_devices    a chooser, a screen and a line source
--     held ..                          what they hold, with the lines that the source gave
--     refusals ..                      what holds after one of them refused something
use Rattle.std.specs.Prelude.{ℕ, List}
use Rattle.ptb_answers.specs.declared.chooser.Chooser as choosers
use Rattle.ptb_answers.specs.declared.rules.Rules.{Rules}
use Rattle.ptb_devices.specs.declared.screen.Screen as screens
use Rattle.ptb_devices.specs.declared.lines.LineSource as sources
use Rattle.ptb_command.specs.declared.command_io.CommandIo.{CommandIo}
use Rattle.ptb_command.specs.Devices.{Devices, devices, screen_state, Refusal, refused_by}

pub record RunDevices (C S L : Type 0) : Type 0 where
  pub chooser : C
  pub screen : S
  pub source : L

abbrev pub run_devices : {C S L : Type 0} → C → S → L → RunDevices C S L
run_devices chooser screen source = record { chooser = chooser; screen = screen; source = source }

-- those that are lent to a command
abbrev pub lent : {C S L : Type 0} → CommandIo C S L → RunDevices C S L
lent io = run_devices io.chooser.now io.screen.now io.source.now

-- by what their own contracts say of them
module _ {C S L : Type 0} (chooser : choosers.Ghosts C) (screen : screens.Ghosts S) (source : sources.Ghosts L) where
  abbrev pub held : Rules → RunDevices C S L → List (List ℕ) → Devices
  held rules d given = devices (chooser.choices d.chooser) (screen_state screen d.screen)
      (source.most d.source) rules.choose given

  abbrev pub refusals : RunDevices C S L → Refusal → Type 0
  refusals d = refused_by (chooser.refused d.chooser) (source.refused d.source) (source.lines d.source)
