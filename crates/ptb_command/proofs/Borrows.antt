-- This file proves that borrows which stay the same stay so.
-- Main lemma: `borrows_then`.
use Rattle.std.proofs.Common.{◌∙◌, ap}
use Rattle.ptb_command.specs.declared.command_io.CommandIo.{CommandIo}
use Rattle.ptb_command.specs.CommandIo.{SameBorrows, SameDevices}

module _ {C S L : Type 0} {a b : CommandIo C S L} where
  borrows_of : SameDevices a b → SameBorrows a b
  borrows_of h = record {
    chooser = h.chooser;
    screen = h.screen;
    source = ap (λ s. s.ghost_name) h.source;
    rules = h.rules;
  }

module _ {C S L : Type 0} {a b c : CommandIo C S L} where
  pub borrows_on : SameBorrows a b → SameBorrows b c → SameBorrows a c
  borrows_on h k = record {
    chooser = k.chooser ∙ h.chooser;
    screen = k.screen ∙ h.screen;
    source = k.source ∙ h.source;
    rules = k.rules ∙ h.rules;
  }

module _ {C S L : Type 0} {a b c : CommandIo C S L} where
  pub devices_then : SameDevices a b → SameDevices b c → SameDevices a c
  devices_then h k =
      let both = borrows_on (borrows_of h) (borrows_of k) in
      record { chooser = both.chooser; screen = both.screen; source = k.source ∙ h.source; rules = both.rules }

  -- where no line was asked for since then
  pub borrows_then : SameBorrows a b → SameDevices b c → SameBorrows a c
  borrows_then h k = borrows_on h (borrows_of k)

module _ {C S L : Type 0} {a b c d : CommandIo C S L} where
  -- where a line was asked for since then, or a part was lent
  pub borrows_lent : SameBorrows a b → SameDevices b c → SameBorrows c d → SameBorrows a d
  borrows_lent h k l = borrows_on (borrows_then h k) l
