-- This file says what the loops of `tabs_to_spaces` keep.
use Rattle.std.proofs.Common.{◌≡◌, ◌++◌, map, take, drop}
use Rattle.ptb_text.specs.Lines.{tab_as_space}
use Rattle.ptb_text.proofs.loader.tabs_to_spaces.Given as goal

-- the bytes so far have no tab
abbrev pub invariant-loop-byte : goal.invariant-loop-byte
invariant-loop-byte l = l.text ≡ map tab_as_space (take l.byte-index l.initial.text) ++ drop l.byte-index l.initial.text
