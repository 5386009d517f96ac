-- This file says that the last line is that of what is left, after the one that was read last.
use Rattle.std.proofs.Common.{◌≡◌, ◌∷◌, length}
use Rattle.ptb_chances.specs.Chances.{last_line}
use Rattle.ptb_text.specs.Lines.{lines}
use Rattle.ptb_chances.proofs.last_line.last_line.Given as goal

abbrev pub invariant-loop-last : goal.invariant-loop-last
invariant-loop-last l = last_line (l.last ∷ lines l.rest) ≡ last_line (lines l.fn.text)

abbrev pub decreases-loop-last : goal.decreases-loop-last
decreases-loop-last l = length l.rest
