-- This file says what the loops of `enter_lines` keep.
use Rattle.std.proofs.Common.{◌≡◌, ◌+◌, ◌≤◌, [], length, take, drop, Ok}
use Rattle.ptb_text.specs.Lines.{lines}
use Rattle.ptb_text.specs.Statements.{after_lines}
use Rattle.ptb_text.proofs.loader.enter_lines.Given as goal

-- the lines so far were accepted, and the rest has the others
abbrev pub invariant-loop-rest : goal.invariant-loop-rest
invariant-loop-rest l = record {
  memory : l.program.memory ≡ l.fn.program.memory;
  so_far : after_lines (take l.entered (lines l.text)) 1 [] l.fn.program.memory ≡ Ok l.program.lines;
  others : lines l.rest ≡ drop l.entered (lines l.text);
  count : l.entered + length l.rest ≤ length l.text;
}

abbrev pub decreases-loop-rest : goal.decreases-loop-rest
decreases-loop-rest l = length l.rest
