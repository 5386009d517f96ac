-- This file says what the loops of `read_lines` keep.
use Rattle.ptb_text.specs.Streams.{reads_of}
use Rattle.ptb_devices.proofs.ReadLines.{IsCutUpTo}
use Rattle.ptb_devices.proofs.whole_input.read_lines.Given as goal

-- no read failed, and the lines are those of the bytes that were taken
abbrev pub invariant-loop-lines : goal.invariant-loop-lines
invariant-loop-lines g l = record {
  read : IsCutUpTo 16777216 l.left
      (reads_of g.R.Read.remaining g.R.Read.given g.R.Read.failures l.initial.reader l.reader) l.lines.items l.cutter;
  sure : g.R.Read.reliable l.initial.reader → g.R.Read.reliable l.reader;
}

abbrev pub decreases-loop-lines : goal.decreases-loop-lines
decreases-loop-lines g l = l.left
