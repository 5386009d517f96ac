-- This file says what the loops of `program_text` keep.
use Rattle.ptb_text.specs.Streams.{reads_of}
use Rattle.ptb_text.proofs.LimitedReads.{TakesUpTo}
use Rattle.ptb_text.proofs.loader.program_text.Given as goal

-- the bytes that are kept are those that the reader gave
abbrev pub invariant-loop-text : goal.invariant-loop-text
invariant-loop-text g l = record {
  reads : TakesUpTo 1048576 l.left
      (reads_of g.R.Read.remaining g.R.Read.given g.R.Read.failures l.initial.reader l.reader) l.text.items;
  sure : g.R.Read.reliable l.initial.reader → g.R.Read.reliable l.reader;
}

abbrev pub decreases-loop-text : goal.decreases-loop-text
decreases-loop-text g l = l.left
