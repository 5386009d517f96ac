-- This file says what the loop of `ReaderLines::next` keeps, and why it ends.
use Rattle.std.proofs.Common.{◌≡◌, false, []}
use Rattle.ptb_devices.specs.Inputs.{ReadsOn, fault_at}
use Rattle.ptb_devices.specs.Readers.{input_of, line_input, line_reader}
use Rattle.ptb_devices.proofs.reader_lines.ReaderLinesLineSource.next.Given as goal

-- no line was given, and one is asked for
abbrev pub invariant-loop-self : goal.invariant-loop-self
invariant-loop-self g l = record {
  unfinished : (line_input l.self).is_given ≡ false;
  same_fault : fault_at (line_input l.self).end ≡ fault_at (line_input l.fn.self).end;
  same_borrow : (line_reader l.self).ghost_name ≡ (line_reader l.fn.self).ghost_name;
  reads : ReadsOn 1 (input_of g.R.Read.remaining g.R.Read.given g.R.Read.failures l.fn.self) []
      (input_of g.R.Read.remaining g.R.Read.given g.R.Read.failures l.self);
}

abbrev pub decreases-loop-self : goal.decreases-loop-self
decreases-loop-self g l = (line_input l.self).left
