-- This file says what the loop over the statements of a program keeps.
use Rattle.std.proofs.Common.{◌≡◌, drop}
use Rattle.std.specs.Prelude.{flat_map}
use Rattle.ptb_check.specs.Mistakes.{mistakes, statement_mistakes}
use Rattle.ptb_check.proofs.Progress.{IsWrittenUpTo}
use Rattle.ptb_check.proofs.writer.write_mistakes.Given as goal

abbrev pub invariant-loop-at : goal.invariant-loop-at
invariant-loop-at g l = record {
  unfailed : g.W.Write.failures l.writer ≡ g.W.Write.failures l.initial.writer;
  written :
      IsWrittenUpTo (g.W.Write.contents l.initial.writer) (g.W.Write.contents l.writer) l.any
      (mistakes l.program.lines) (flat_map (statement_mistakes l.program.lines) (drop l.at l.program.lines));
}
