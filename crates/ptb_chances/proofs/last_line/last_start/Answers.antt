-- This file answers that what comes before the last ended line doesn't matter.
use Rattle.std.proofs.Common.{◌<◌, length, arith}
use Rattle.ptb_chances.proofs.LastLines.{same_end_at, some_of}
use Rattle.ptb_chances.proofs.last_line.last_start.Goals as goal

pub returns-clause-same_end : goal.returns-clause-same_end
returns-clause-same_end c =
    let some : c.line_start-start.result < length c.args.text.now = omega (
      arith,
      c.line_start-start.ensures.within,
      c.line_start-open.ensures.within,
      some_of c.line_start-open.result c.if-open-eq0.false,
    ) in
    same_end_at c.args.text.now c.line_start-start.result c.line_start-start.ensures.begins some
