-- This file answers what is left to prove of `line_count`.
use Rattle.ptb_devices.proofs.CutLines.{KeepsUpTo_stay, KeepsUpTo_end}
use Rattle.ptb_devices.proofs.line_buffer.line_count.Goals as goal

pub returns-then-bytes-count-eq10-clause-line : goal.returns-then-bytes-count-eq10-clause-line
returns-then-bytes-count-eq10-clause-line c =
    KeepsUpTo_end _ _ c.if-count-bytes.true c.if-bytes-count-eq10.true
    (KeepsUpTo_stay _ _ c.staying_blocks-count.ensures.within c.if-count-le-LINE_LIMIT.true
    c.staying_blocks-count.ensures.stay)
