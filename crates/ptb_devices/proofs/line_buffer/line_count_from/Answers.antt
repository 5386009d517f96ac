-- This file answers what is left to prove of `line_count_from`.
use Rattle.std.proofs.Common.{arith}
use Rattle.ptb_devices.proofs.CutLines.{KeepsUpTo_stay, KeepsUpTo_more, KeepsUpTo_end}
use Rattle.ptb_devices.proofs.line_buffer.line_count_from.Goals as goal

pub loop-count-init : goal.loop-count-init
loop-count-init c = λ few. KeepsUpTo_stay _ _ c.requires.within few c.requires.stay

pub loop-count-preserved : goal.loop-count-preserved
loop-count-preserved c = λ few.
    KeepsUpTo_more _ _ c.loop-count-test.true few (c.stays.ensures c.if-stays.true)
    (c.loop-count.invariant (omega (arith, few)))

pub returns-then-bytes-count-eq10-clause-line : goal.returns-then-bytes-count-eq10-clause-line
returns-then-bytes-count-eq10-clause-line c =
    KeepsUpTo_end _ _ c.if-count-bytes.true c.if-bytes-count-eq10.true
    (c.loop-count.invariant c.if-count-le-LINE_LIMIT.true)
