-- This file answers what is left to prove of `LineCutter::take_line`.
use Rattle.std.proofs.Common.{arith}
use Rattle.ptb_devices.proofs.CutLines.{CutsUpTo_none, CutsUpTo_more, CutsUpTo_all, CutsUpTo_end}
use Rattle.ptb_devices.proofs.cutter.LineCutter.take_line.Goals as goal

pub loop-i-init : goal.loop-i-init
loop-i-init c = CutsUpTo_none _ _

pub loop-i-preserved : goal.loop-i-preserved
loop-i-preserved c =
    rw c.take.ensures (CutsUpTo_more _ _ _ _ c.loop-i-test.true c.if-byte-eq10.false c.loop-i.invariant)

pub returns-then-byte-eq10-clause-whole : goal.returns-then-byte-eq10-clause-whole
returns-then-byte-eq10-clause-whole c = CutsUpTo_end _ _ _ _ c.loop-i-test.true c.if-byte-eq10.true c.loop-i.invariant

pub returns-clause-part : goal.returns-clause-part
returns-clause-part c = CutsUpTo_all _ _ _ c.loop-i.i (omega arith) c.loop-i.invariant
