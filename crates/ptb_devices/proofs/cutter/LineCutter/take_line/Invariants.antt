-- This file says what the loops of `LineCutter::take_line` keep.
use Rattle.ptb_devices.proofs.CutLines.{CutsUpTo}
use Rattle.ptb_devices.proofs.cutter.LineCutter.take_line.Given as goal

-- the bytes before the index were taken
abbrev pub invariant-loop-i : goal.invariant-loop-i
invariant-loop-i l = CutsUpTo l.initial.self l.bytes l.i l.self
