-- This file answers what is left to prove of `staying_blocks`.
use Rattle.std.proofs.Common.{arith}
use Rattle.ptb_devices.proofs.CutLines.{StayUpTo_none}
use Rattle.ptb_devices.proofs.line_buffer.staying_blocks.Goals as goal

pub loop-count-init : goal.loop-count-init
loop-count-init c = record { within = omega arith; stay = StayUpTo_none _ }
