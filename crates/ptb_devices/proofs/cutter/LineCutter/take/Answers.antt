-- This file answers what is left to prove of `LineCutter::take`.
use Rattle.ptb_devices.proofs.CutLines.{IsClean-with_byte}
use Rattle.ptb_devices.proofs.cutter.LineCutter.take.Goals as goal

pub invariant_of-self : goal.invariant_of-self
invariant_of-self c =
    (λ e. absurd cc, rw c.keep.ensures (IsClean-with_byte c.self.inside.kept.items c.args.byte c.self.invariant.1))
