-- This file answers what is left to prove of `Line::clean`.
use Rattle.std.proofs.Common.{sym, ap, ◌∙◌, get_or}
use Rattle.ptb_devices.specs.CutLines.{kept_bytes, with_byte}
use Rattle.ptb_devices.proofs.CutLines.{clean_line-take}
use Rattle.ptb_devices.proofs.lines.Line.clean.Goals as goal

pub loop-byte-preserved : goal.loop-byte-preserved
loop-byte-preserved c =
    ap kept_bytes c.take.ensures ∙ ap (λ k. with_byte k (get_or c.args.bytes.now c.loop-byte.byte-index 0))
    c.loop-byte.invariant ∙ sym (clean_line-take _ _ c.loop-byte-test.true)
