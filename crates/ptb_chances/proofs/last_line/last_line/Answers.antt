-- This file answers that the last line is found.
use Rattle.std.proofs.Common.{◌∷◌, ap, sym, ◌∙◌}
use Rattle.ptb_chances.specs.Chances.{last_line}
use Rattle.ptb_text.specs.Lines.{lines}
use Rattle.ptb_chances.proofs.LastLines.{last_after_empty}
use Rattle.ptb_chances.proofs.last_line.last_line.Goals as goal

pub loop-last-init : goal.loop-last-init
loop-last-init c = last_after_empty (lines c.args.text.now)

pub loop-last-preserved : goal.loop-last-preserved
loop-last-preserved c = ap (λ ls. last_line (c.loop-last.last.now ∷ ls)) (sym c.split_line.ensures.lines)
    ∙ c.loop-last.invariant
