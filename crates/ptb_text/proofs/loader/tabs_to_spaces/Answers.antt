-- This file answers what is left to prove of `tabs_to_spaces`.
use Rattle.std.proofs.Common.{◌∙◌}
use Rattle.ptb_text.proofs.Pieces.{spaces_more, spaces_same}
use Rattle.ptb_text.proofs.loader.tabs_to_spaces.Goals as goal
use Rattle.ptb_text.proofs.loader.tabs_to_spaces.Goals.{then-byte-eq9, else-byte-eq9}

pub loop-byte-preserved : goal.loop-byte-preserved
loop-byte-preserved c =
    elim c.if-byte-eq9.branch [
      | then-byte-eq9 w ↦ w.text-is ∙ spaces_more c.args.text.now c.loop-byte.text c.loop-byte.byte-index
          c.loop-byte-test.true c.loop-byte.invariant w.if-byte-eq9.true
      | else-byte-eq9 w ↦ w.text-is ∙ spaces_same c.args.text.now c.loop-byte.text c.loop-byte.byte-index
          c.loop-byte-test.true c.loop-byte.invariant w.if-byte-eq9.false
    ]
