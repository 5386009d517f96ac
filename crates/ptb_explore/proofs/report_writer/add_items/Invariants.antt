-- This file says what is added and kept after some of the items.
use Rattle.std.proofs.Common.{◌≡◌, take}
use Rattle.ptb_explore.specs.ReportHeaders.{AreEnds, header_prefix, marked_items}
use Rattle.ptb_explore.specs.ReportText.{asked_items}
use Rattle.ptb_explore.proofs.report_writer.add_items.Given as goal

abbrev pub invariant-loop-k : goal.invariant-loop-k
invariant-loop-k l = record {
  text : l.text ≡ header_prefix (take l.k (asked_items l.form l.asked));
  items : marked_items l.kept ≡ take l.k (asked_items l.form l.asked);
  ends : AreEnds l.kept;
}
