-- This file says that the first items are the same.
use Rattle.std.proofs.Common.{◌≡◌, ◌≤◌, length, take}
use Rattle.ptb_explore.specs.ReportHeaders.{marked_items}
use Rattle.ptb_explore.specs.ReportText.{asked_items}
use Rattle.ptb_explore.proofs.report_writer.count_same.Given as goal

abbrev pub invariant-loop-k : goal.invariant-loop-k
invariant-loop-k l = record {
  within : l.k ≤ length l.items;
  same : take l.k (marked_items l.items) ≡ take l.k (asked_items l.form l.asked);
}
