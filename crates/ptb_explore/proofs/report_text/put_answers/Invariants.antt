-- This file says what is gathered after some of the answers.
use Rattle.std.proofs.Common.{◌≡◌, ◌++◌, take}
use Rattle.std.specs.List.{flat_map}
use Rattle.ptb_text.specs.Device.{Gathers}
use Rattle.ptb_explore.specs.ReportText.{asked_items}
use Rattle.ptb_explore.proofs.ReportText.{pieces_of, whole_piece}
use Rattle.ptb_explore.proofs.report_text.put_answers.Given as goal

abbrev pub invariant-loop-k : goal.invariant-loop-k
invariant-loop-k g l = record {
  unfailed : g.W.Write.failures l.out ≡ g.W.Write.failures l.initial.out;
  gathered : Gathers (g.W.Write.contents l.initial.out) (g.W.Write.contents l.out)
      (l.initial.pending ++ flat_map whole_piece (take l.k (pieces_of (asked_items l.form l.asked)))) l.pending;
}
