-- This file answers that the lines that are written are those of the lists that were left, in their order.
use Rattle.std.proofs.Common.{rules, ◌∙◌, []}
use Rattle.std.proofs.Math.Nat.{le_trans}
use Rattle.ptb_explore.specs.Beginnings.{beginning_line, split_play}
use Rattle.ptb_explore.proofs.Exits.{ok_no_err}
use Rattle.ptb_explore.proofs.PlayedRuns.{ended_played, once_then}
use Rattle.ptb_text.proofs.PublicLemmas.{failed_after}
use Rattle.ptb_explore.proofs.WrittenLines.{game_of, game_reads, line_ends, no_line}
use Rattle.ptb_explore.proofs.WrittenLines.{one_line_fewer, one_line_more, same_search}
use Rattle.ptb_explore.proofs.WrittenReports.{ended_failed, ended_unfailed, next_kind}
use Rattle.ptb_explore.proofs.beginnings.write_beginnings.Goals as goal

pub loop-fault-init : goal.loop-fault-init
loop-fault-init g c = search rules

pub loop-fault-smaller : goal.loop-fault-smaller
loop-fault-smaller g c =
    one_line_fewer c.args.form c.args.beginnings.now c.loop-fault.beginnings c.loop-fault.invariant.same
    (game_reads c.run_laws.ensures c.args.beginnings.now) _ _ _ _ c.loop-fault.invariant.progress
    c.write_next_line.new.beginnings.front _ _ c.in-Ok-true.field-0-test c.in-Ok-true.ensures.writes

pub loop-fault-preserved : goal.loop-fault-preserved
loop-fault-preserved g c = record {
  same = same_search c.args.form c.args.beginnings.now c.loop-fault.beginnings c.loop-fault.invariant.same _
      c.in-Ok-true.ensures.same;
  rises = le_trans c.loop-fault.invariant.rises c.in-Ok-true.ensures.rises;
  played = le_trans (c.in-Ok-true.ensures.played (λ fault. ok_no_err fault)) c.loop-fault.invariant.played;
  unfailed = c.in-Ok-true.ensures.unfailed (λ fault. ok_no_err fault) ∙ c.loop-fault.invariant.unfailed;
  progress = one_line_more c.args.form c.args.beginnings.now c.loop-fault.beginnings c.loop-fault.invariant.same
      (game_reads c.run_laws.ensures c.args.beginnings.now) _ _ _ _ c.loop-fault.invariant.progress
      c.write_next_line.new.beginnings.front _ _ c.in-Ok-true.field-0-test c.in-Ok-true.ensures.writes
      _ c.saturating_add-written.ensures;
}

pub returns-in-Ok-false : goal.returns-in-Ok-false
returns-in-Ok-false g c = record {
  same = same_search c.args.form c.args.beginnings.now c.loop-fault.beginnings c.loop-fault.invariant.same _
      c.in-Ok-false.ensures.same;
  rises = le_trans c.loop-fault.invariant.rises c.in-Ok-false.ensures.rises;
  played = λ _. le_trans (c.in-Ok-false.ensures.played (λ fault. ok_no_err fault)) c.loop-fault.invariant.played;
  once = once_then c.loop-fault.invariant.played c.in-Ok-false.ensures.once;
  writes = no_line c.args.form c.args.beginnings.now c.loop-fault.beginnings c.loop-fault.invariant.same
      (game_reads c.run_laws.ensures c.args.beginnings.now) _ _ _ _ c.loop-fault.invariant.progress
      c.write_next_line.new.beginnings.front _ _ c.in-Ok-false.field-0-test c.in-Ok-false.ensures.writes;
  failed = λ n fault. ok_no_err fault;
  unfailed = λ _. c.in-Ok-false.ensures.unfailed (λ fault. ok_no_err fault) ∙ c.loop-fault.invariant.unfailed;
}

pub returns-in-Err : goal.returns-in-Err
returns-in-Err g c =
    let s = c.loop-fault.beginnings in
    let kind = next_kind (game_of s) [] (beginning_line c.args.form (split_play s)) s.front
    c.write_next_line.new.beginnings.front (g.W.Write.contents c.loop-fault.writer)
    (g.W.Write.contents c.write_next_line.new.writer) c.in-Err.fault c.in-Err.ensures.writes in
    rw c.after.ensures (record {
      same = same_search c.args.form c.args.beginnings.now s c.loop-fault.invariant.same _ c.in-Err.ensures.same;
      rises = le_trans c.loop-fault.invariant.rises c.in-Err.ensures.rises;
      played = ended_played c.in-Err.fault kind
          (λ none. le_trans (c.in-Err.ensures.played none) c.loop-fault.invariant.played) _;
      once = once_then c.loop-fault.invariant.played c.in-Err.ensures.once;
      writes = line_ends c.args.form c.args.beginnings.now s c.loop-fault.invariant.same
          (game_reads c.run_laws.ensures c.args.beginnings.now) _ _ _ _ c.loop-fault.invariant.progress
          c.write_next_line.new.beginnings.front _ c.in-Err.fault c.in-Err.ensures.writes;
      failed = ended_failed c.in-Err.fault kind
          (λ fault. failed_after _ _ _ c.loop-fault.invariant.unfailed (c.in-Err.ensures.failed fault)) _;
      unfailed = ended_unfailed c.in-Err.fault kind
          (λ none. c.in-Err.ensures.unfailed none ∙ c.loop-fault.invariant.unfailed) _;
    })
