-- This file answers that the reports that are written are those of the runs that were left, in their order.
use Rattle.std.proofs.Common.{rules, ◌∙◌}
use Rattle.std.proofs.Math.Nat.{le_trans}
use Rattle.ptb_explore.proofs.Exits.{ok_no_err}
use Rattle.ptb_explore.proofs.PlayedRuns.{ended_played, once_then, plays_once}
use Rattle.ptb_text.proofs.PublicLemmas.{failed_after}
use Rattle.ptb_explore.specs.Explorations.{play_of}
use Rattle.ptb_explore.specs.Report.{report}
use Rattle.ptb_explore.proofs.WrittenReports.{all_wanted, ended_failed, ended_unfailed, next_ends, next_kind}
use Rattle.ptb_explore.proofs.WrittenReports.{none_next, one_fewer, one_more, same_after}
use Rattle.ptb_explore.proofs.listing.write_all_runs.Goals as goal

pub loop-form-init : goal.loop-form-init
loop-form-init g c = search rules

pub loop-form-smaller : goal.loop-form-smaller
loop-form-smaller g c =
    one_fewer c.args.form c.args.explorer.now c.loop-form.explorer c.loop-form.invariant.same
    (c.run_laws.ensures.reads c.args.explorer.now.program c.args.explorer.now.input c.args.explorer.now.rules) _ _ _
    _ _ c.loop-form.invariant.progress
    c.write_next.new.explorer.front _ c.loop-form-test.ensures _ c.in-Ok-true.field-0-test c.in-Ok-true.ensures.writes

pub loop-form-preserved : goal.loop-form-preserved
loop-form-preserved g c = record {
  same = same_after c.args.form c.args.explorer.now c.loop-form.explorer c.loop-form.invariant.same _
      c.in-Ok-true.ensures.same;
  rises = le_trans c.loop-form.invariant.rises c.in-Ok-true.ensures.rises;
  played = le_trans (c.in-Ok-true.ensures.played (λ fault. ok_no_err fault)) c.loop-form.invariant.played;
  unfailed = c.in-Ok-true.ensures.unfailed (λ fault. ok_no_err fault) ∙ c.loop-form.invariant.unfailed;
  progress = one_more c.args.form c.args.explorer.now c.loop-form.explorer c.loop-form.invariant.same
      (c.run_laws.ensures.reads c.args.explorer.now.program c.args.explorer.now.input c.args.explorer.now.rules) _ _ _ _
      _ c.loop-form.invariant.progress
      c.write_next.new.explorer.front _ c.loop-form-test.ensures _ c.in-Ok-true.field-0-test c.in-Ok-true.ensures.writes
      _ c.one_less-remaining.ensures _ c.saturating_add-written.ensures;
}

pub returns-in-Ok-false : goal.returns-in-Ok-false
returns-in-Ok-false g c = record {
  same = same_after c.args.form c.args.explorer.now c.loop-form.explorer c.loop-form.invariant.same _
      c.in-Ok-false.ensures.same;
  rises = le_trans c.loop-form.invariant.rises c.in-Ok-false.ensures.rises;
  played = λ _. le_trans (c.in-Ok-false.ensures.played (λ fault. ok_no_err fault)) c.loop-form.invariant.played;
  once = once_then c.loop-form.invariant.played c.in-Ok-false.ensures.once;
  writes = none_next c.args.form c.args.explorer.now c.loop-form.explorer c.loop-form.invariant.same
      (c.run_laws.ensures.reads c.args.explorer.now.program c.args.explorer.now.input c.args.explorer.now.rules) _ _ _ _
      _ c.loop-form.invariant.progress
      c.write_next.new.explorer.front _ _ c.in-Ok-false.field-0-test c.in-Ok-false.ensures.writes;
  failed = λ n fault. ok_no_err fault;
  unfailed = λ _. c.in-Ok-false.ensures.unfailed (λ fault. ok_no_err fault) ∙ c.loop-form.invariant.unfailed;
}

pub returns-in-Err : goal.returns-in-Err
returns-in-Err g c =
    let e = c.loop-form.explorer in
    let kind = next_kind (play_of e) e.prefix (report c.args.form (play_of e)) e.front c.write_next.new.explorer.front
    (g.W.Write.contents c.loop-form.writer) (g.W.Write.contents c.write_next.new.writer) c.in-Err.fault
    c.in-Err.ensures.writes in
    rw c.after.ensures (record {
      same = same_after c.args.form c.args.explorer.now e c.loop-form.invariant.same _ c.in-Err.ensures.same;
      rises = le_trans c.loop-form.invariant.rises c.in-Err.ensures.rises;
      played = ended_played c.in-Err.fault kind
          (λ none. le_trans (c.in-Err.ensures.played none) c.loop-form.invariant.played) _;
      once = once_then c.loop-form.invariant.played c.in-Err.ensures.once;
      writes = next_ends c.args.form c.args.explorer.now e c.loop-form.invariant.same
          (c.run_laws.ensures.reads c.args.explorer.now.program c.args.explorer.now.input c.args.explorer.now.rules) _ _
          _ _ _ c.loop-form.invariant.progress
          c.write_next.new.explorer.front _ c.loop-form-test.ensures c.in-Err.fault c.in-Err.ensures.writes;
      failed = ended_failed c.in-Err.fault kind
          (λ fault. failed_after _ _ _ c.loop-form.invariant.unfailed (c.in-Err.ensures.failed fault)) _;
      unfailed = ended_unfailed c.in-Err.fault kind
          (λ none. c.in-Err.ensures.unfailed none ∙ c.loop-form.invariant.unfailed) _;
    })

pub returns : goal.returns
returns g c = record {
  same = c.loop-form.invariant.same;
  rises = c.loop-form.invariant.rises;
  played = λ _. c.loop-form.invariant.played;
  once = plays_once c.loop-form.invariant.played;
  writes = all_wanted c.args.form c.args.explorer.now c.loop-form.explorer c.loop-form.invariant.same
      (c.run_laws.ensures.reads c.args.explorer.now.program c.args.explorer.now.input c.args.explorer.now.rules) _ _ _ _
      _ c.loop-form.invariant.progress c.loop-form-test.ensures;
  failed = λ n fault. ok_no_err fault;
  unfailed = λ _. c.loop-form.invariant.unfailed;
}
