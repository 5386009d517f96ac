-- This file answers that the reports of a sample are written, or those of its first runs.
use Rattle.std.proofs.Common.{◌∙◌, Ok, Err, arith, ap, refl}
use Rattle.ptb_answers.specs.DrawnAnswers.{answers_by}
use Rattle.ptb_answers.specs.Seeds.{SeededAnswers}
use Rattle.ptb_machine.specs.Play.{play}
use Rattle.ptb_machine.specs.Questions.{most_answers}
use Rattle.ptb_explore.specs.Report.{report}
use Rattle.ptb_text.proofs.PublicLemmas.{failed_after}
use Rattle.ptb_explore.proofs.DrawnRuns.{left_by, run_of}
use Rattle.ptb_explore.proofs.Samples.{run_kind, sampled_ends, sampled_next}
use Rattle.ptb_explore.proofs.WrittenReports.{ended_failed, ended_unfailed}
use Rattle.ptb_explore.proofs.sampler.write_runs.Goals as goal

pub loop-remaining-preserved : goal.loop-remaining-preserved
loop-remaining-preserved g c =
    let l = c.loop-remaining in
    let i = l.invariant in
    let p = c.args.sampler.now.player in
    let lines = c.args.lines.now in
    let rules = c.args.rules in
    let game = play p lines rules in
    let most = most_answers p lines rules.limit in
    let left = left_by lines rules l.sampler.player p l.sampler.chooser.first c.write_run.new.sampler.chooser i.program
    c.in-Ok.ensures.leaves in
    record {
      program = c.in-Ok.ensures.program ∙ i.program;
      fresh = ap (λ (s : SeededAnswers). s.bounds) left;
      fewer = omega (arith, i.fewer);
      unfailed = c.in-Ok.ensures.unfailed (λ f. cc) ∙ i.unfailed;
      sampled = sampled_next game most (report c.args.sample.form game) c.args.sampler.now.chooser.first
          c.args.sample.runs _ l.sampler.chooser.first _ l.remaining _ _ _ c.loop-remaining-test.true refl i.sampled
          (ap (λ (s : SeededAnswers). s.first) left) (run_of lines rules l.sampler.player p l.sampler.chooser.first
          c.args.sample.form (g.W.Write.contents l.writer) (g.W.Write.contents c.write_run.new.writer)
          (Ok tt) i.program c.in-Ok.ensures.writes);
    }

pub returns-in-Err : goal.returns-in-Err
returns-in-Err g c =
    let l = c.loop-remaining in
    let p = c.args.sampler.now.player in
    let game = play p c.args.lines.now c.args.rules in
    let most = most_answers p c.args.lines.now c.args.rules.limit in
    let wrote = run_of c.args.lines.now c.args.rules l.sampler.player p l.sampler.chooser.first c.args.sample.form
    (g.W.Write.contents l.writer) (g.W.Write.contents c.write_run.new.writer) (Err c.in-Err.fault)
    l.invariant.program c.in-Err.ensures.writes in
    let kind = run_kind (report c.args.sample.form game) (answers_by most l.sampler.chooser.first game)
    (g.W.Write.contents l.writer) (g.W.Write.contents c.write_run.new.writer) c.in-Err.fault wrote in
    rw c.after.ensures (record {
      writes = sampled_ends game most (report c.args.sample.form game) c.args.sampler.now.chooser.first
          c.args.sample.runs _ l.sampler.chooser.first _ l.remaining _ _ c.loop-remaining-test.true l.invariant.sampled
          c.from.ensures c.in-Err.fault wrote;
      failed = ended_failed c.in-Err.fault kind
          (λ fault. failed_after _ _ _ l.invariant.unfailed (c.in-Err.ensures.failed fault)) _;
      unfailed = ended_unfailed c.in-Err.fault kind (λ none. c.in-Err.ensures.unfailed none ∙ l.invariant.unfailed) _;
    })
