-- This file answers that the report of the next run is written, and which words are left.
use Rattle.std.proofs.Common.{◌≡◌, ◌∙◌, subst}
use Rattle.std.specs.Io.KnownBytes.{Appends}
use Rattle.ptb_text.specs.Device.{TakesSome}
use Rattle.ptb_answers.specs.AnswerText.{items_in}
use Rattle.ptb_answers.specs.AskedQuestions.{answers_in, bounds_in}
use Rattle.ptb_answers.specs.DrawnAnswers.{answers_by}
use Rattle.ptb_machine.specs.Play.{play}
use Rattle.ptb_machine.specs.Questions.{most_answers}
use Rattle.ptb_explore.specs.ReportText.{report_text}
use Rattle.ptb_explore.specs.Report.{report}
use Rattle.ptb_explore.proofs.DrawnRuns.{words_left, written_is}
use Rattle.ptb_explore.proofs.sampler.write_run.Goals as goal
use Rattle.ptb_explore.proofs.sampler.write_run.Goals.{After-write}

-- what is written is the report of the run
is_report : (g : _) (c : After-write g)
    → report_text (items_in c.args.form (answers_in c.asked.result.now) (bounds_in c.asked.result.now))
    c.ending_word.result.now
    c.steps.result c.bytes.result.now
    ≡ report c.args.form (play c.args.sampler.now.player c.args.lines.now c.args.rules)
    (answers_by (most_answers c.args.sampler.now.player c.args.lines.now c.args.rules.limit)
    c.args.sampler.now.chooser.first (play c.args.sampler.now.player c.args.lines.now c.args.rules))
is_report g c =
    let p = c.args.sampler.now.player in
    let lines = c.args.lines.now in
    written_is (play p lines c.args.rules) (most_answers p lines c.args.rules.limit)
    (c.run_laws.ensures.reads p lines c.args.rules) c.args.sampler.now.chooser.first c.play_next.new.sampler.chooser _
    c.in-Ok.ensures.drawn c.args.form _ _ _ _ _ c.asked.ensures.answers c.asked.ensures.bounds c.ending_word.ensures
    c.steps.ensures c.bytes.ensures

pub returns-in-Ok-write-clause-writes : goal.returns-in-Ok-write-clause-writes
returns-in-Ok-write-clause-writes g c =
    subst (Appends (g.W.Write.contents c.args.writer.now) (g.W.Write.contents c.write.new.out))
    (is_report g (goal.at.returns-in-Ok-write-clause-writes g c).After-write)
    c.in-Ok-write.ensures.ok

pub returns-in-Ok-write-clause-leaves : goal.returns-in-Ok-write-clause-leaves
returns-in-Ok-write-clause-leaves g c =
    let p = c.args.sampler.now.player in
    let lines = c.args.lines.now in
    c.forget.ensures ∙ words_left (play p lines c.args.rules) (most_answers p lines c.args.rules.limit)
    (c.run_laws.ensures.reads p lines c.args.rules) c.args.sampler.now.chooser.first c.play_next.new.sampler.chooser
    _ c.in-Ok.ensures.drawn

pub returns-in-Err-clause-writes : goal.returns-in-Err-clause-writes
returns-in-Err-clause-writes g c =
    subst (TakesSome (g.W.Write.contents c.args.writer.now) (g.W.Write.contents c.write.new.out))
    (is_report g (goal.at.returns-in-Err-clause-writes g c).After-write)
    c.in-Err.ensures.fault
