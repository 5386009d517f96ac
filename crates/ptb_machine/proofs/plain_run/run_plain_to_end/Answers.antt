-- This file answers that a run with a list of answers is the plain run with this list.
use Rattle.std.proofs.Common.{◌∙◌}
use Rattle.ptb_machine.proofs.ListAnswers.{goes_by_list, none_refused}
use Rattle.ptb_machine.proofs.plain_run.run_plain_to_end.Goals as goal

pub returns : goal.returns
returns g c =
    let run = c.run_on_input.ensures in
    let goes = goes_by_list c.args.answers.now c.new-chooser.result.chooser c.run_on_input.new.chooser.chooser
    c.args.program.now c.args.rules (c.new-chooser.ensures.chooser ∙ c.new.ensures) in
    record {
      plays = run.plays (λ _. c.args.answers.now) goes;
      memory = λ h. none_refused c.run_on_input.new.chooser.chooser (run.refused (λ _. c.args.answers.now) goes h);
      reads = run.reads;
      line = run.line (λ _. c.args.answers.now) goes;
    }
