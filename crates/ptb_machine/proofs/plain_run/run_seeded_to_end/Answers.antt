-- This file answers that a run by a seed is the plain run with the answers that are drawn from the seed.
use Rattle.std.proofs.Common.{◌∙◌}
use Rattle.ptb_machine.proofs.SeedAnswers.{goes_by_drawn}
use Rattle.ptb_machine.proofs.plain_run.run_seeded_to_end.Goals as goal

pub returns : goal.returns
returns g c =
    let run = c.run_on_input.ensures in
    let goes =
    goes_by_drawn c.run_laws.ensures c.seeded_laws.ensures c.args.seed c.new-chooser.result.chooser
    c.run_on_input.new.chooser.chooser c.args.program.now c.args.rules
    (c.new-chooser.ensures.chooser ∙ c.new.ensures)
    in
    record {
      plays = λ answers drawn. run.plays answers (goes answers drawn);
      memory = λ answers drawn. run.memory answers (goes answers drawn);
      reads = run.reads;
      line = λ answers drawn. run.line answers (goes answers drawn);
      laws = c.seeded_laws.ensures;
    }
