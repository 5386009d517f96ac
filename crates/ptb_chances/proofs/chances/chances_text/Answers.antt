-- This file answers that the text is that of the table.
use Rattle.std.proofs.Common.{ap, ◌∙◌}
use Rattle.ptb_machine.specs.Play.{play}
use Rattle.ptb_machine.specs.Questions.{most_answers}
use Rattle.ptb_chances.specs.Chances.{table_text}
use Rattle.ptb_machine.specs.RunTree.{tree}
use Rattle.ptb_chances.proofs.PassedResults.{if_ok}
use Rattle.ptb_chances.proofs.PositiveAccounts.{all_positive}
use Rattle.ptb_chances.proofs.Tables.{table_is}
use Rattle.ptb_chances.proofs.chances.chances_text.Goals as goal

pub returns : goal.returns
returns g c =
    let game = play c.args.program.now c.args.lines.now c.args.rules in
    let most = most_answers c.args.program.now c.args.lines.now c.args.rules.limit in
    if_ok c.text.result c.text.ensures.text (λ _ is. is
    ∙ ap table_text (table_is game (tree game most)
    (all_positive game most (c.run_laws.ensures.reads c.args.program.now c.args.lines.now c.args.rules))
    c.in_ok-tally.tally c.in_ok-tally.ensures c.text.ensures.rising))
