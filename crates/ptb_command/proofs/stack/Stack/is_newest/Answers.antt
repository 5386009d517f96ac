-- This file answers that the loop that was found is the newest.
use Rattle.std.proofs.Common.{sym, ◌∙◌}
use Rattle.std.proofs.lemmas.Bool.{eqb-true}
use Rattle.ptb_command.proofs.NewestOpens.{newest_stays}
use Rattle.ptb_command.proofs.stack.Stack.is_newest.Goals as goal

pub returns-in-Some : goal.returns-in-Some
returns-in-Some c same = newest_stays c.args.letter c.args.self.now c.in-Some.item c.in-Some.ensures
    (eqb-true c.in-Some.item.letter c.args.letter (sym c.eq.ensures ∙ same))
