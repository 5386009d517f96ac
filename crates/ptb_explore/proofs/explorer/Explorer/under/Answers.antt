-- This file answers that an explorer is before the runs that begin with a list where it is at no run.
use Rattle.ptb_answers.specs.AnswerText.{answers_of}
use Rattle.ptb_explore.proofs.OpenedExplorers.{first_view}
use Rattle.ptb_explore.proofs.explorer.Explorer.under.Goals as goal

pub returns-clause-under : goal.returns-clause-under
returns-clause-under c =
    first_view c.args.program.now c.args.lines.now c.args.rules (answers_of c.args.list.now) c.«open».result
    c.«open».ensures.opened c.«open».ensures.kept
