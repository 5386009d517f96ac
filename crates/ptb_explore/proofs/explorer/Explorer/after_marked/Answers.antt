-- This file answers that an explorer of all runs is at the run of a list.
use Rattle.std.proofs.Common.{refl}
use Rattle.std.proofs.lemmas.Result.{IfOk-weaker}
use Rattle.ptb_answers.specs.AnswerText.{answers_of}
use Rattle.ptb_machine.specs.Play.{play}
use Rattle.ptb_explore.proofs.OpenedExplorers.{none_fits}
use Rattle.ptb_explore.proofs.Runners.{added_alone}
use Rattle.ptb_explore.proofs.explorer.Explorer.after_marked.Goals as goal

pub returns-clause-played : goal.returns-clause-played
returns-clause-played c =
    IfOk-weaker c.«open».result _ _ (λ e h. added_alone (play c.args.program.now c.args.lines.now c.args.rules)
    (answers_of c.args.list.now) h.0 e.played h.1 h.2) c.«open».ensures.played

pub returns-clause-not_a_run : goal.returns-clause-not_a_run
returns-clause-not_a_run c = λ m fault run.
    (c.«open».ensures.not_a_run m fault).1 (record { run = run; begins = refl })

pub returns-clause-kind : goal.returns-clause-kind
returns-clause-kind c = λ m fault.
    none_fits (play c.args.program.now c.args.lines.now c.args.rules) m (c.«open».ensures.mismatch m fault)
