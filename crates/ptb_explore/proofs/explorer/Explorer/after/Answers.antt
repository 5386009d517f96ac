-- This file answers that answers without bounds are a run as their list is, and that the runs of the program have
-- their laws.
use Rattle.std.proofs.Common.{◌≡◌, ◌∙◌, ap, refl}
use Rattle.std.proofs.lemmas.Result.{IfOk-weaker, on_ok_weaker}
use Rattle.ptb_answers.specs.AnswerText.{answers_of}
use Rattle.ptb_machine.specs.Play.{play}
use Rattle.ptb_explore.proofs.OpenedExplorers.{none_fits}
use Rattle.ptb_explore.proofs.RunPrefix.{program_laws}
use Rattle.ptb_explore.proofs.Runners.{added_alone}
use Rattle.ptb_explore.proofs.StatedBounds.{unmarked_answers, unmarked_run, unmarked_run_ok}
use Rattle.ptb_explore.proofs.explorer.Explorer.after.Goals as goal
use Rattle.ptb_explore.proofs.explorer.Explorer.after.Goals.{After-deref}

same : (c : After-deref) → answers_of c.deref.result.now ≡ c.args.answers.now
same c = ap answers_of (c.deref.ensures.value ∙ c.in_ok-list.ensures) ∙ unmarked_answers c.args.answers.now

pub returns-clause-after : goal.returns-clause-after
returns-clause-after c = rw (same (goal.at.returns-clause-after c).After-deref) at c.«open».ensures.opened

pub returns-clause-run : goal.returns-clause-run
returns-clause-run c =
    unmarked_run_ok (play c.args.program.now c.args.lines.now c.args.rules) c.args.answers.now _
    (c.deref.ensures.value ∙ c.in_ok-list.ensures) c.«open».result
    (on_ok_weaker c.«open».result (λ under. under.run) c.«open».ensures.run)

pub returns-clause-kept : goal.returns-clause-kept
returns-clause-kept c = rw (same (goal.at.returns-clause-kept c).After-deref) at c.«open».ensures.kept

pub returns-clause-played : goal.returns-clause-played
returns-clause-played c = rw (same (goal.at.returns-clause-played c).After-deref) at
    (IfOk-weaker c.«open».result _ _ (λ e h. added_alone (play c.args.program.now c.args.lines.now c.args.rules)
    (answers_of c.deref.result.now) h.0 e.played h.1 h.2) c.«open».ensures.played)

pub returns-clause-not_a_run : goal.returns-clause-not_a_run
returns-clause-not_a_run c = λ m fault run.
    (c.«open».ensures.not_a_run m fault).1 (record {
      run = unmarked_run (play c.args.program.now c.args.lines.now c.args.rules) c.args.answers.now _
          (c.deref.ensures.value ∙ c.in_ok-list.ensures) run;
      begins = refl;
    })

pub returns-clause-mismatch : goal.returns-clause-mismatch
returns-clause-mismatch c =
    let same = c.deref.ensures.value ∙ c.in_ok-list.ensures in
    rw same at c.«open».ensures.run_mismatch

pub returns-clause-kind : goal.returns-clause-kind
returns-clause-kind c = λ m fault.
    none_fits (play c.args.program.now c.args.lines.now c.args.rules) m (c.«open».ensures.mismatch m fault)

pub returns-in_err-list-clause-laws : goal.returns-in_err-list-clause-laws
returns-in_err-list-clause-laws c = program_laws c.run_laws.ensures c.args.program.now c.args.lines.now c.args.rules
