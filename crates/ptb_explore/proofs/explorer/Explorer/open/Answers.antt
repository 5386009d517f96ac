-- This file answers that an explorer is where it is to be opened, or that a list fits no run.
use Rattle.std.proofs.Common.{◌≡◌, ◌∙◌, ℕ, List, sym, subst, true}
use Rattle.std.specs.Result.{IfOk}
use Rattle.std.proofs.lemmas.Result.{IfOk-weaker}
use Rattle.ptb_answers.specs.AnswerText.{answers_of}
use Rattle.ptb_answers.specs.Outcome.{Answers, Outcome}
use Rattle.ptb_machine.specs.Play.{Finish, play}
use Rattle.ptb_machine.specs.Questions.{most_answers}
use Rattle.ptb_explore.specs.Explorations.{IsAdded, game_of}
use Rattle.ptb_explore.specs.MarkedRuns.{IsMarkedRun}
use Rattle.ptb_machine.specs.RunTree.{begins_with}
use Rattle.ptb_explore.proofs.Exits.{on_ok_always, passed_on}
use Rattle.ptb_explore.proofs.Mismatches.{mismatch_closes}
use Rattle.ptb_explore.proofs.OpenedExplorers.{IsBefore, before_all, before_begun, before_game, before_opens}
use Rattle.ptb_explore.proofs.OpenedExplorers.{misfit_opened}
use Rattle.ptb_explore.proofs.RunPrefix.{program_laws}
use Rattle.ptb_explore.proofs.explorer.Explorer.«open».Goals as goal
use Rattle.ptb_explore.proofs.explorer.Explorer.«open».Goals.{Joined-not-is_empty}
use Rattle.ptb_explore.proofs.explorer.Explorer.«open».Goals.{then-not-is_empty+in_ok-check_beginning}
use Rattle.ptb_explore.proofs.explorer.Explorer.«open».Goals.{else-not-is_empty}

pub returns-in_err-items-clause-laws : goal.returns-in_err-items-clause-laws
returns-in_err-items-clause-laws c =
    program_laws c.run_laws.ensures c.args.program.now c.args.lines.now c.args.rules

pub returns-in_err-runner-clause-laws : goal.returns-in_err-runner-clause-laws
returns-in_err-runner-clause-laws c =
    program_laws c.run_laws.ensures c.args.program.now c.args.lines.now c.args.rules

pub returns-in_err-check_beginning-clause-laws : goal.returns-in_err-check_beginning-clause-laws
returns-in_err-check_beginning-clause-laws c =
    program_laws c.run_laws.ensures c.args.program.now c.args.lines.now c.args.rules

pub returns-in_err-check_beginning-clause-no_beginning : goal.returns-in_err-check_beginning-clause-no_beginning
returns-in_err-check_beginning-clause-no_beginning c = λ m fault.
    let p = c.args.program.now in
    let input = c.args.lines.now in
    let rules = c.args.rules in
    let made = c.in_ok-runner.ensures in
    mismatch_closes (play p input rules) (most_answers p input rules.limit) (c.run_laws.ensures.reads p input rules)
    c.args.prefix.now m (misfit_opened p input rules c.args.prefix.now c.in_ok-runner.runner made.program made.lines
    made.rules made.played m (c.in_err-check_beginning.ensures.mismatch m
    (passed_on _ _ _ c.from_residual-in_err-check_beginning.ensures.1 fault)))

-- what its runner is before it goes to a run, if it does
before : (c : Joined-not-is_empty) → IsBefore c.args.program.now c.args.lines.now c.args.rules c.args.prefix.now
    c.if-not-is_empty.runner
before c =
    let p = c.args.program.now in
    let input = c.args.lines.now in
    let rules = c.args.rules in
    let list = c.args.prefix.now in
    let made = c.in_ok-runner.ensures in
    elim c.if-not-is_empty.branch [
      | then-not-is_empty+in_ok-check_beginning w ↦ rw w.runner-is (before_begun p input rules list
          c.in_ok-runner.runner made.program made.lines made.rules made.played w.check_beginning.new.self
          w.check_beginning.ensures.same w.in_ok-check_beginning.ensures.none
          (sym c.is_empty.ensures ∙ w.if-not-is_empty.true)
          w.in_ok-check_beginning.ensures.beginning w.in_ok-check_beginning.ensures.played)
      | else-not-is_empty w ↦ rw w.runner-is (before_all p input rules list c.in_ok-runner.runner made.program
          made.lines made.rules made.played made.none (most_answers p input rules.limit)
          (c.run_laws.ensures.reads p input rules) (sym c.is_empty.ensures ∙ w.if-not-is_empty.false))
    ]

pub invariant_of-explorer : goal.invariant_of-explorer
invariant_of-explorer c =
    let is = before (goal.at.invariant_of-explorer c).Joined-not-is_empty in (
      before_opens c.args.program.now c.args.lines.now c.args.rules c.args.prefix.now c.if-not-is_empty.runner is
          c.in_ok-items.items.items c.in_ok-items.ensures,
      is.none,
    )

pub invariant_of-explorer-in-Some : goal.invariant_of-explorer-in-Some
invariant_of-explorer-in-Some c =
    let is = before (goal.at.invariant_of-explorer-in-Some c).Joined-not-is_empty in (
      before_opens c.args.program.now c.args.lines.now c.args.rules c.args.prefix.now c.if-not-is_empty.runner is
          c.in_ok-items.items.items c.in_ok-items.ensures,
      is.none,
    )

pub returns-in-None-clause-beginning : goal.returns-in-None-clause-beginning
returns-in-None-clause-beginning c = (before (goal.at.returns-in-None-clause-beginning c).Joined-not-is_empty).beginning

pub returns-in-None-clause-played : goal.returns-in-None-clause-played
returns-in-None-clause-played c =
    rw c.in-None.is (before (goal.at.returns-in-None-clause-played c).Joined-not-is_empty).played

pub returns-in-None-clause-laws : goal.returns-in-None-clause-laws
returns-in-None-clause-laws c =
    program_laws c.run_laws.ensures c.args.program.now c.args.lines.now c.args.rules

pub returns-in-Some-clause-beginning : goal.returns-in-Some-clause-beginning
returns-in-Some-clause-beginning c =
    on_ok_always c.go_to.result (before (goal.at.returns-in-Some-clause-beginning c).Joined-not-is_empty).beginning

pub returns-in-Some-clause-played : goal.returns-in-Some-clause-played
returns-in-Some-clause-played c =
    let r = c.if-not-is_empty.runner in
    let is = before (goal.at.returns-in-Some-clause-played c).Joined-not-is_empty in
    let game = before_game c.args.program.now c.args.lines.now c.args.rules c.args.prefix.now r is in
    let there = answers_of c.in-Some.list.now in
    let added : IfOk c.go_to.result (λ e. IsAdded (game_of r) there r.played e.played) = c.go_to.ensures.played in
    rw c.in-Some.is (IfOk-weaker c.go_to.result _ _ (λ e a. (
      r.played,
      is.played,
      subst (λ (g : Answers → Outcome Finish (List ℕ)). IsAdded g there r.played e.played) game a,
    )) added)

pub returns-in-Some-clause-not_a_run : goal.returns-in-Some-clause-not_a_run
returns-in-Some-clause-not_a_run c = λ m fault.
    let r = c.if-not-is_empty.runner in
    let is = before (goal.at.returns-in-Some-clause-not_a_run c).Joined-not-is_empty in
    let game = before_game c.args.program.now c.args.lines.now c.args.rules c.args.prefix.now r is in
    let list = c.in-Some.list.now in
    let none : IsMarkedRun (game_of r) list
    → begins_with (answers_of list) (answers_of c.in_ok-items.items.items) ≡ true → ⊥ =
    c.go_to.ensures.not_a_run m fault in (
      is.beginning,
      rw c.in-Some.is (λ run. none (subst (λ (g : Answers → Outcome Finish (List ℕ)). IsMarkedRun g list) (sym game)
          run.run) (rw c.in_ok-items.ensures run.begins)),
    )

pub returns-in-Some-clause-laws : goal.returns-in-Some-clause-laws
returns-in-Some-clause-laws c =
    program_laws c.run_laws.ensures c.args.program.now c.args.lines.now c.args.rules
