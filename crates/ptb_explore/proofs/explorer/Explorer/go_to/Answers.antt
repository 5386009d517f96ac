-- This file answers that an explorer is at the run of a list, if its bounds are as they are stated and it begins as
-- each run does.
use Rattle.std.proofs.Common.{◌≡◌, ◌∙◌, [], ap, sym, subst, refl, true}
use Rattle.ptb_answers.specs.AnswerText.{answers_of}
use Rattle.ptb_machine.specs.Questions.{most_answers}
use Rattle.ptb_answers.specs.AskedQuestions.{answers_in}
use Rattle.ptb_explore.specs.Explorations.{Exploration, IsAdded, exploration, game_of, play_of}
use Rattle.ptb_explore.specs.Copies.{kept_runs}
use Rattle.ptb_explore.specs.Plans.{front_at}
use Rattle.ptb_explore.specs.MarkedRuns.{IsMarkedRun}
use Rattle.ptb_explore.specs.Mismatch.{IsRunMismatch}
use Rattle.ptb_machine.specs.RunTree.{At, begins_with}
use Rattle.ptb_explore.proofs.Exits.{ok_no_err, passed_on}
use Rattle.ptb_explore.proofs.Mismatches.{alone_is_under, run_closes}
use Rattle.ptb_explore.proofs.OpenedExplorers.{at_run, gone_kept, gone_view}
use Rattle.ptb_explore.proofs.explorer.Explorer.go_to.Goals as goal

pub invariant_of-self : goal.invariant_of-self
invariant_of-self c =
    let e = c.self.inside in
    let ran = c.in_ok-check_run.ensures in
    let begins = ap (λ l. begins_with (answers_of c.args.list.now) (answers_of l)) (sym c.deref.ensures.value)
    ∙ sym c.items_begin_with.ensures ∙ c.if-not-items_begin_with.false in
    at_run e.runner c.check_run.new.self c.check_run.ensures.same c.args.list.now e.prefix.items ran.run ran.answers
    ran.bounds begins ran.copies

pub returns : goal.returns
returns c =
    let e = c.self.inside in
    let ran = c.in_ok-check_run.ensures in
    let new = c.check_run.new.self in
    let under = answers_of e.prefix.items in
    let kept = kept_runs (answers_in new.report.asked.items) new.copies.kept.items in
    let is : Exploration = exploration new.player new.lines.now new.rules under
    (At (answers_in new.report.asked.items)) kept new.played in
    let begins = sym c.items_begin_with.ensures ∙ c.if-not-items_begin_with.false in
    record {
      there = subst (λ (x : Exploration). is ≡ record x {
        front = At (answers_of c.args.list.now);
        kept = kept;
        played = new.played;
      }) c.self.view_is
          (gone_view e.runner new c.check_run.ensures.same under (front_at e.position
          (answers_in e.runner.report.asked.items)) c.args.list.now ran.answers kept (kept_runs
          (answers_in e.runner.report.asked.items) e.runner.copies.kept.items) new.played e.runner.played);
      run = subst (λ (x : Exploration). IsMarkedRun (play_of x) c.args.list.now) c.self.view_is ran.run;
      begins = subst (λ (x : Exploration). begins_with (answers_of c.args.list.now) x.prefix ≡ true) c.self.view_is
          (rw c.deref.ensures.value at begins);
      kept = gone_kept e.runner.player e.runner.lines.now e.runner.rules (answers_of c.args.list.now) _ _ _ ran.answers
          ran.copies;
      played = subst (λ (x : Exploration). IsAdded (play_of x) (answers_of c.args.list.now) x.played
          c.check_run.new.self.played) c.self.view_is ran.played;
      not_a_run = λ _ fault _ _. ok_no_err fault;
      mismatch = λ _ _ _ fault. ok_no_err fault;
      kind = λ _ fault. ok_no_err fault;
      memory = ok_no_err;
    }

pub returns-then-not-items_begin_with-clause-memory : goal.returns-then-not-items_begin_with-clause-memory
returns-then-not-items_begin_with-clause-memory c = λ fault. absurd cc

pub returns-in_err-check_run-clause-not_a_run : goal.returns-in_err-check_run-clause-not_a_run
returns-in_err-check_run-clause-not_a_run c = λ m fault run _.
    let r = c.self.inside.runner in
    subst (λ (x : Exploration). IsMarkedRun (play_of x) c.args.list.now → ⊥) c.self.view_is
    (λ is. run_closes (game_of r) (most_answers r.player r.lines.now r.rules.limit)
    (c.run_laws.ensures.reads r.player r.lines.now r.rules) [] c.args.list.now m
    (c.in_err-check_run.ensures.mismatch m (passed_on _ _ _ c.from_residual.ensures.1 fault)) is refl) run

pub returns-in_err-check_run-clause-mismatch : goal.returns-in_err-check_run-clause-mismatch
returns-in_err-check_run-clause-mismatch c = λ under is m fault.
    let e = c.self.inside in
    let r = e.runner in
    let begins : begins_with (answers_of c.args.list.now) (answers_of e.prefix.items) ≡ true =
    ap (λ l. begins_with (answers_of c.args.list.now) (answers_of l)) (sym c.deref.ensures.value)
    ∙ sym c.items_begin_with.ensures ∙ c.if-not-items_begin_with.false in
    subst (λ (x : Exploration). answers_of under ≡ x.prefix
    → IsRunMismatch (play_of x) under c.args.list.now m) c.self.view_is
    (λ same. alone_is_under (game_of r) (most_answers r.player r.lines.now r.rules.limit)
    (c.run_laws.ensures.reads r.player r.lines.now r.rules) under c.args.list.now m
    (ap (begins_with (answers_of c.args.list.now)) same ∙ begins)
    (c.in_err-check_run.ensures.mismatch m (passed_on _ _ _ c.from_residual.ensures.1 fault))) is

pub returns-in_err-check_run-clause-kind : goal.returns-in_err-check_run-clause-kind
returns-in_err-check_run-clause-kind c =
    λ m fault. c.in_err-check_run.ensures.kind m (passed_on _ _ _ c.from_residual.ensures.1 fault)
