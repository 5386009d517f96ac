-- This file answers that a run continues from where the newest copy that is left is, or begins.
use Rattle.std.proofs.Common.{arith, ◌≡◌, refl, sym, ap, subst, ◌∙◌, Some, None}
use Rattle.std.specs.Prelude.{option_map}
use Rattle.std.proofs.lemmas.Result.{IfOk-from_err}
use Rattle.ptb_command.specs.Configuration.{Configuration}
use Rattle.ptb_devices.specs.Sources.{LineList}
use Rattle.ptb_answers.specs.AskedQuestions.{answers_in, bounds_in}
use Rattle.ptb_explore.specs.Recorders.{given_bounds, recorded}
use Rattle.ptb_explore.specs.Copies.{GoesBackTo, machine_of, steps_or_none}
use Rattle.ptb_explore.proofs.ContinuedCopies.{on_copies, on_len, on_prefix}
use Rattle.ptb_explore.proofs.KeptCopies.{GoesOn, goes_on, kept_none, stands_machine}
use Rattle.ptb_explore.proofs.Exits.{on_ok_always}
use Rattle.ptb_explore.proofs.RestoredCopies.{same_plan, none_taken, no_copies, begun_prefix, begun_steps, copy_left}
use Rattle.ptb_explore.proofs.RecordedAnswers.{skipped_bounds}
use Rattle.ptb_explore.proofs.PlayedRecorders.{fresh_plan}
use Rattle.ptb_explore.proofs.AskedLists.{length-bounds_in}
use Rattle.ptb_explore.proofs.runner.Runner.go_back.Goals as goal
use Rattle.ptb_explore.proofs.runner.Runner.go_back.Goals.{In-Some}

pub returns-in_err-go_back : goal.returns-in_err-go_back
returns-in_err-go_back c = record {
  same = refl;
  plan = fresh_plan c.args.self.now.chooser c.requires.fresh;
  same_lines = refl;
  within = IfOk-from_err _ _ c.from_residual.ensures.0;
  unspent = IfOk-from_err _ _ c.from_residual.ensures.0;
  run_prefix = IfOk-from_err _ _ c.from_residual.ensures.0;
  copies = IfOk-from_err _ _ c.from_residual.ensures.0;
  back = IfOk-from_err _ _ c.from_residual.ensures.0;
  steps = IfOk-from_err _ _ c.from_residual.ensures.0;
}

pub returns-in-None : goal.returns-in-None
returns-in-None c =
    let left = no_copies _ _ _ _ c.in-None.is c.in_ok-go_back.ensures c.start.new.self.kept.items
    (ap (λ k. k.items) c.start.ensures.kept) in
    record {
      same = refl;
      plan = fresh_plan c.args.self.now.chooser c.requires.fresh;
      same_lines = refl;
      within = on_ok_always c.start.result (none_taken c.args.source.now c.requires.begins);
      unspent = c.start.ensures.unspent;
      run_prefix = begun_prefix c.start.result (λ b. b.value) c.args.self.now.player c.args.source.now
          c.args.self.now.rules c.args.self.now.chooser c.requires.fresh c.requires.begins _ c.cut.ensures
          c.start.ensures.first;
      copies = on_ok_always c.start.result
          (kept_none c.args.self.now.player c.args.source.now.lines c.args.self.now.rules _ _ _ left.0);
      back = on_ok_always c.start.result left.1;
      steps = begun_steps c.start.result (λ b. b.value) c.args.self.now.player _ left.0 c.start.ensures.first;
    }

-- the run continues from the newest copy that is left
from_copy : (c : In-Some) → GoesOn c.args.self.now.player c.args.source.now.lines c.args.self.now.rules
    c.args.common
    (answers_in c.args.self.now.report.asked.items) c.args.screen.now c.go_back.new.self.kept.items c.in-Some.copy
from_copy c = goes_on c.args.self.now.player c.args.source.now.lines c.args.self.now.rules c.args.common
    (answers_in c.args.self.now.report.asked.items) c.args.screen.now c.args.self.now.copies.kept.items
    c.go_back.new.self.kept.items c.in-Some.copy c.requires.copies
    (subst (GoesBackTo c.args.common c.args.self.now.copies.kept.items c.go_back.new.self.kept.items) c.in-Some.is
    c.in_ok-go_back.ensures)

pub cut-requires-in-Some : goal.cut-requires-in-Some
cut-requires-in-Some c =
    let on = from_copy (goal.at.cut-requires-in-Some c).In-Some in
    on.shown

pub go-requires : goal.go-requires
go-requires c =
    let on = from_copy (goal.at.go-requires c).In-Some in
    on.stands.within

pub returns-in-Some-machine-clause-within : goal.returns-in-Some-machine-clause-within
returns-in-Some-machine-clause-within c =
    let on = from_copy (goal.at.returns-in-Some-machine-clause-within c).In-Some in
    rw c.go.ensures on.stands.within

pub returns-in-Some-machine-clause-unspent : goal.returns-in-Some-machine-clause-unspent
returns-in-Some-machine-clause-unspent c =
    let on = from_copy (goal.at.returns-in-Some-machine-clause-unspent c).In-Some in
    let machine_is : machine_of c.in-Some.copy ≡ Some c.in-Some-machine.machine.value =
    ap (option_map (λ b. b.value)) c.in-Some-machine.is in
    rw c.in-Some-machine.is (ap (λ (m : Configuration). m.spent)
    (sym (stands_machine c.args.self.now.player c.args.source.now.lines c.args.self.now.rules c.in-Some.copy _ _
    c.in-Some-machine.machine.value on.stands machine_is)) ∙ on.stands.unspent)

pub returns-in-Some-machine-clause-run_prefix : goal.returns-in-Some-machine-clause-run_prefix
returns-in-Some-machine-clause-run_prefix c =
    let on = from_copy (goal.at.returns-in-Some-machine-clause-run_prefix c).In-Some in
    let machine_is : machine_of c.in-Some.copy ≡ Some c.in-Some-machine.machine.value =
    ap (option_map (λ b. b.value)) c.in-Some-machine.is in
    let given = skipped_bounds c.args.self.now.chooser c.assume_given.new.self c.in-Some.copy.taken
    c.assume_given.ensures.asked c.assume_given.ensures.given in
    rw c.in-Some-machine.is (on_prefix c.args.self.now.player c.args.source.now.lines c.args.self.now.rules
    c.args.common (recorded c.args.self.now.chooser) (answers_in c.args.self.now.report.asked.items)
    (bounds_in c.args.self.now.chooser.asked.items) c.args.screen.now c.go_back.new.self.kept.items
    c.in-Some.copy c.requires.agrees on (given_bounds c.assume_given.new.self) (recorded c.assume_given.new.self) given
    (ap answers_in c.assume_given.ensures.asked) _ c.cut-in-Some.new.self c.go.new.self
    c.in-Some-machine.machine.value c.cut-in-Some.ensures c.go.ensures machine_is)

pub returns-in-Some-machine-clause-copies : goal.returns-in-Some-machine-clause-copies
returns-in-Some-machine-clause-copies c =
    let on = from_copy (goal.at.returns-in-Some-machine-clause-copies c).In-Some in
    let given = skipped_bounds c.args.self.now.chooser c.assume_given.new.self c.in-Some.copy.taken
    c.assume_given.ensures.asked c.assume_given.ensures.given in
    on_copies c.args.self.now.player c.args.source.now.lines c.args.self.now.rules c.args.common
    (recorded c.args.self.now.chooser) (answers_in c.args.self.now.report.asked.items)
    (bounds_in c.args.self.now.chooser.asked.items) c.args.screen.now c.go_back.new.self.kept.items
    c.in-Some.copy c.requires.agrees on (given_bounds c.assume_given.new.self) (recorded c.assume_given.new.self) given
    (ap answers_in c.assume_given.ensures.asked) c.cut-in-Some.new.self c.cut-in-Some.ensures

pub returns-in-Some-machine-clause-steps : goal.returns-in-Some-machine-clause-steps
returns-in-Some-machine-clause-steps c =
    let on = from_copy (goal.at.returns-in-Some-machine-clause-steps c).In-Some in
    let machine_is : machine_of c.in-Some.copy ≡ Some c.in-Some-machine.machine.value =
    ap (option_map (λ b. b.value)) c.in-Some-machine.is in
    rw c.in-Some-machine.is (sym (on.steps ∙ ap steps_or_none machine_is))

pub unreachable-requires : goal.unreachable-requires
unreachable-requires c =
    let on = from_copy (goal.at.unreachable-requires c).In-Some in
    let none : machine_of c.in-Some.copy ≡ None = ap (option_map (λ b. b.value)) c.in-None-machine.is in
    let some : machine_of c.in-Some.copy ≡ Some on.stands.machine = on.stands.machine_is in
    absurd cc

pub assume_given-requires-clause-within : goal.assume_given-requires-clause-within
assume_given-requires-clause-within c =
    let chooser = c.args.self.now.chooser in
    let on = from_copy (goal.at.assume_given-requires-clause-within c).In-Some in
    let few = on_len c.args.self.now.player c.args.source.now.lines c.args.self.now.rules c.args.common
    (recorded chooser) (answers_in c.args.self.now.report.asked.items) (bounds_in chooser.asked.items) c.args.screen.now
    c.go_back.new.self.kept.items c.in-Some.copy c.requires.agrees on in
    omega (arith, few, length-bounds_in chooser.asked.items, chooser.asked.ok.0)

pub returns-in-Some-machine-clause-same : goal.returns-in-Some-machine-clause-same
returns-in-Some-machine-clause-same c = refl

pub returns-in-Some-machine-clause-plan : goal.returns-in-Some-machine-clause-plan
returns-in-Some-machine-clause-plan c = same_plan c.args.self.now.chooser c.assume_given.new.self c.requires.fresh
    (ap answers_in c.assume_given.ensures.asked) c.assume_given.ensures.planned

pub returns-in-Some-machine-clause-same_lines : goal.returns-in-Some-machine-clause-same_lines
returns-in-Some-machine-clause-same_lines c = ap (λ (s : LineList). s.lines) c.go.ensures

pub returns-in-Some-machine-clause-back : goal.returns-in-Some-machine-clause-back
returns-in-Some-machine-clause-back c = copy_left _ _ _ _ _ c.in-Some.is c.in_ok-go_back.ensures
