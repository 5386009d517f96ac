-- This file answers that memory is wanted only for the items of lists, and proves goals of `mode` by short searches,
-- so that a planted bug is refused soon.
use Rattle.std.proofs.Common.{rules}
use Rattle.ptb_options.proofs.KeptLists.{after_refused, answers_refused, under_refused}
use Rattle.ptb_options.proofs.given_options.GivenOptions.mode.Goals as goal

pub returns-then-self-4-clause-ok : goal.returns-then-self-4-clause-ok
returns-then-self-4-clause-ok c = search rules fits 50 depth 2

pub returns-in-Some-clause-ok : goal.returns-in-Some-clause-ok
returns-in-Some-clause-ok c = search rules fits 50 depth 2

pub returns-in_err-list-clause-fault : goal.returns-in_err-list-clause-fault
returns-in_err-list-clause-fault c =
    under_refused c.args.self.now _ c.self.view_is c.requires.spelled c.from_residual.result c.in_err-list.field-0.0
    c.from_residual.ensures.1 (record {
      unlisted = c.if-self.false;
      unchecked = c.if-self-2.false;
      no_chances = c.if-self-3.false;
    }) c.if-self-4.true c.in_default.is c.in_err-list.ensures.fault

pub returns-in_err-list-2-clause-fault : goal.returns-in_err-list-2-clause-fault
returns-in_err-list-2-clause-fault c =
    after_refused c.args.self.now _ c.self.view_is c.requires.spelled c.from_residual-in_err-list-2.result
    c.in_err-list-2.field-0.0 c.from_residual-in_err-list-2.ensures.1 (record {
      unlisted = c.if-self.false;
      unchecked = c.if-self-2.false;
      no_chances = c.if-self-3.false;
    }) c.if-self-4.true
    c.in_default.is c.in_err-list-2.ensures.fault

pub returns-in_err-answers-clause-fault : goal.returns-in_err-answers-clause-fault
returns-in_err-answers-clause-fault c =
    answers_refused c.args.self.now _ c.self.view_is c.requires.spelled c.from_residual-in_err-answers.result
    c.in_err-answers.field-0.0 c.from_residual-in_err-answers.ensures.1 (record {
      unlisted = c.if-self.false;
      unchecked = c.if-self-2.false;
      no_chances = c.if-self-3.false;
    }) c.if-self-4.false
    c.in_default-seed.is c.in_err-answers.ensures.fault
