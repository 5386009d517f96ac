-- This file answers which list is misspelled first, and proves goals of `misspelled` by short searches, so that a
-- planted bug is refused soon.
use Rattle.std.proofs.Common.{rules}
use Rattle.ptb_options.proofs.KeptLists.{after_is_first, answers_are_first}
use Rattle.ptb_options.proofs.given_options.GivenOptions.misspelled.Goals as goal

pub returns-in-Some-clause-some : goal.returns-in-Some-clause-some
returns-in-Some-clause-some c = search rules fits 50 depth 2

pub returns-in-Some-mistake_if_given-clause-some : goal.returns-in-Some-mistake_if_given-clause-some
returns-in-Some-mistake_if_given-clause-some c =
    after_is_first c.args.self.now _ c.self.view_is
    (c.mistake_if_given.ensures.none c.in_default.is) c.in-Some-mistake_if_given.mistake
    c.in-Some-mistake_if_given.ensures.some

pub returns-in_err-mistake-clause-none : goal.returns-in_err-mistake-clause-none
returns-in_err-mistake-clause-none c = search rules fits 50 depth 2

pub returns-clause-some : goal.returns-clause-some
returns-clause-some c =
    answers_are_first c.args.self.now _ c.self.view_is
    (c.mistake_if_given.ensures.none c.in_default.is) c.in_ok-mistake.mistake
    (c.mistake_if_given-2.ensures.none c.in_default-mistake_if_given.is) c.in_ok-mistake.ensures.some
