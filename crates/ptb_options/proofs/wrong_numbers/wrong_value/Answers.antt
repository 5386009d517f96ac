-- This file answers that the value of an option is wrong, or is not.
use Rattle.std.proofs.Common.{rules, ap}
use Rattle.std.specs.Option.{option_copied}
use Rattle.ptb_options.proofs.NumberRules.{number_range}
use Rattle.ptb_options.proofs.WrongValues.{accepted_after, accepted_next, last, unnamed_after, wrong_after}
use Rattle.ptb_options.proofs.wrong_numbers.wrong_value.Goals as goal

pub wrong_for-requires-in-None : goal.wrong_for-requires-in-None
wrong_for-requires-in-None c = number_range c.in_ok-number_option-in-None.field-0.name.now
    c.in_ok-number_option-in-None.field-0.range c.in_ok-number_option-in-None.ensures.some.rule

pub returns-in_err-number_option-in-Some-clause-none : goal.returns-in_err-number_option-in-Some-clause-none
returns-in_err-number_option-in-Some-clause-none c = λ _.
    unnamed_after c.args.argument.now (option_copied c.args.next) c.in-Some.name c.in-Some.value c.in-Some.ensures.cases
    (c.number_option.ensures.none c.in_err-number_option-in-Some.was)

pub returns-in_err-next-in-None-clause-none : goal.returns-in_err-next-in-None-clause-none
returns-in_err-next-in-None-clause-none c =
    λ _. last c.args.argument.now (option_copied c.args.next) c.in-None.ensures.cases
    (ap option_copied c.in_err-next-in-None.was)

pub returns-in_ok-number_option-in-Some-clause-some : goal.returns-in_ok-number_option-in-Some-clause-some
returns-in_ok-number_option-in-Some-clause-some c =
    wrong_after c.args.argument.now (option_copied c.args.next) c.in-Some.name c.in-Some.value c.in-Some.ensures.cases
    c.in_ok-number_option-in-Some.field-0 c.in_ok-number_option-in-Some.ensures.some
    c.wrong_for.result c.wrong_for.ensures.some

pub returns-in_ok-number_option-in-Some-clause-none : goal.returns-in_ok-number_option-in-Some-clause-none
returns-in_ok-number_option-in-Some-clause-none c = λ none.
    accepted_after c.args.argument.now (option_copied c.args.next) c.in-Some.name c.in-Some.value
    c.in-Some.ensures.cases
    c.in_ok-number_option-in-Some.field-0 c.in_ok-number_option-in-Some.ensures.some
    (c.wrong_for.ensures.none none)

pub returns-in_ok-next-in-None-clause-none : goal.returns-in_ok-next-in-None-clause-none
returns-in_ok-next-in-None-clause-none c = λ none.
    accepted_next c.args.argument.now (option_copied c.args.next) c.in-None.ensures.cases
    c.in_ok-number_option-in-None.field-0 c.in_ok-next-in-None.field-0.now
    (ap option_copied c.in_ok-next-in-None.was)
    c.in_ok-number_option-in-None.ensures.some (c.wrong_for-in-None.ensures.none none)

pub number_option-requires-text-argument : goal.number_option-requires-text-argument
number_option-requires-text-argument c κs = search rules fits 50 depth 2

pub returns-in_err-number_option-in-Some-clause-some :
    goal.returns-in_err-number_option-in-Some-clause-some
returns-in_err-number_option-in-Some-clause-some c = search rules fits 50 depth 2

pub wrong_for-requires-text-value : goal.wrong_for-requires-text-value
wrong_for-requires-text-value c κs = search rules fits 50 depth 2

pub returns-in_err-number_option-in-None-clause-some :
    goal.returns-in_err-number_option-in-None-clause-some
returns-in_err-number_option-in-None-clause-some c = search rules fits 50 depth 2

pub returns-in_err-number_option-in-None-clause-none :
    goal.returns-in_err-number_option-in-None-clause-none
returns-in_err-number_option-in-None-clause-none c = search rules

pub returns-in_err-next-in-None-clause-some : goal.returns-in_err-next-in-None-clause-some
returns-in_err-next-in-None-clause-some c = search rules fits 50 depth 2

pub wrong_for-requires-in-None-text-value : goal.wrong_for-requires-in-None-text-value
wrong_for-requires-in-None-text-value c κs = search rules fits 50 depth 2

pub returns-in_ok-next-in-None-clause-some : goal.returns-in_ok-next-in-None-clause-some
returns-in_ok-next-in-None-clause-some c = search rules fits 50 depth 2
