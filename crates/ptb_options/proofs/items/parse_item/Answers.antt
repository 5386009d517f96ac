-- This file answers that a text is cut at its `/`, if it has one.
use Rattle.ptb_options.proofs.ReadItems.{both, both_only, no_answer, no_bound, no_number, number_alone, number_only}
use Rattle.ptb_options.proofs.items.parse_item.Goals as goal

pub returns-in_err-parse_number-clause-only : goal.returns-in_err-parse_number-clause-only
returns-in_err-parse_number-clause-only c m h =
    no_number c.args.text.now c.in_default.ensures.cases m h c.in_err-parse_number.ensures.only

pub returns-in_default : goal.returns-in_default
returns-in_default c = record {
  some = number_alone c.args.text.now c.in_default.ensures.cases c.in_ok-parse_number.field-0
      c.in_ok-parse_number.ensures.some;
  only = λ m h. number_only c.args.text.now c.in_default.ensures.cases c.in_ok-parse_number.field-0
      c.in_ok-parse_number.ensures.some m h c.in_ok-parse_number.ensures.only;
}

pub returns-in_err-parse_number-2-clause-only : goal.returns-in_err-parse_number-2-clause-only
returns-in_err-parse_number-2-clause-only c m h = no_answer c.args.text.now c.in-Some.answer c.in-Some.bound
    c.in-Some.ensures.cases m h c.in_err-parse_number-2.ensures.only

pub returns-in_err-parse_number-3-clause-only : goal.returns-in_err-parse_number-3-clause-only
returns-in_err-parse_number-3-clause-only c m h = no_bound c.args.text.now c.in-Some.answer c.in-Some.bound
    c.in-Some.ensures.cases m h c.in_err-parse_number-3.ensures.only

pub returns : goal.returns
returns c = record {
  some = both c.args.text.now c.in-Some.answer c.in-Some.bound c.in-Some.ensures.cases c.in_ok-parse_number-2.field-0
      c.in_ok-parse_number-3.field-0 c.in_ok-parse_number-2.ensures.some c.in_ok-parse_number-3.ensures.some;
  only = λ m h. both_only c.args.text.now c.in-Some.answer c.in-Some.bound c.in-Some.ensures.cases
      c.in_ok-parse_number-2.field-0 c.in_ok-parse_number-3.field-0 c.in_ok-parse_number-2.ensures.some
      c.in_ok-parse_number-3.ensures.some m h
      c.in_ok-parse_number-2.ensures.only c.in_ok-parse_number-3.ensures.only;
}
