-- This file answers which argument has the wrong number.
use Rattle.std.proofs.Common.{ap, map, arith}
use Rattle.std.specs.Option.{option_copied}
use Rattle.std.proofs.lemmas.List.{length-map}
use Rattle.ptb_options.proofs.NumberArguments.{dashes_here, none_after, none_found, passed_more}
use Rattle.ptb_options.proofs.NumberArguments.{some_found, there_is, wrong_here}
use Rattle.ptb_options.proofs.wrong_numbers.wrong_number.Goals as goal

pub loop-i-preserved : goal.loop-i-preserved
loop-i-preserved g c =
    passed_more (map g.S.AsStr.text c.args.arguments.now) c.loop-i.i c.in_ok-argument.argument.now
    (option_copied c.argument_at.result) c.eq.result c.argument_at.ensures
    (ap option_copied c.in_ok-argument.was) c.eq.ensures c.loop-i.invariant
    c.if-eq.false (option_copied c.argument_at-in-loop-i.result) c.argument_at-in-loop-i.ensures
    (c.wrong_value-wrong.ensures.none
    (none_found c.wrong_value-wrong.result c.is_some.result c.is_some.ensures c.if-is_some.false))

pub returns-then-is_some : goal.returns-then-is_some
returns-then-is_some g c = record {
  some =
      wrong_here (map g.S.AsStr.text c.args.arguments.now) c.loop-i.i c.in_ok-argument.argument.now
      (option_copied c.argument_at.result) c.eq.result c.argument_at.ensures
      (ap option_copied c.in_ok-argument.was) c.eq.ensures c.loop-i.invariant
      c.if-eq.false c.wrong_value-wrong.result (option_copied c.argument_at-in-loop-i.result) c.loop-i.auto.i
      c.argument_at-in-loop-i.ensures c.wrong_value-wrong.ensures.some;
  none = some_found c.wrong_value-wrong.result c.is_some.result c.is_some.ensures c.if-is_some.true;
}

pub returns-then-eq-clause-none : goal.returns-then-eq-clause-none
returns-then-eq-clause-none g c = λ _.
    dashes_here (map g.S.AsStr.text c.args.arguments.now) c.loop-i.i c.in_ok-argument.argument.now
    (option_copied c.argument_at.result) c.eq.result c.argument_at.ensures
    (ap option_copied c.in_ok-argument.was) c.eq.ensures c.loop-i.invariant
    c.loop-i.auto.i c.if-eq.true

pub returns-in_err-argument-clause-none : goal.returns-in_err-argument-clause-none
returns-in_err-argument-clause-none g c = λ _.
    let arguments = map g.S.AsStr.text c.args.arguments.now in
    let all = length-map c.args.arguments.now g.S.AsStr.text in
    absurd (there_is arguments c.loop-i.i (option_copied c.argument_at.result) (omega arith) c.argument_at.ensures
    (ap option_copied c.in_err-argument.was))

pub returns-clause-none : goal.returns-clause-none
returns-clause-none g c = λ _.
    let arguments = map g.S.AsStr.text c.args.arguments.now in
    let all = length-map c.args.arguments.now g.S.AsStr.text in
    none_after arguments c.loop-i.i c.loop-i.invariant (omega arith)
