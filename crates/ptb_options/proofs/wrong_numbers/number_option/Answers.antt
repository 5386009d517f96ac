-- This file answers that the option found is one of the tool's, and that none is skipped.
use Rattle.std.proofs.Common.{◌∙◌, ◌+◌, refl, sym}
use Rattle.std.proofs.lemmas.Bool.{false≢true}
use Rattle.ptb_options.proofs.NumberOptions.{found, no_number, other_name, so_far_more, unnamed_all}
use Rattle.ptb_options.proofs.wrong_numbers.number_option.Goals as goal
use Rattle.ptb_options.proofs.wrong_numbers.number_option.Goals.{in-Number+else-is_named, in_default}

pub loop-listed-preserved : goal.loop-listed-preserved
loop-listed-preserved c =
    let so_far = c.loop-listed.invariant.so_far in
    record {
      so_far = so_far_more _ (c.loop-listed.listed-index + 1) c.loop-listed.listed-index so_far refl;
      unnamed = elim c.match-listed.branch [
        | in-Number+else-is_named w ↦ other_name c.args.argument.now _ c.loop-listed.listed-index _ so_far refl
            c.loop-listed-test.true w.in-Number.range w.in-Number.is
            (λ named. false≢true (sym w.if-is_named.false ∙ w.is_named.ensures.1 named)) c.loop-listed.invariant.unnamed
        | in_default w ↦ no_number c.args.argument.now _ c.loop-listed.listed-index _ so_far refl
            c.loop-listed-test.true
            w.in_default.not-Number c.loop-listed.invariant.unnamed
      ];
    }

pub returns-then-is_named-clause-some : goal.returns-then-is_named-clause-some
returns-then-is_named-clause-some c =
    found c.args.argument.now _ c.loop-listed.listed-index _ c.in-Number.range c.loop-listed.invariant.so_far refl
    c.loop-listed-test.true c.in-Number.is (c.is_named.ensures.0 c.if-is_named.true)

pub returns-clause-none : goal.returns-clause-none
returns-clause-none c =
    λ _. unnamed_all c.args.argument.now c.loop-listed.listed-index c.loop-listed-test.false
    c.loop-listed.invariant.unnamed
