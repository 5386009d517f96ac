-- This file answers what is left to prove of `parse_as`.
use Rattle.std.proofs.Common.{subst, sym}
use Rattle.std.specs.Prelude.{map}
use Rattle.ptb_options.specs.AnswerLists.{SpellsList}
use Rattle.ptb_options.specs.declared.usage.UsageFault.TheVariants.{BadList, Memory}
use Rattle.ptb_options.proofs.ListMistakes.{found_is_none, none_found}
use Rattle.ptb_options.proofs.ListReturns.{passed_on, read_is_bad, read_is_memory, refused_as_list, refused_is_read}
use Rattle.ptb_options.proofs.answers.parse_as.Goals as goal

pub returns-then-is_some-clause-bad : goal.returns-then-is_some-clause-bad
returns-then-is_some-clause-bad g c bad list items spells =
    found_is_none c.args.bounds c.args.text.now c.list_mistake.result c.is_some.result c.is_some.ensures
    c.if-is_some.true c.list_mistake.ensures.some list

pub returns-in_err-parse_items : goal.returns-in_err-parse_items
returns-in_err-parse_items g c = record {
  ok = refused_is_read _ c.from_residual.result _ c.from_residual.ensures.1;
  bad =
      λ e list items spells. c.in_err-parse_items.ensures.bad
      (passed_on c.from_residual.result _ BadList c.from_residual.ensures.1 e) items spells;
  memory = λ e. (
    c.list_mistake.ensures.none
        (none_found c.list_mistake.result c.is_some.result c.is_some.ensures c.if-is_some.false),
    c.in_err-parse_items.ensures.memory (passed_on c.from_residual.result _ Memory c.from_residual.ensures.1 e),
  );
  fault = refused_as_list c.from_residual.result _ c.from_residual.ensures.1 c.in_err-parse_items.ensures.fault;
}

pub returns : goal.returns
returns g c = record {
  ok = subst (λ items. SpellsList c.args.text.now (map g.T.ListItem.marked items)) (sym c.into.ensures)
      c.in_ok-parse_items.ensures.ok;
  bad = read_is_bad c.into.result;
  memory = read_is_memory c.into.result;
  fault = tt;
}
