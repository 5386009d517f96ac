-- This file answers what is left to prove of `parse_items`.
use Rattle.std.proofs.Common.{◌≡◌, ◌∙◌, ap, sym, map, Some, [], ◌∷◌, ◌++◌}
use Rattle.std.specs.Result.{result_ok}
use Rattle.std.proofs.lemmas.List.{map-append}
use Rattle.std.proofs.lemmas.List.Elements.{All-push}
use Rattle.std.proofs.lemmas.Iterator.Consumers.{YieldsList-turn, YieldsList-end}
use Rattle.std.proofs.lemmas.Option.{none-some}
use Rattle.ptb_options.specs.AnswerLists.{IsItem, SpellsItem}
use Rattle.ptb_options.specs.declared.usage.UsageFault.TheVariants.{Memory}
use Rattle.ptb_options.proofs.AnswerTexts.{list_of_words, word_of_items, more_words}
use Rattle.ptb_options.proofs.ItemWords.{words_of}
use Rattle.ptb_options.proofs.ListReturns.{memory_is_bad, none_is_items, read_is_bad}
use Rattle.ptb_options.proofs.ListReturns.{read_is_memory, refused_as_list, refused_is_read, some_text}
use Rattle.ptb_options.proofs.ListReturns.{word_refused_as_list}
use Rattle.ptb_options.proofs.answers.parse_items.Goals as goal

pub returns-then-eq : goal.returns-then-eq
returns-then-eq g c = record {
  ok = none_is_items g.T.ListItem.marked c.args.text.now c.eq.result c.new-items.result.items c.eq.ensures c.if-eq.true
      c.new-items.ensures.items;
  bad = read_is_bad c.new-items.result;
  memory = read_is_memory c.new-items.result;
  fault = tt;
}

pub loop-piece-preserved : goal.loop-piece-preserved
loop-piece-preserved g c =
    let f = g.T.ListItem.marked in
    let item = c.in_ok-item.item in
    let pushed : c.push.new.self.items ≡ c.loop-piece.items.items ++ item ∷ [] = c.in_ok-push.ensures.items in
    let read : c.parse.result ≡ Some item = c.ok_or.ensures.ok_part ∙ ap result_ok c.in_ok-item.was in
    let spells : SpellsItem c.in-Some.piece.now (f item) = rw read at c.parse.ensures.some in
    record {
      pieces = rw (pushed, map-append f c.loop-piece.items.items (item ∷ [])) (more_words c.loop-piece.yielded
          (map f c.loop-piece.items.items) c.in-Some.piece (f item) c.loop-piece.invariant.pieces spells.1);
      each =
          rw (pushed, map-append f c.loop-piece.items.items (item ∷ []))
          (All-push IsItem (map f c.loop-piece.items.items) (f item) c.loop-piece.invariant.each spells.0);
    }

pub returns-in_err-item : goal.returns-in_err-item
returns-in_err-item g c = record {
  ok = refused_is_read _ c.from_residual.result _ c.from_residual.ensures.1;
  bad = λ bad items spells.
      let text = c.args.text.now in
      let split = c.split-piece-items.ensures in
      let pieces = words_of text c.into_iter-piece-iterator.ensures.into_iter_gives split.text split.has_more
      split.pattern in
      let turn = YieldsList-turn pieces c.loop-piece.yielded _ c.loop-piece.yielded_by _ _ c.in-Some.piece c.in-Some.is
      c.next.ensures.steps in
      let some = some_text text c.eq.result c.eq.ensures c.if-eq.false in
      let spelled = word_of_items g.T.ListItem.marked text items _ c.in-Some.piece.now some spells turn.0 turn.1 in
      let read = c.parse.ensures.only spelled.0 spelled.1 in
      none-some spelled.0 (sym (c.ok_or.ensures.ok_part ∙ ap result_ok c.in_err-item.was) ∙ read);
  memory = λ refused. some_text c.args.text.now c.eq.result c.eq.ensures c.if-eq.false;
  fault = word_refused_as_list c.parse.result c.ok_or.result c.from_residual.result _ c.ok_or.ensures.value
      c.in_err-item.was c.from_residual.ensures.1;
}

pub returns-in_err-push : goal.returns-in_err-push
returns-in_err-push g c = record {
  ok = refused_is_read _ c.from_residual-in_err-push.result _ c.from_residual-in_err-push.ensures.1;
  bad = memory_is_bad c.from_residual-in_err-push.result c.from_residual-in_err-push.ensures.1;
  memory = λ refused. some_text c.args.text.now c.eq.result c.eq.ensures c.if-eq.false;
  fault = refused_as_list c.from_residual-in_err-push.result Memory c.from_residual-in_err-push.ensures.1 tt;
}

pub returns : goal.returns
returns g c = record {
  ok =
      let text = c.args.text.now in
      let split = c.split-piece-items.ensures in
      let pieces = words_of text c.into_iter-piece-iterator.ensures.into_iter_gives split.text split.has_more
      split.pattern in
      let all = YieldsList-end pieces c.loop-piece.yielded _ c.loop-piece.yielded_by _ _ c.in-None.is
      c.next.ensures.steps in
      list_of_words text (map g.T.ListItem.marked c.loop-piece.items.items) c.loop-piece.invariant.each
      (sym all.0 ∙ c.loop-piece.invariant.pieces);
  bad = read_is_bad c.loop-piece.items;
  memory = read_is_memory c.loop-piece.items;
  fault = tt;
}
