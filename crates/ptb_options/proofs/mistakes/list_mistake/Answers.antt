-- This file answers what is left to prove of `list_mistake`.
use Rattle.std.proofs.Common.{◌≡◌, arith, length-append}
use Rattle.std.specs.Prelude.{◌==◌, ◌∷◌, []}
use Rattle.std.specs.List.{slice_split}
use Rattle.std.specs.Str.Pattern.{FindsChar}
use Rattle.std.specs.Str.Iter.{split_steps}
use Rattle.std.proofs.lemmas.Iterator.{YieldsList}
use Rattle.std.proofs.lemmas.List.Splits.{length-slice_split}
use Rattle.std.proofs.lemmas.List.Sums.{count_by-le-length}
use Rattle.std.proofs.lemmas.Iterator.Consumers.{YieldsList-end, YieldsList-so_far, YieldsList-turn}
use Rattle.ptb_options.proofs.ItemWords.{words_of}
use Rattle.ptb_options.proofs.ListMistakes.{items_more, list_of_items, mistake_at, none_is_list_of}
use Rattle.ptb_options.proofs.ListReturns.{none_spelled, some_text}
use Rattle.ptb_options.proofs.mistakes.list_mistake.Goals as goal
use Rattle.ptb_options.proofs.mistakes.list_mistake.Goals.{After-next}

-- the pieces of the text, one after another
pieces : (c : After-next)
    → YieldsList (split_steps FindsChar (λ a b. b ≡ a)) (λ x. x.now) c.into_iter-piece-iterator.result
    (slice_split (λ b. b == 44) c.args.text.now)
pieces c =
    let split = c.split-piece-items.ensures in
    words_of c.args.text.now c.into_iter-piece-iterator.ensures.into_iter_gives split.text split.has_more split.pattern

pub overflow_add-item : goal.overflow_add-item
overflow_add-item c =
    let text = c.args.text.now in
    let turn = YieldsList-turn (pieces (goal.at.overflow_add-item c).After-next) c.loop-piece.yielded _
    c.loop-piece.yielded_by _ _ c.in-Some.piece c.in-Some.is c.next.ensures.steps in
    let all = length-slice_split (λ b. b == 44) text in
    let few = count_by-le-length (λ b. b == 44) text in
    omega (arith, turn.0, all, few, c.loop-piece.invariant.counted)

pub returns-then-eq-clause-none : goal.returns-then-eq-clause-none
returns-then-eq-clause-none c _ =
    none_is_list_of c.args.bounds c.args.text.now (none_spelled c.args.text.now c.eq.result c.eq.ensures c.if-eq.true)

pub loop-piece-preserved : goal.loop-piece-preserved
loop-piece-preserved c = record {
  items =
      items_more c.args.bounds c.loop-piece.yielded c.in-Some.piece c.loop-piece.invariant.items
      (c.item_mistake.ensures.none c.in_default.is);
  counted = omega (arith, length-append c.loop-piece.yielded (c.in-Some.piece ∷ []), c.loop-piece.invariant.counted);
}

pub returns-in-Some-item_mistake-clause-some : goal.returns-in-Some-item_mistake-clause-some
returns-in-Some-item_mistake-clause-some c =
    let text = c.args.text.now in
    let all = pieces (goal.at.returns-in-Some-item_mistake-clause-some c).After-next in
    let turn = YieldsList-turn all c.loop-piece.yielded _ c.loop-piece.yielded_by _ _ c.in-Some.piece c.in-Some.is
    c.next.ensures.steps in
    let so_far = YieldsList-so_far all c.loop-piece.yielded _ c.loop-piece.yielded_by in
    mistake_at c.args.bounds text c.loop-piece.yielded c.in-Some.piece c.loop-piece.item c.in-Some-item_mistake.mistake
    (some_text text c.eq.result c.eq.ensures c.if-eq.false)
    so_far turn.0 turn.1 c.loop-piece.invariant.items c.loop-piece.invariant.counted c.in-Some-item_mistake.ensures.some

pub returns-clause-none : goal.returns-clause-none
returns-clause-none c _ =
    let all = YieldsList-end (pieces (goal.at.returns-clause-none c).After-next) c.loop-piece.yielded _
    c.loop-piece.yielded_by _ _ c.in-None.is c.next.ensures.steps in
    list_of_items c.args.bounds c.args.text.now (rw (← all.0) c.loop-piece.invariant.items)
