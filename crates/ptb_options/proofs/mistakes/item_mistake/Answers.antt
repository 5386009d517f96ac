-- This file answers why the text of an item is refused.
use Rattle.std.proofs.Common.{◌∙◌, sym}
use Rattle.std.proofs.lemmas.Option.{none-some}
use Rattle.ptb_options.proofs.ListMistakes.{marked_item, no_item}
use Rattle.ptb_options.proofs.mistakes.item_mistake.Goals as goal

pub returns-in_default-clause-some : goal.returns-in_default-clause-some
returns-in_default-clause-some c =
    no_item c.args.bounds c.args.piece.now (λ m h. none-some m (c.in_default.ensures.only m h))

pub returns-then-is_some-clause-some : goal.returns-then-is_some-clause-some
returns-then-is_some-clause-some c =
    rw c.in-Refused.is
    (marked_item c.args.piece.now c.in-Some.item c.in-Some.ensures.some (sym c.is_some.ensures ∙ c.if-is_some.true))
