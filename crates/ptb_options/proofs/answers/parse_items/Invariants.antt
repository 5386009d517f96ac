-- This file says what the loops of `parse_items` keep.
use Rattle.std.proofs.Common.{◌≡◌, map}
use Rattle.std.specs.Prelude.{All}
use Rattle.ptb_answers.specs.AnswerText.{item_text}
use Rattle.ptb_options.specs.AnswerLists.{IsItem}
use Rattle.ptb_options.proofs.answers.parse_items.Given as goal

-- the pieces so far are those of the items
abbrev pub invariant-loop-piece : goal.invariant-loop-piece
invariant-loop-piece g l = record {
  pieces : map (λ w. w.now) l.yielded ≡ map item_text (map g.T.ListItem.marked l.items.items);
  each : All IsItem (map g.T.ListItem.marked l.items.items);
}
