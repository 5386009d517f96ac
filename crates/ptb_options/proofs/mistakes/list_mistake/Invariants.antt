-- This file says what the loop of `list_mistake` keeps.
use Rattle.std.proofs.Common.{◌≡◌, length, map}
use Rattle.std.specs.Prelude.{All}
use Rattle.ptb_options.specs.ListMistakes.{IsItemOf}
use Rattle.ptb_options.proofs.mistakes.list_mistake.Given as goal

-- the texts so far are items, and they are counted
abbrev pub invariant-loop-piece : goal.invariant-loop-piece
invariant-loop-piece l = record {
  items : All (IsItemOf l.bounds) (map (λ w. w.now) l.yielded);
  counted : l.item ≡ length l.yielded;
}
