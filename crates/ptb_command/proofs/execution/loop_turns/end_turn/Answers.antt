-- This file answers the goals of `end_turn`.
use Rattle.std.proofs.Common.{◌≡◌, ℕ, List, Some, subst, sym}
use Rattle.ptb_command.specs.declared.stack.Open.{Open}
use Rattle.ptb_command.specs.declared.stack.OpenLoop.{OpenLoop}
use Rattle.ptb_command.specs.ReadCommands.{IsNext}
use Rattle.ptb_command.specs.Stacks.{ClosesNewer}
use Rattle.ptb_command.proofs.FoundLoops.{found_letter}
use Rattle.ptb_command.proofs.execution.loop_turns.end_turn.Goals as goal

-- the loop that was found has the letter that was looked for
module _ (letter : ℕ) (old new : List Open) (item : OpenLoop) (closes : ClosesNewer letter old new (Some item)) where
  same_letter : letter ≡ item.letter
  same_letter = sym (found_letter letter old item closes.0 closes.1)

  closes_its_newer : ClosesNewer item.letter old new (Some item)
  closes_its_newer = subst (λ (x : ℕ). ClosesNewer x old new (Some item)) same_letter closes

  is_its_next : (t : List ℕ) (i at : ℕ) → IsNext t i letter at → IsNext t i item.letter at
  is_its_next t i at is = subst (λ (x : ℕ). IsNext t i x at) same_letter is

pub returns-then-end_newest_turn-clause-loop_turn : goal.returns-then-end_newest_turn-clause-loop_turn
returns-then-end_newest_turn-clause-loop_turn c = λ m p q t i d next begun is.
    c.if-end_newest_turn.ensures.loop_turn m p q t i d next c.args.stack.now begun
    (is_its_next _ _ c.close_newer.new.self _ c.in_ok-item.ensures t i next.offset is)
    (closes_its_newer _ _ _ _ c.in_ok-item.ensures)

pub returns-clause-loop_turn : goal.returns-clause-loop_turn
returns-clause-loop_turn c = λ m p q t i d next begun is.
    c.if-end_newest_turn.ensures.loop_turn m p q t i d next c.args.stack.now begun
    (is_its_next _ _ c.close_newer.new.self _ c.in_ok-item.ensures t i next.offset is)
    (closes_its_newer _ _ _ _ c.in_ok-item.ensures)
