-- This file answers the goals of a turn of the newest loop.
use Rattle.std.proofs.Common.{List, refl, subst}
use Rattle.ptb_command.specs.declared.stack.Open.{Open}
use Rattle.ptb_command.specs.Stacks.{ClosesNewest}
use Rattle.ptb_command.proofs.Loops.{next_turns, next_ends}
use Rattle.ptb_command.proofs.execution.loop_turns.end_newest_turn.Goals as goal

pub returns-then-add_step-clause-loop_turn : goal.returns-then-add_step-clause-loop_turn
returns-then-add_step-clause-loop_turn c = λ m p q t i d next os begun is loop.
    next_turns p (record m { cells = c.args.store.now; stack = os }) d q t i c.args.item.now.letter is.end is.is is.ends
    c.args.item.now loop.0 c.add_step.new.store loop.1
    _ c.args.stack.now c.if-add_step.ensures loop.2 refl

pub returns-clause-loop_turn : goal.returns-clause-loop_turn
returns-clause-loop_turn c = λ m p q t i d next os begun is loop.
    next_ends p (record m { cells = c.args.store.now; stack = os }) d q t i c.args.item.now.letter is.end is.is is.ends
    c.args.item.now loop.0 c.add_step.new.store loop.1
    c.command_laws.ensures _ next.statement next.offset c.close_newest.new.self c.if-add_step.ensures
    (subst (λ (xs : List Open). ClosesNewest xs c.close_newest.new.self) loop.2 c.close_newest.ensures)
    is.from is.within begun is.follows refl
