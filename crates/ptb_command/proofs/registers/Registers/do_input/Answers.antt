-- This file answers what is left to prove of `Registers::do_input`.
use Rattle.std.proofs.Common.{◌∙◌, [], Err, Ok, ap, false, subst, sym}
use Rattle.std.specs.Prelude.{IfSome, slice_get}
use Rattle.ptb_command.specs.declared.operation.Operation.TheVariants.{Input}
use Rattle.ptb_command.specs.Act.{first_width}
use Rattle.ptb_command.specs.ScreenOperations.{ArePartsDone, IsPartTaken}
use Rattle.ptb_command.proofs.ShownCommands.{command_stopped, command_done}
use Rattle.ptb_command.proofs.TakenItems.{item_taken}
use Rattle.ptb_command.proofs.registers.Registers.do_input.Given as given
use Rattle.ptb_command.proofs.registers.Registers.do_input.Goals as goal
use Rattle.ptb_command.proofs.registers.Registers.do_input.Goals.{After-show_gathered}

-- the line at hand is not enough

pub returns-in-Ok-false : goal.returns-in-Ok-false
returns-in-Ok-false g c =
    let item = c.in-Some.item in
    let taken = c.take_at_hand.ensures c.line_at.result.1.now c.args.context.now.steps.now
    (Input item.prompt item.destination) c.in-Some-new.ensures in
    c.finish_input.ensures c.args.self.now.store c.args.io.now c.start.new.self c.start.ensures.pending
    c.start.ensures.width
    (subst (λ l. IfSome (slice_get l 0) (λ operation. IsPartTaken g.C.Chooser g.S.Screen g.L.LineSource
    c.line_at.result.1.now c.args.context.now.steps.now operation c.args.self.now.store
    c.take_at_hand.new.store c.args.io.now c.take_at_hand.new.io c.start.new.self
    c.take_at_hand.new.output (Ok false))) (sym c.in-Some.ensures.some.1)
    (subst (λ r. IsPartTaken g.C.Chooser g.S.Screen g.L.LineSource c.line_at.result.1.now
    c.args.context.now.steps.now (Input item.prompt item.destination) c.args.self.now.store c.take_at_hand.new.store
    c.args.io.now c.take_at_hand.new.io c.start.new.self c.take_at_hand.new.output r)
    (c.in-Ok-false.is ∙ ap Ok c.in-Ok-false.field-0-test) taken))

pub returns-in-Err : goal.returns-in-Err
returns-in-Err g c =
    let item = c.in-Some.item in
    let taken = c.take_at_hand.ensures c.line_at.result.1.now c.args.context.now.steps.now
    (Input item.prompt item.destination) c.in-Some-new.ensures in
    c.finish_input-in-Err.ensures c.args.self.now.store c.args.io.now c.start.new.self c.start.ensures.pending
    c.start.ensures.width
    (subst (λ l. IfSome (slice_get l 0) (λ operation. IsPartTaken g.C.Chooser g.S.Screen g.L.LineSource
    c.line_at.result.1.now c.args.context.now.steps.now operation c.args.self.now.store
    c.take_at_hand.new.store c.args.io.now c.take_at_hand.new.io c.start.new.self
    c.take_at_hand.new.output (Err c.in-Err.stop))) (sym c.in-Some.ensures.some.1)
    (subst (λ r. IsPartTaken g.C.Chooser g.S.Screen g.L.LineSource c.line_at.result.1.now
    c.args.context.now.steps.now (Input item.prompt item.destination) c.args.self.now.store c.take_at_hand.new.store
    c.args.io.now c.take_at_hand.new.io c.start.new.self c.take_at_hand.new.output r) c.in-Err.is taken))

-- its value was stored

item_stored : (g : given.Over) (c : goal.After-show_gathered g)
    → ArePartsDone g.C.Chooser g.S.Screen g.L.LineSource (record {
      text = c.line_at.result.1;
      operations = c.args.context.now.operations;
      steps = c.args.context.now.steps;
    }) c.args.self.now.store c.take_at_hand.new.store c.args.io.now c.take_at_hand.new.io []
    c.take_at_hand.new.output.pending first_width (Ok c.in-Some.item.next)
item_stored g c =
    let item = c.in-Some.item in
    item_taken g.C.Chooser g.S.Screen g.L.LineSource g.met.L.LineSource.gives_none g.met.L.LineSource.gives_more
    g.met.L.LineSource.falls _ item c.in-Some.ensures.some c.args.self.now.store c.take_at_hand.new.store
    c.args.io.now c.take_at_hand.new.io c.start.new.self c.take_at_hand.new.output
    c.take_at_hand.result (c.in-Ok-true.is ∙ ap Ok c.in-Ok-true.field-0-test) c.start.ensures.pending
    c.start.ensures.width (c.take_at_hand.ensures c.line_at.result.1.now c.args.context.now.steps.now
    (Input item.prompt item.destination) c.in-Some-new.ensures)

pub returns-in_err-following : goal.returns-in_err-following
returns-in_err-following g c = command_stopped _ _ _ _ _ _ _ c.line_at.ensures.there _ _ _ _ _ _
    c.from_residual.ensures.1 (c.in_err-following.ensures _ _ _ _
    (item_stored g (goal.at.returns-in_err-following g c).After-show_gathered))

pub returns : goal.returns
returns g c = command_done _ _ _ _ _ _ _ c.line_at.ensures.there _ _ _ _ c.command_laws.ensures _ _ c.from.ensures
    (c.in_ok-following.ensures _ _ _ _ (item_stored g (goal.at.returns g c).After-show_gathered))
