-- This file answers that the newest call is closed.
use Rattle.ptb_command.proofs.NewestOpens.{call_closed}
use Rattle.ptb_command.proofs.stack.Stack.close_call.Goals as goal

pub returns : goal.returns
returns c = call_closed c.args.self.now c.bring_call.new.self c.close_newest.new.self c.in_ok-back.back
    c.if-not-bring_call.ensures.1 c.in_ok-back.ensures c.close_newest.ensures
