-- This file answers which loop becomes the newest.
use Rattle.std.proofs.Common.{refl}
use Rattle.ptb_command.proofs.NewestOpens.{newest_given}
use Rattle.ptb_command.proofs.stack.Stack.close_newer.Goals as goal

pub returns-then-is_newest : goal.returns-then-is_newest
returns-then-is_newest c = newest_given c.args.letter c.args.self.now c.args.self.now c.newest.result
    (c.if-is_newest.ensures refl) c.newest.ensures

pub returns : goal.returns
returns c = newest_given c.args.letter c.args.self.now c.close_above.new.self c.newest-2.result
    c.if-not-close_above.ensures c.newest-2.ensures
