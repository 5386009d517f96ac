-- This file answers what is left to prove of `task`.
use Rattle.std.specs.Prelude.{codes}
use Rattle.ptb_options.proofs.PublicLemmas.{first_of-get_str}
use Rattle.ptb_options.specs.Options.{entries_of, options_of}
use Rattle.ptb.proofs.Seeds.{asks_at}
use Rattle.ptb.proofs.arguments.task.Goals as goal

pub returns-clause-path : goal.returns-clause-path
returns-clause-path g c = first_of-get_str c.args.matches.now (codes "program") c.get_str.result c.get_str.ensures

pub returns-clause-asks : goal.returns-clause-asks
returns-clause-asks g c = rw c.by_seed.ensures (asks_at c.args.console.now.terminals
    (options_of (entries_of c.args.matches.now)) c.in_ok-request.request c.draw_seed-drawn.result
    c.in_ok-request.ensures.ok c.draw_seed-drawn.ensures.draws c.draw_seed-drawn.ensures.small)
