-- This file answers that a search may begin before the first list.
use Rattle.std.proofs.Common.{refl}
use Rattle.ptb_machine.specs.Questions.{most_answers}
use Rattle.ptb_explore.specs.Explorations.{game_of}
use Rattle.ptb_explore.proofs.StoppedPlays.{stopped_reads}
use Rattle.ptb_explore.proofs.beginnings.Beginnings.start.Goals as goal

pub invariant_of-result : goal.invariant_of-result
invariant_of-result c =
    let r = c.in_ok-new.field-0 in (
      (stopped_reads (game_of r) c.args.most (most_answers r.player r.lines.now r.rules.limit)
          (c.run_laws.ensures.reads r.player r.lines.now r.rules)).begins,
      c.in_ok-new.ensures.none,
    )

pub returns : goal.returns
returns c = rw (
  c.in_ok-new.ensures.program,
  c.in_ok-new.ensures.lines,
  c.in_ok-new.ensures.rules,
  c.in_ok-new.ensures.played,
) refl
