-- This file answers that the line that is written is that of the next list, and that no more was played than its play
-- begins.
use Rattle.std.proofs.Common.{◌≡◌, ◌∙◌, Bool, Ok, ap, true}
use Rattle.ptb_answers.specs.Outcome.{bounds}
use Rattle.ptb_explore.specs.Beginnings.{MovesTo, PlaysLists, PlaysOneListMore, Splitting, split_play}
use Rattle.ptb_explore.proofs.PlayedLists.{next_list_once, next_list_played}
use Rattle.ptb_explore.proofs.WrittenLines.{game_of}
use Rattle.ptb_explore.proofs.beginnings.write_next_line.Goals as goal
use Rattle.ptb_explore.proofs.beginnings.write_next_line.Goals.{After-next}

pub returns-in-Ok-clause-writes : goal.returns-in-Ok-clause-writes
returns-in-Ok-clause-writes g c =
    let moved : MovesTo (game_of c.args.beginnings.now) c.args.beginnings.now.front c.next.new.self.front true =
    rw c.in-Ok-true.field-0-test at c.in-Ok-true.ensures.next in
    let theirs = c.asked.ensures.bounds moved.0 moved.2
    ∙ ap (λ (s : Splitting). bounds (split_play s) moved.0) c.next.ensures.same in
    (moved.0, moved.1, moved.2, rw (c.asked.ensures.answers moved.0 moved.2, theirs) at c.in-Ok.ensures.ok)

pub returns-in-Err-write_list-clause-writes : goal.returns-in-Err-write_list-clause-writes
returns-in-Err-write_list-clause-writes g c =
    let moved : MovesTo (game_of c.args.beginnings.now) c.args.beginnings.now.front c.next.new.self.front true =
    rw c.in-Ok-true.field-0-test at c.in-Ok-true.ensures.next in
    let theirs = c.asked.ensures.bounds moved.0 moved.2
    ∙ ap (λ (s : Splitting). bounds (split_play s) moved.0) c.next.ensures.same in (
      moved.0,
      moved.1,
      moved.2,
      rw (c.asked.ensures.answers moved.0 moved.2, theirs) at
          c.in-Err-write_list.ensures.fault,
    )

-- ---- what was played where a list was found, or the last one is past

played : (g : _) (c : After-next g) (found : Bool) → c.next.result ≡ Ok found
    → PlaysLists c.args.beginnings.now c.next.new.self
played g c found is =
    next_list_played c.run_laws.ensures c.args.beginnings.now c.next.new.self c.next.ensures.same c.next.result found is
    c.next.ensures.next c.next.ensures.played

pub returns-in-Ok-false-clause-played : goal.returns-in-Ok-false-clause-played
returns-in-Ok-false-clause-played g c =
    λ _. played g (goal.at.returns-in-Ok-false-clause-played g c).After-next _ c.in-Ok-false.is

pub returns-in-Ok-clause-played : goal.returns-in-Ok-clause-played
returns-in-Ok-clause-played g c =
    λ _. played g (goal.at.returns-in-Ok-clause-played g c).After-next _ c.in-Ok-true.is

pub returns-in-Err-write_list-clause-played : goal.returns-in-Err-write_list-clause-played
returns-in-Err-write_list-clause-played g c =
    λ _. played g (goal.at.returns-in-Err-write_list-clause-played g c).After-next _ c.in-Ok-true.is

-- ---- and where memory was refused, too

once : (g : _) (c : After-next g) → PlaysOneListMore c.args.beginnings.now c.next.new.self
once g c =
    next_list_once c.run_laws.ensures c.args.beginnings.now c.next.new.self c.next.ensures.same c.next.result
    c.next.ensures.next c.next.ensures.played c.next.ensures.unmoved c.next.ensures.once

pub returns-in-Err-clause-once : goal.returns-in-Err-clause-once
returns-in-Err-clause-once g c = once g (goal.at.returns-in-Err-clause-once g c).After-next

pub returns-in-Ok-false-clause-once : goal.returns-in-Ok-false-clause-once
returns-in-Ok-false-clause-once g c = once g (goal.at.returns-in-Ok-false-clause-once g c).After-next

pub returns-in-Ok-clause-once : goal.returns-in-Ok-clause-once
returns-in-Ok-clause-once g c = once g (goal.at.returns-in-Ok-clause-once g c).After-next

pub returns-in-Err-write_list-clause-once : goal.returns-in-Err-write_list-clause-once
returns-in-Err-write_list-clause-once g c = once g (goal.at.returns-in-Err-write_list-clause-once g c).After-next
