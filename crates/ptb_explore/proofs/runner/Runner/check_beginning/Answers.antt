-- This file answers that a run begins with a list exactly where all of its answers are taken, and its bounds are as
-- they are stated.
use Rattle.std.proofs.Common.{◌≡◌, ◌≤◌, ◌<◌, ◌∙◌, [], length, take, true, ap, sym, subst, arith}
use Rattle.ptb_answers.specs.Outcome.{Answers, bounds, is_open}
use Rattle.ptb_machine.specs.Play.{Finish}
use Rattle.ptb_machine.specs.Questions.{most_answers}
use Rattle.ptb_explore.specs.Recorders.{given_bounds, recorded}
use Rattle.ptb_explore.specs.Copies.{more_played, play_limit}
use Rattle.ptb_explore.specs.Explorations.{game_of}
use Rattle.ptb_explore.specs.Mismatch.{IsItemMismatch}
use Rattle.ptb_machine.specs.RunTree.{Start, IsNextRun}
use Rattle.ptb_explore.proofs.BegunRuns.{list_opens, begun_stated}
use Rattle.ptb_explore.proofs.Exits.{same_misfit}
use Rattle.ptb_explore.proofs.Mismatches.{answers_length, if_none_at, if_some_at}
use Rattle.ptb_explore.proofs.NextRuns.{next_same}
use Rattle.ptb_explore.proofs.RecordedAnswers.{fresh_from}
use Rattle.ptb_explore.proofs.RaisedAnswers.{plan_ends, start_plan}
use Rattle.ptb_explore.proofs.PlayedRecorders.{begun_opens, open_ends, result_is}
use Rattle.ptb_explore.proofs.runner.Runner.check_beginning.Goals as goal
use Rattle.ptb_explore.proofs.runner.Runner.check_beginning.Goals.{In-None}

pub play_from_start-requires-clause-fresh : goal.play_from_start-requires-clause-fresh
play_from_start-requires-clause-fresh c = fresh_from _ c.in_ok-replay.ensures.given c.in_ok-replay.ensures.planned

pub item_mismatch-requires : goal.item_mismatch-requires
item_mismatch-requires c = c.in_ok-ending.ensures.plan ∙ c.in_ok-replay.ensures.answers

-- the plan is open, and its bounds are the first of those that were given
begun : (c : In-None) → (is_open (game_of c.args.self.now (recorded c.replay.new.self)) ≡ true)
    × (take (length (recorded c.replay.new.self)) (given_bounds c.play_from_start.new.self.chooser)
    ≡ bounds (game_of c.args.self.now) (recorded c.replay.new.self))
begun c =
    let old = c.args.self.now in
    let plan = recorded c.replay.new.self in
    let all : length plan ≤ length (given_bounds c.play_from_start.new.self.chooser) = omega (
      arith,
      (if_none_at c.in-None.is c.item_mismatch.ensures.taken).taken,
      ap length c.in_ok-replay.ensures.answers,
      answers_length c.args.list.now,
    ) in
    begun_opens (game_of old) c.play_from_start.new.self.chooser _ c.play_from_start.new.self.report.transcript.items
    (most_answers old.player old.lines.now old.rules.limit)
    (c.run_laws.ensures.reads old.player old.lines.now old.rules) plan c.in_ok-ending.ensures.plan all _
    c.in_ok-ending.ensures.ends

pub returns-in-None-clause-beginning : goal.returns-in-None-clause-beginning
returns-in-None-clause-beginning c =
    let old = c.args.self.now in
    let are = c.in_ok-replay.ensures.answers in
    let is = if_none_at c.in-None.is c.item_mismatch.ensures.taken in
    let here = begun (goal.at.returns-in-None-clause-beginning c).In-None in (
      list_opens old.player old.lines.now old.rules c.args.list.now _ are here.0,
      begun_stated old.player old.lines.now old.rules c.args.list.now _ are _ here.1 is.states,
    )

pub returns-in-None-clause-played : goal.returns-in-None-clause-played
returns-in-None-clause-played c = λ a first f over.
    let old = c.args.self.now in
    let game = game_of old in
    let most = most_answers old.player old.lines.now old.rules.limit in
    let reads = c.run_laws.ensures.reads old.player old.lines.now old.rules in
    let plan = (recorded c.replay.new.self) in
    let new = c.play_from_start.new.self.chooser in
    let are = c.in_ok-replay.ensures.answers in
    let opens = (begun (goal.at.returns-in-None-clause-played c).In-None).0 in
    let end = open_ends game new _ c.play_from_start.new.self.report.transcript.items most reads plan
    c.in_ok-ending.ensures.plan opens _ c.in_ok-ending.ensures.ends in
    let next = plan_ends game most reads plan Start plan (recorded new) (given_bounds new) _
    (start_plan game most reads plan opens) end in
    let same : a ≡ (recorded new) = next_same game most reads plan Start a (recorded new)
    (subst (λ (b : Answers). IsNextRun game b Start a) (sym are) first) next in
    let finish : _ ≡ f = result_is _ f [] [] (sym end.outcome ∙ ap game (sym same) ∙ over) in (
      c.in_ok-ending.ensures.played ∙ ap (λ (x : Finish). more_played old.played x.steps) finish,
      subst (λ (x : Finish). x.steps < play_limit) finish c.in_ok-ending.ensures.few,
    )

pub returns-in-Some-clause-mismatch : goal.returns-in-Some-clause-mismatch
returns-in-Some-clause-mismatch c = λ m fault.
    let old = c.args.self.now in
    let game = game_of old in
    let reads = c.run_laws.ensures.reads old.player old.lines.now old.rules in
    same_misfit (IsItemMismatch game c.args.list.now) _ m fault
    (if_some_at _ c.in-Some.is
    (c.item_mismatch.ensures.mismatch game (most_answers old.player old.lines.now old.rules.limit) _
    c.play_from_start.new.self.report.transcript.items reads c.in_ok-ending.ensures.ends))
