-- This file answers that a run is played step by step, how it ends, and that the copies that are kept are of it.
use Rattle.std.proofs.Common.{◌≡◌, ◌++◌, ◌≤◌, drop, length, length-append, refl, sym, ap, subst}
use Rattle.std.proofs.Common.{◌∙◌, arith, false, Ok, Some, None}
use Rattle.std.proofs.lemmas.Bool.{false≢true}
use Rattle.std.proofs.lemmas.List.{length-take-le}
use Rattle.ptb_machine.specs.Play.{play}
use Rattle.ptb_answers.specs.Outcome.{Answers}
use Rattle.ptb_explore.proofs.RecordedAnswers.{given_len, recorded_len}
use Rattle.ptb_explore.specs.Copies.{AreTakenBy, IsCopyAt, taken_choices}
use Rattle.ptb_explore.specs.PlannedPlays.{IsRunPrefix, PlayEnds, play_steps}
use Rattle.ptb_explore.specs.Recorders.{RefusedByPlan, recorder_choices, given_bounds, recorded}
use Rattle.ptb_explore.specs.declared.recorder.Recorder.{Recorder}
use Rattle.ptb_explore.proofs.Limits.{taken_by}
use Rattle.ptb_explore.proofs.KeptCopies.{kept_longer, kept_more, kept_same}
use Rattle.ptb_explore.proofs.RunPrefix.{advanced, step_begun, step_goes, step_ends, step_extends, prefix_to}
use Rattle.ptb_explore.proofs.RunPrefix.{taken_within, none_follow, only_memory}
use Rattle.ptb_explore.proofs.Runners.{stepped}
use Rattle.ptb_explore.proofs.runner.Runner.play_on.Goals as goal
use Rattle.ptb_explore.proofs.runner.Runner.play_on.Goals.{After-advance, In-Ok-Some}

-- as many answers were taken as there are bounds
taken_length : (r : Recorder) → length (recorder_choices r).taken ≡ length (given_bounds r)
taken_length r = length-take-le (length (given_bounds r)) (recorded r)
    (omega (arith, r.bounded, (recorded_len r), (given_len r)))

-- the machine is where the play is, after it advanced
advances : (c : After-advance)
    → IsRunPrefix c.loop-ending.self.player c.args.source.now.lines c.args.self.now.rules
    (recorder_choices c.loop-ending.self.chooser)
    c.loop-ending.screen (drop c.loop-ending.source.taken c.loop-ending.source.lines) c.advance.new.machine
advances c =
    let turns = c.advance.ensures.turns in
    advanced c.run_laws.ensures c.loop-ending.self.player c.args.source.now.lines c.args.self.now.rules turns.0
    c.loop-ending.machine c.advance.new.machine (recorder_choices c.loop-ending.self.chooser) c.loop-ending.screen _
    c.loop-ending.invariant.run_prefix turns.1.1

-- its plan stays, and it ends as the step says
ended : (c : In-Ok-Some)
    → IsRunPrefix c.loop-ending.self.player c.args.source.now.lines c.args.self.now.rules
    (recorder_choices c.loop-ending.self.chooser)
    c.loop-ending.screen (drop c.loop-ending.source.taken c.loop-ending.source.lines) c.advance.new.machine
    → ((recorder_choices c.step.new.chooser).plan ≡ (recorder_choices c.loop-ending.self.chooser).plan)
    × PlayEnds (play c.loop-ending.self.player c.args.source.now.lines c.args.self.now.rules)
    (recorder_choices c.step.new.chooser)
    c.step.new.chooser.refused_bound c.step.new.machine.steps c.step.new.screen c.in-Ok-Some.ending
ended c u =
    let turn = c.step.ensures.turn in
    step_ends c.run_laws.ensures c.loop-ending.self.player c.args.source.now.lines c.args.self.now.rules
    _ _ _ _ c.step.new.chooser.refused_bound _ _ turn.given _ _ _ _ c.in-Ok-Some.ending _
    (c.in-Ok-Some.is ∙ ap Ok (c.in-Ok-Some.field-0-is ∙ ap Some c.in-Ok-Some.ending-is)) u turn.gives.first
    (none_follow c.step.new.source) turn.steps

-- as many commands were begun then as the play of its answers begins
begun : (c : In-Ok-Some)
    → IsRunPrefix c.loop-ending.self.player c.args.source.now.lines c.args.self.now.rules
    (recorder_choices c.loop-ending.self.chooser)
    c.loop-ending.screen (drop c.loop-ending.source.taken c.loop-ending.source.lines) c.advance.new.machine
    → c.step.new.machine.steps ≡ play_steps c.loop-ending.self.player c.args.source.now.lines c.args.self.now.rules
    (recorder_choices c.step.new.chooser).taken
begun c u =
    let turn = c.step.ensures.turn in
    step_begun c.run_laws.ensures c.loop-ending.self.player c.args.source.now.lines c.args.self.now.rules
    (RefusedByPlan (recorder_choices c.step.new.chooser) c.step.new.chooser.refused_bound)
    _ _ _ _ _ _ turn.given _ _ _ _ c.in-Ok-Some.ending _
    (c.in-Ok-Some.is ∙ ap Ok (c.in-Ok-Some.field-0-is ∙ ap Some c.in-Ok-Some.ending-is)) u turn.gives.first
    (none_follow c.step.new.source) turn.steps

pub step-requires : goal.step-requires
step-requires c = record { fits = c.advance.ensures.fits }

pub loop-ending-preserved : goal.loop-ending-preserved
loop-ending-preserved c =
    let l = c.loop-ending in
    let i = l.invariant in
    let p = l.self.player in
    let input = c.args.source.now.lines in
    let is : c.step.result ≡ Ok None = c.in-Ok-None.is ∙ ap Ok c.in-Ok-None.field-0-is in
    let turn = c.step.ensures.turn in
    let old = recorder_choices l.self.chooser in
    let new = recorder_choices c.step.new.chooser in
    let u = advances (goal.at.loop-ending-preserved c).After-advance in
    let x = step_goes c.run_laws.ensures p input c.args.self.now.rules _ _ _ _ _ _ turn.given _ _ _ _ _
    _ is u turn.gives.first (none_follow c.step.new.source) turn.steps in
    let more = step_extends p input c.args.self.now.rules _ _ old new _ _ turn.given _ _ _ _ _ u None _
    is turn.gives.first (none_follow c.step.new.source) turn.steps in
    let same_lines = turn.gives.same_lines ∙ i.same_lines in
    let within : c.step.new.source.taken ≤ length input = rw (← i.same_lines)
    (taken_within l.source c.step.new.source turn.given turn.gives (rw i.same_lines i.within)) in
    let before : l.self.chooser.given ≡ length old.taken =
    given_len l.self.chooser ∙ sym (taken_length l.self.chooser) in
    let taken : c.step.new.chooser.given ≡ length (old.taken ++ more.answers) =
    given_len c.step.new.chooser ∙ sym (taken_length c.step.new.chooser) ∙ ap length more.taken in
    let stands : (k : _) → _ → _ → IsCopyAt p input c.args.self.now.rules k (old.taken ++ more.answers)
    (l.screen ++ more.bytes) = (λ k took copy. record {
      machine = c.step.new.machine;
      machine_is = copy.machine;
      unspent = c.step.ensures.spends.0 is;
      within = omega (arith, within, copy.lines_is, c.taken-lines.ensures);
      taken_by = subst (λ (T : Answers). AreTakenBy p input c.args.self.now.rules T
          c.step.new.machine.steps) more.taken
          (taken_by c.run_laws.ensures p input c.args.self.now.rules _ _ old new _ _ _ _ more.answers u
          x.1 more.taken
          (omega (arith, took, before, taken, length-append old.taken more.answers)) x.2.1);
      run_prefix = prefix_to p input c.args.self.now.rules new
          (taken_choices (play p input c.args.self.now.rules) (old.taken ++ more.answers)) _ _ _ _ _
          x.1 more.taken refl more.shown
          (ap (λ n. drop n c.step.new.source.lines) (sym (copy.lines_is ∙ c.taken-lines.ensures))
          ∙ ap (drop k.lines) same_lines);
    }) in
    let copies = kept_more p input c.args.self.now.rules old.taken more.answers l.screen more.bytes _ _
    _ _ _ l.self.copies.kept.items c.keep.new.self.kept.items i.copies before taken
    (c.len-shown.ensures ∙ ap length more.shown) stands c.keep.ensures in
    record {
      same = stepped l.self c.args.self.now _ c.step.new.chooser _ c.keep.new.self i.same;
      program = i.program;
      plan = x.0 ∙ i.plan;
      same_lines = same_lines;
      within = within;
      unspent = c.step.ensures.spends.0 is;
      fits = c.step.ensures.fits;
      run_prefix = x.1;
      copies = kept_same p p input input c.args.self.now.rules (old.taken ++ more.answers) new.taken
          (l.screen ++ more.bytes) c.step.new.screen _ _ refl refl more.taken more.shown refl copies;
    }

pub returns-in-Ok-Some-clause-same : goal.returns-in-Ok-Some-clause-same
returns-in-Ok-Some-clause-same c =
    stepped c.loop-ending.self c.args.self.now _ c.step.new.chooser _ c.loop-ending.self.copies
    c.loop-ending.invariant.same

pub returns-in-Err-clause-same : goal.returns-in-Err-clause-same
returns-in-Err-clause-same c =
    stepped c.loop-ending.self c.args.self.now _ c.step.new.chooser _ c.loop-ending.self.copies
    c.loop-ending.invariant.same

pub returns-in-Ok-Some-clause-plan : goal.returns-in-Ok-Some-clause-plan
returns-in-Ok-Some-clause-plan c =
    let before = goal.at.returns-in-Ok-Some-clause-plan c in
    (ended before.In-Ok-Some (advances before.After-advance)).0 ∙ c.loop-ending.invariant.plan

pub returns-in-Ok-Some-clause-ends : goal.returns-in-Ok-Some-clause-ends
returns-in-Ok-Some-clause-ends c =
    let before = goal.at.returns-in-Ok-Some-clause-ends c in
    rw (← c.loop-ending.invariant.program) (ended before.In-Ok-Some (advances before.After-advance)).1

pub returns-in-Ok-Some-clause-begun : goal.returns-in-Ok-Some-clause-begun
returns-in-Ok-Some-clause-begun c =
    let before = goal.at.returns-in-Ok-Some-clause-begun c in
    rw (← c.loop-ending.invariant.program) (begun before.In-Ok-Some (advances before.After-advance))

pub returns-in-Ok-Some-clause-copies : goal.returns-in-Ok-Some-clause-copies
returns-in-Ok-Some-clause-copies c =
    let l = c.loop-ending in
    let i = l.invariant in
    let input = c.args.source.now.lines in
    let turn = c.step.ensures.turn in
    let old = recorder_choices l.self.chooser in
    let new = recorder_choices c.step.new.chooser in
    let u = advances (goal.at.returns-in-Ok-Some-clause-copies c).After-advance in
    let more = step_extends l.self.player input c.args.self.now.rules _ _ old new _ _ turn.given _ _ _ _ _ u
    (Some c.in-Ok-Some.ending) _ (c.in-Ok-Some.is ∙ ap Ok (c.in-Ok-Some.field-0-is
    ∙ ap Some c.in-Ok-Some.ending-is)) turn.gives.first (none_follow c.step.new.source) turn.steps in
    let all = kept_longer l.self.player input c.args.self.now.rules old.taken more.answers l.screen more.bytes 0 0
    l.self.copies.kept.items i.copies in
    kept_same l.self.player c.args.self.now.player input input c.args.self.now.rules (old.taken ++ more.answers)
    new.taken (l.screen ++ more.bytes) c.step.new.screen _ _ (sym i.program) refl more.taken more.shown refl all

pub memory_refusal-requires : goal.memory_refusal-requires
memory_refusal-requires c =
    let turn = c.step.ensures.turn in
    let u = advances (goal.at.memory_refusal-requires c).After-advance in
    let going : c.advance.new.machine.spent ≡ false = c.advance.ensures.spent ∙ c.loop-ending.invariant.unspent in
    only_memory c.run_laws.ensures c.loop-ending.self.player c.args.source.now.lines c.args.self.now.rules
    (RefusedByPlan (recorder_choices c.step.new.chooser) c.step.new.chooser.refused_bound)
    _ _ _ _ _ _ turn.given _ _ _ _ _ u turn.gives.first (none_follow c.step.new.source) turn.steps
    (λ over. false≢true (sym going ∙ c.step.ensures.spent.0 over)) c.in-Err.fault c.in-Err.is
