-- This file answers that a plan is played from its state.
use Rattle.std.proofs.Common.{◌≡◌, rules, drop, refl}
use Rattle.std.proofs.lemmas.Result.{IfOk-weaker}
use Rattle.ptb_chances.proofs.PlaySteps.{stands_by}
use Rattle.ptb_chances.proofs.stage.Stage.start.Goals as goal

pub returns-clause-plays : goal.returns-clause-plays
returns-clause-plays c =
    let machine : c.args.state.now.machine ≡ c.restore.new.self = search rules in
    let taken : c.go.new.self.taken ≡ c.args.state.now.taken = search rules in
    let lines : c.go.new.self.lines ≡ c.args.self.now.devices.source.lines = search rules in
    let shown : c.args.state.now.shown.items ≡ c.from_vec.result = search rules in
    let left : drop c.args.state.now.taken c.args.self.now.devices.source.lines
    ≡ drop c.go.new.self.taken c.go.new.self.lines = rw (taken, lines) refl in
    IfOk-weaker c.play_plan.result _ _
    (λ played plays. (
      plays.0,
      λ S h. rw (← c.deref-2.ensures.value, ← lines) (plays.1 S (stands_by _ _ S _ _ _ _ _ _ machine left shown h)),
    )) c.play_plan.ensures.plays

pub returns-clause-within : goal.returns-clause-within
returns-clause-within c = let lines : c.go.new.self.lines ≡ c.args.self.now.devices.source.lines = search rules in
    rw (← lines) c.play_plan.ensures.within
