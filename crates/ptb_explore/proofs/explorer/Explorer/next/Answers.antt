-- This file answers that the explorer is at the run whose report it lends, with copies of that run.
use Rattle.std.proofs.Common.{rules, ◌≡◌, ℕ, List, [], true, refl, ap, sym, ◌∙◌, subst}
use Rattle.ptb_answers.specs.AnswerText.{answers_of}
use Rattle.ptb_answers.specs.Outcome.{Answers}
use Rattle.ptb_answers.specs.declared.asked.Asked.{Asked}
use Rattle.ptb_answers.specs.AskedQuestions.{answers_in}
use Rattle.ptb_explore.specs.declared.runner.Runner.{Runner}
use Rattle.ptb_explore.specs.Copies.{KeptRun, kept_runs}
use Rattle.ptb_explore.specs.Explorations.{Exploration, FoundNext, NextPlays, RefusedNext}
use Rattle.ptb_explore.specs.Explorations.{exploration, game_of, play_of, played_after}
use Rattle.ptb_explore.specs.Plans.{front_at}
use Rattle.ptb_machine.specs.RunTree.{At, Front, IsLast}
use Rattle.ptb_explore.proofs.Exits.{err_no_ok}
use Rattle.ptb_explore.proofs.ContinuedCopies.{none_at}
use Rattle.ptb_explore.proofs.KeptCopies.{kept_beginnings}
use Rattle.ptb_explore.proofs.OpenedExplorers.{stays}
use Rattle.ptb_explore.proofs.explorer.Explorer.next.Goals as goal

-- what contracts see of an explorer with this runner
abbrev seen : Runner → Answers → Front → List KeptRun → ℕ → Exploration
seen r under front kept played = exploration r.player r.lines.now r.rules under front kept played

pub returns-in-Ok-true : goal.returns-in-Ok-true
returns-in-Ok-true c =
    let e = c.self.inside in
    let old = e.runner in
    let new = c.report_next-found.new.self in
    let r = new.report in
    let under = answers_of e.prefix.items in
    let runs : List KeptRun = kept_runs (answers_in r.asked.items) new.copies.kept.items in
    let before : List KeptRun = kept_runs (answers_in old.report.asked.items) old.copies.kept.items in
    let was = seen old under (front_at e.position (answers_in old.report.asked.items)) before old.played in
    let is = seen new under (At (answers_in r.asked.items)) runs new.played in
    let plays : NextPlays before old.played r new.played true =
    rw c.in-Ok-true.field-0-test at c.in-Ok-true.ensures.played in
    let now : is ≡ record was {
      front = At (answers_in r.asked.items);
      kept = runs;
      played = played_after was.kept was.played r;
    } =
    ap (λ (q : Runner). seen q under (At (answers_in r.asked.items)) runs new.played) c.in-Ok-true.ensures.same
    ∙ ap (λ n. seen old under (At (answers_in r.asked.items)) runs n) plays in
    let found : FoundNext was r is = record {
      now = now;
      kept = kept_beginnings old.player old.lines.now old.rules (answers_in r.asked.items) r.transcript.items
          new.copies.kept.items (c.in-Ok-true.ensures.copies c.in-Ok-true.field-0-test);
      rises = c.in-Ok-true.ensures.rises;
    } in
    ((refl, (λ _. tt), subst (λ (x : Exploration). FoundNext x r is) c.self.view_is found), search rules)

pub invariant_of-self-in-Ok-false : goal.invariant_of-self-in-Ok-false
invariant_of-self-in-Ok-false c = search rules fits 50 depth 2

pub returns-in-Ok-false : goal.returns-in-Ok-false
returns-in-Ok-false c = search rules fits 50 depth 2

pub invariant_of-self-in-Err : goal.invariant_of-self-in-Err
invariant_of-self-in-Err c =
    let e = c.self.inside in
    let new = c.report_next-found.new.self in (
      stays e.runner new c.in-Err.ensures.same (answers_of e.prefix.items) e.position c.in-Err.ensures.asked
          c.self.invariant.0,
      none_at new.player new.lines.now new.rules e.position new.report c.clear-in-Err.new.self.kept.items
          c.clear-in-Err.ensures,
    )

pub returns-in-Err : goal.returns-in-Err
returns-in-Err c =
    let e = c.self.inside in
    let old = e.runner in
    let under = answers_of e.prefix.items in
    let ended : IsLast (play_of c.args.self.now) c.args.self.now.prefix c.args.self.now.front → IsLast (game_of old)
    (answers_of c.deref.result.now) (front_at e.position (answers_in old.report.asked.items)) =
    (λ last. rw c.deref.ensures.value (subst (λ (x : Exploration). IsLast (play_of x) x.prefix x.front)
    (sym c.self.view_is) last)) in
    let new = c.report_next-found.new.self in
    let kept : List KeptRun = kept_runs (answers_in new.report.asked.items) c.clear-in-Err.new.self.kept.items in
    let was = seen old under (front_at e.position (answers_in old.report.asked.items))
    (kept_runs (answers_in old.report.asked.items) old.copies.kept.items) old.played in
    let is = seen new under (front_at e.position (answers_in new.report.asked.items)) kept new.played in
    let now : is ≡ record was { kept = []; played = new.played } =
    ap (λ (q : Runner). seen q under (front_at e.position (answers_in new.report.asked.items)) kept new.played)
    c.in-Err.ensures.same
    ∙ ap (λ (a : List Asked). seen old under (front_at e.position (answers_in a)) kept new.played)
    c.in-Err.ensures.asked
    ∙ ap (λ runs. seen old under (front_at e.position (answers_in old.report.asked.items)) runs new.played)
    (ap (kept_runs (answers_in new.report.asked.items)) c.clear-in-Err.ensures) in (
      (
        refl,
        (λ _. tt),
        subst (λ (x : Exploration). RefusedNext x is) c.self.view_is
            (record { now = now; played = c.in-Err.ensures.rises; once = c.in-Err.ensures.once }),
      ),
      record {
        report = tt;
        next = tt;
        few = tt;
        last = tt;
        ended = λ last. err_no_ok (c.in-Err.ensures.ended (ended last));
        leaves = tt;
      },
    )
