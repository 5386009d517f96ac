-- This file answers what is left to prove of `take_lines`.
use Rattle.std.proofs.Common.{◌≡◌, ◌∙◌, ◌++◌, [], ◌∷◌, ℕ, List, Ok, Some, None, ap, append_assoc, arith}
use Rattle.std.proofs.Common.{refl, rules, sym, to_z, of_z, w16}
use Rattle.std.proofs.Math.Nat.{le_refl}
use Rattle.ptb_expr.specs.Tree.{Tree}
use Rattle.ptb_command.specs.Act.{ask_for, item_action}
use Rattle.ptb_command.specs.Actions.{goes_on}
use Rattle.ptb_command.specs.Devices.{Devices, devices, screen_state}
use Rattle.ptb_command.specs.CommandIo.{io_devices, io_trace, pending_trace}
use Rattle.ptb_command.specs.ScreenOperations.{IsRequest}
use Rattle.ptb_command.specs.Traces.{RefinesPart}
use Rattle.ptb_devices.specs.Sources.{given_lines, ready_lines}
use Rattle.ptb_command.proofs.Borrows.{borrows_lent}
use Rattle.ptb_command.proofs.PendingBytes.{comes_emptied}
use Rattle.ptb_command.proofs.InputItems.{gives_same, gives_no_more, gives_one_more, none_given, fewer_left}
use Rattle.ptb_command.proofs.InputItems.{line_asked, line_left, with_given, with_most}
use Rattle.ptb_command.proofs.MissedLines.{given_missed, fewer_lines, falls_one, missed_same}
use Rattle.ptb_command.proofs.PartRefinement.{refines_part_then}
use Rattle.ptb_command.proofs.LineAnswers.{answering_stops, answering_unshown, answering_unread}
use Rattle.ptb_command.proofs.LineAnswers.{answering_ends, answering_instead, answering_fails}
use Rattle.ptb_command.proofs.LineAnswers.{answering_done, answering_again, waiting}
use Rattle.ptb_command.proofs.execution.input.take_lines.Given as given
use Rattle.ptb_command.proofs.execution.input.take_lines.Goals as goal
use Rattle.ptb_command.proofs.execution.input.take_lines.Goals.{After-flush, After-next, After-store_answer}
use Rattle.ptb_command.proofs.execution.input.take_lines.Goals.{After-store_answer-in_default}

pub answers-init : goal.answers-init
answers-init g c = record {
  width = refl;
  same = record { chooser = refl; screen = refl; source = refl; rules = refl };
  given = [];
  gives = g.met.L.LineSource.gives_none _;
  missed = le_refl _;
  refines = λ before x prompt is. none_given _ _;
}

pub returns-in_err-target-clause-comes : goal.returns-in_err-target-clause-comes
returns-in_err-target-clause-comes g c =
    let was = c.answers.invariant in (
      was.given,
      (
        gives_same g.L.LineSource.gives c.args.io.now.source.now was.given _ _
            (ap (λ k. k.now) c.request_line.ensures.same.source) was.gives,
        λ before x prompt is.
            answering_stops c.args.request.now.said.now x prompt (was.refines before x prompt is) _ _ _
            _ _ _ _ c.from_residual.ensures.1 (c.in_err-target.ensures.comes (before ++ was.given) x prompt is),
      ),
    )

-- ---- a line is at hand

module _ (g : given.Over) (c : goal.After-store_answer g) where
  abbrev ready : List (List ℕ)
  ready = c.answers.invariant.given ++ c.in-Some.line.now ∷ []

  one_ready : ready_lines c.take_ready.result ≡ c.in-Some.line.now ∷ []
  one_ready = ap ready_lines c.in-Some.is

  gives-ready : g.L.LineSource.gives c.args.io.now.source.now ready c.take_ready.follows.lender-at-none
  gives-ready =
      let was = c.answers.invariant in
      gives_one_more g.L.LineSource.gives g.met.L.LineSource.gives_more c.args.io.now.source.now
      c.request_line.new.io.source.now c.take_ready.follows.lender-at-none was.given c.in-Some.line.now
      (Ok c.take_ready.result) one_ready (gives_same g.L.LineSource.gives c.args.io.now.source.now was.given _ _
      (ap (λ k. k.now) c.request_line.ensures.same.source) was.gives) c.take_ready.follows.holds-at-none.0

  -- the devices then
  abbrev devices-ready : List (List ℕ) → Devices
  devices-ready before = devices (g.C.Chooser.choices c.request_line.new.io.chooser.now)
      (screen_state g.S.Screen c.request_line.new.io.screen.now)
      (g.L.LineSource.most c.take_ready.follows.lender-at-none)
      c.request_line.new.io.rules.choose (before ++ ready)

  asked-ready : (before : List (List ℕ)) (x : Tree) (prompt : List ℕ) → IsRequest c.args.request.now x prompt
      → RefinesPart
      (pending_trace g.C.Chooser.choices g.S.Screen g.L.LineSource.most c.args.io.now before c.args.store.now
      c.args.output.now.pending)
      (with_given (before ++ ready) (with_most (g.L.LineSource.most c.take_ready.follows.lender-at-none)
      (pending_trace g.C.Chooser.choices g.S.Screen g.L.LineSource.most c.request_line.new.io
      (before ++ c.answers.invariant.given) c.answers.store c.request_line.new.pending)))
      (item_action c.args.request.now.said.now x prompt)
      (line_left c.args.request.now.said.now x prompt c.in_ok-target.target c.in-Some.line.now)
  asked-ready before x prompt is =
      let was = c.answers.invariant in
      line_asked c.args.request.now.said.now x prompt (g.L.LineSource.most c.take_ready.follows.lender-at-none)
      c.in_ok-target.target c.in-Some.line.now (before ++ ready) (was.refines before x prompt is)
      (c.in_ok-target.ensures.comes (before ++ was.given) x prompt is)
      (falls_one g.L.LineSource.gives g.L.LineSource.most g.met.L.LineSource.falls c.request_line.new.io.source.now
      c.take_ready.follows.lender-at-none (Ok c.take_ready.result) c.in-Some.line.now one_ready
      c.take_ready.follows.holds-at-none.0)
      (sym (append_assoc before was.given (c.in-Some.line.now ∷ [])))

pub returns-in_err-store_answer-clause-comes : goal.returns-in_err-store_answer-clause-comes
returns-in_err-store_answer-clause-comes g c =
    let stored = (goal.at.returns-in_err-store_answer-clause-comes g c).After-store_answer in (
      ready g stored,
      (
        gives-ready g stored,
        λ before x prompt is.
            answering_fails c.args.request.now.said.now x prompt c.in_ok-target.target c.in-Some.line.now
            (asked-ready g stored before x prompt is) _ _ _ _ _ _ _ c.from_residual-in_err-store_answer.ensures.1
            (c.in_err-store_answer.ensures.comes (devices-ready g stored before) _ c.args.request.now.said.now x
            prompt),
      ),
    )

pub returns-then-branch-clause-comes : goal.returns-then-branch-clause-comes
returns-then-branch-clause-comes g c =
    let stored = (goal.at.returns-then-branch-clause-comes g c).After-store_answer in (
      ready g stored,
      (
        gives-ready g stored,
        λ before x prompt is.
            answering_done c.args.request.now.said.now x prompt c.in_ok-target.target c.in-Some.line.now
            (asked-ready g stored before x prompt is) _ _ c.if-branch.true
            (c.in_ok-store_answer.ensures.comes (devices-ready g stored before) _ c.args.request.now.said.now x prompt),
      ),
    )

pub answers-preserved-else-branch : goal.answers-preserved-else-branch
answers-preserved-else-branch g c =
    let stored = (goal.at.answers-preserved-else-branch g c).After-store_answer in
    let was = c.answers.invariant in
    let kept = missed_same g.L.LineSource.missed _ _ _ (ap (λ k. k.now) c.request_line.ensures.same.source)
    was.missed in
    record {
      width = c.store_answer.ensures.width ∙ was.width;
      same = borrows_lent was.same c.request_line.ensures.same
          (record { chooser = refl; screen = refl; source = refl; rules = refl });
      given = ready g stored;
      gives = gives-ready g stored;
      missed = omega (arith, kept, c.take_ready.follows.holds-at-none.1);
      refines = λ before x prompt is.
          answering_again c.args.request.now.said.now x prompt c.in_ok-target.target c.in-Some.line.now
          (asked-ready g stored before x prompt is) _ _ c.if-branch.false
          (c.in_ok-store_answer.ensures.comes (devices-ready g stored before) _ c.args.request.now.said.now x prompt);
    }

-- ---- a line is waited for

module _ (g : given.Over) (c : goal.After-flush g) where
  gives-flushed : g.L.LineSource.gives c.args.io.now.source.now c.answers.invariant.given c.flush.new.self.source.now
  gives-flushed =
      let was = c.answers.invariant in
      gives_same g.L.LineSource.gives _ _ _ _ (ap (λ k. k.now) c.flush.ensures.same.source)
      (gives_no_more g.L.LineSource.gives g.met.L.LineSource.gives_more _ _ _ _ (Ok c.take_ready.result)
      (ap ready_lines c.in_default.is) (gives_same g.L.LineSource.gives c.args.io.now.source.now was.given _ _
      (ap (λ k. k.now) c.request_line.ensures.same.source) was.gives) c.take_ready.follows.holds-at-none.0)

pub returns-in_err-flush-clause-comes : goal.returns-in_err-flush-clause-comes
returns-in_err-flush-clause-comes g c =
    let was = c.answers.invariant in
    let flushed = (goal.at.returns-in_err-flush-clause-comes g c).After-flush in (
      was.given,
      (
        gives-flushed g flushed,
        λ before x prompt is.
            comes_emptied _ _ (io_trace g.C.Chooser.choices g.S.Screen g.L.LineSource.most c.flush.new.self (before
            ++ was.given) c.answers.store) _ _ _ c.flush.ensures.empty c.from_residual-in_err-flush.result
            (answering_unshown c.args.request.now.said.now x prompt (was.refines before x prompt is) _ _ _
            (io_trace g.C.Chooser.choices g.S.Screen g.L.LineSource.most c.flush.new.self (before ++ was.given)
            c.answers.store) c.in_ok-target.target _ _ _ c.from_residual-in_err-flush.ensures.1
            (refines_part_then (c.in_ok-target.ensures.comes (before ++ was.given) x prompt is)
            (fewer_left _ (g.L.LineSource.most c.take_ready.follows.lender-at-none)
            (fewer_lines g.L.LineSource.gives g.L.LineSource.most g.met.L.LineSource.falls _ _ _
            c.take_ready.follows.holds-at-none.0) (goes_on c.in_ok-target.target)))
            (c.in_err-flush.ensures.comes (before ++ was.given) c.answers.store)),
      ),
    )

-- what was gathered is shown
module _ (g : given.Over) (c : goal.After-next g) where
  waited : (before : List (List ℕ)) (x : Tree) (prompt : List ℕ) → IsRequest c.args.request.now x prompt
      → RefinesPart
      (pending_trace g.C.Chooser.choices g.S.Screen g.L.LineSource.most c.answers.io
      (before ++ c.answers.invariant.given) c.answers.store c.answers.output.pending)
      (pending_trace g.C.Chooser.choices g.S.Screen g.L.LineSource.most c.flush.new.self
      (before ++ c.answers.invariant.given) c.answers.store c.flush.new.pending)
      (ask_for c.args.request.now.said.now x prompt) (goes_on c.in_ok-target.target)
  waited before x prompt is =
      let was = c.answers.invariant in
      waiting (ask_for c.args.request.now.said.now x prompt) c.in_ok-target.target
      (g.L.LineSource.most c.take_ready.follows.lender-at-none)
      (io_devices g.C.Chooser.choices g.S.Screen g.L.LineSource.most c.flush.new.self (before ++ was.given))
      c.flush.new.self.fresh c.answers.store c.flush.new.pending
      (c.in_ok-target.ensures.comes (before ++ was.given) x prompt is)
      (fewer_lines g.L.LineSource.gives g.L.LineSource.most g.met.L.LineSource.falls _ _ _
      c.take_ready.follows.holds-at-none.0)
      (c.in_ok-flush.ensures.comes (before ++ was.given) c.answers.store) c.flush.ensures.empty

pub returns-in_err-line-clause-comes : goal.returns-in_err-line-clause-comes
returns-in_err-line-clause-comes g c =
    let was = c.answers.invariant in
    let earlier = goal.at.returns-in_err-line-clause-comes g c in (
      was.given,
      (
        gives_no_more g.L.LineSource.gives g.met.L.LineSource.gives_more _ _ _ _ c.next.result
            (ap given_lines c.in_err-line.was) (gives-flushed g earlier.After-flush) c.next.follows.holds-at-none.0,
        λ before x prompt is.
            answering_unread c.args.request.now.said.now x prompt (was.refines before x prompt is)
            c.in_ok-target.target (waited g earlier.After-next before x prompt is)
            _ _ _ _ _ _ c.in_err-line.field-0.0 c.from_residual-in_err-line.ensures.1 c.flush.ensures.empty
            (fewer_lines g.L.LineSource.gives g.L.LineSource.most g.met.L.LineSource.falls _ _ _
            c.next.follows.holds-at-none.0)
            c.next.result c.in_err-line.was c.next.ensures.kind c.next.follows.holds-at-none.1,
      ),
    )

pub returns-in_default-choose-clause-comes : goal.returns-in_default-choose-clause-comes
returns-in_default-choose-clause-comes g c =
    let was = c.answers.invariant in
    let earlier = goal.at.returns-in_default-choose-clause-comes g c in
    let end : c.next.result ≡ Ok None = c.in_ok-line.was ∙ ap Ok c.in_default-2.is in (
      was.given,
      (
        gives_no_more g.L.LineSource.gives g.met.L.LineSource.gives_more _ _ _ _ c.next.result
            (ap given_lines end) (gives-flushed g earlier.After-flush) c.next.follows.holds-at-none.0,
        λ before x prompt is.
            answering_ends c.args.request.now.said.now x prompt (was.refines before x prompt is)
            c.in_ok-target.target (waited g earlier.After-next before x prompt is)
            _ c.next.result end c.next.follows.holds-at-none.4
            _ _ _ c.flush.ensures.empty c.in_default-choose.is c.next.follows.holds-at-none.2,
      ),
    )

pub returns-in_default-2-clause-comes : goal.returns-in_default-2-clause-comes
returns-in_default-2-clause-comes g c =
    let was = c.answers.invariant in
    let earlier = goal.at.returns-in_default-2-clause-comes g c in
    let end : c.next.result ≡ Ok None = c.in_ok-line.was ∙ ap Ok c.in_default-2.is in (
      was.given,
      (
        gives_same g.L.LineSource.gives _ _ _ _ (ap (λ k. k.now) c.answer_instead.ensures.same.source)
            (gives_no_more g.L.LineSource.gives g.met.L.LineSource.gives_more _ _ _ _ c.next.result
            (ap given_lines end) (gives-flushed g earlier.After-flush) c.next.follows.holds-at-none.0),
        λ before x prompt is.
            let bound : to_z w16 (of_z w16 c.in-Some-choose.bound) ≡ c.in-Some-choose.bound = search rules in
            let source = c.answer_instead.new.io.source.now in
            answering_instead c.args.request.now.said.now x prompt (was.refines before x prompt is)
            c.in_ok-target.target (waited g earlier.After-next before x prompt is)
            _ c.next.result end c.next.follows.holds-at-none.4
            (g.C.Chooser.refused c.answer_instead.new.io.chooser.now) (g.L.LineSource.refused source)
            (g.L.LineSource.lines source) _ (to_z w16 (of_z w16 c.in-Some-choose.bound))
            (c.in-Some-choose.is ∙ ap Some (sym bound)) c.answer_instead.result
            (c.answer_instead.ensures.comes (before ++ was.given)),
      ),
    )

-- ---- a line has come

module _ (g : given.Over) (c : goal.After-store_answer-in_default g) where
  abbrev came : List (List ℕ)
  came = c.answers.invariant.given ++ c.in-Some-2.line.now ∷ []

  line_came : c.next.result ≡ Ok (Some c.in-Some-2.line)
  line_came = c.in_ok-line.was ∙ ap Ok c.in-Some-2.is

  gives-came : g.L.LineSource.gives c.args.io.now.source.now c.answers.invariant.given c.flush.new.self.source.now
      → g.L.LineSource.gives c.args.io.now.source.now came c.next.follows.lender-at-none
  gives-came flushed = gives_one_more g.L.LineSource.gives g.met.L.LineSource.gives_more c.args.io.now.source.now
      c.flush.new.self.source.now c.next.follows.lender-at-none c.answers.invariant.given c.in-Some-2.line.now
      c.next.result (ap given_lines line_came) flushed c.next.follows.holds-at-none.0

  -- the devices then
  abbrev devices-came : List (List ℕ) → Devices
  devices-came before = devices (g.C.Chooser.choices c.flush.new.self.chooser.now)
      (screen_state g.S.Screen c.flush.new.self.screen.now) (g.L.LineSource.most c.next.follows.lender-at-none)
      c.flush.new.self.rules.choose (before ++ came)

  asked-came : (before : List (List ℕ)) (x : Tree) (prompt : List ℕ) → IsRequest c.args.request.now x prompt
      → RefinesPart
      (pending_trace g.C.Chooser.choices g.S.Screen g.L.LineSource.most c.answers.io
      (before ++ c.answers.invariant.given) c.answers.store c.answers.output.pending)
      (pending_trace g.C.Chooser.choices g.S.Screen g.L.LineSource.most c.flush.new.self
      (before ++ c.answers.invariant.given) c.answers.store c.flush.new.pending)
      (ask_for c.args.request.now.said.now x prompt) (goes_on c.in_ok-target.target)
      → RefinesPart
      (pending_trace g.C.Chooser.choices g.S.Screen g.L.LineSource.most c.args.io.now before c.args.store.now
      c.args.output.now.pending)
      (with_given (before ++ came) (with_most (g.L.LineSource.most c.next.follows.lender-at-none)
      (pending_trace g.C.Chooser.choices g.S.Screen g.L.LineSource.most c.flush.new.self
      (before ++ c.answers.invariant.given) c.answers.store c.flush.new.pending)))
      (item_action c.args.request.now.said.now x prompt)
      (line_left c.args.request.now.said.now x prompt c.in_ok-target.target c.in-Some-2.line.now)
  asked-came before x prompt is waited =
      let was = c.answers.invariant in
      line_asked c.args.request.now.said.now x prompt (g.L.LineSource.most c.next.follows.lender-at-none)
      c.in_ok-target.target c.in-Some-2.line.now (before ++ came) (was.refines before x prompt is) waited
      (falls_one g.L.LineSource.gives g.L.LineSource.most g.met.L.LineSource.falls c.flush.new.self.source.now
      c.next.follows.lender-at-none c.next.result c.in-Some-2.line.now (ap given_lines line_came)
      c.next.follows.holds-at-none.0)
      (sym (append_assoc before was.given (c.in-Some-2.line.now ∷ [])))

pub returns-in_err-store_answer-2-clause-comes : goal.returns-in_err-store_answer-2-clause-comes
returns-in_err-store_answer-2-clause-comes g c =
    let earlier = goal.at.returns-in_err-store_answer-2-clause-comes g c in
    let stored = earlier.After-store_answer-in_default in (
      came g stored,
      (
        gives-came g stored (gives-flushed g earlier.After-flush),
        λ before x prompt is.
            answering_fails c.args.request.now.said.now x prompt c.in_ok-target.target c.in-Some-2.line.now
            (asked-came g stored before x prompt is (waited g earlier.After-next before x prompt is))
            _ _ _ _ _ _ _ c.from_residual-in_err-store_answer-2.ensures.1
            (c.in_err-store_answer-2.ensures.comes (devices-came g stored before) _ c.args.request.now.said.now x
            prompt),
      ),
    )

pub returns-then-branch-2-clause-comes : goal.returns-then-branch-2-clause-comes
returns-then-branch-2-clause-comes g c =
    let earlier = goal.at.returns-then-branch-2-clause-comes g c in
    let stored = earlier.After-store_answer-in_default in (
      came g stored,
      (
        gives-came g stored (gives-flushed g earlier.After-flush),
        λ before x prompt is.
            answering_done c.args.request.now.said.now x prompt c.in_ok-target.target c.in-Some-2.line.now
            (asked-came g stored before x prompt is (waited g earlier.After-next before x prompt is))
            _ _ c.if-branch-2.true
            (c.in_ok-store_answer-2.ensures.comes (devices-came g stored before) _ c.args.request.now.said.now x
            prompt),
      ),
    )

pub answers-preserved : goal.answers-preserved
answers-preserved g c =
    let was = c.answers.invariant in
    let earlier = goal.at.answers-preserved g c in
    let stored = earlier.After-store_answer-in_default in
    let kept = missed_same g.L.LineSource.missed _ _ _ (ap (λ k. k.now) c.request_line.ensures.same.source)
    was.missed in
    let before = missed_same g.L.LineSource.missed c.args.io.now.source.now _ c.flush.new.self.source.now
    (ap (λ k. k.now) c.flush.ensures.same.source) (omega (arith, kept, c.take_ready.follows.holds-at-none.1)) in
    record {
      width = c.store_answer-in_default.ensures.width ∙ was.width;
      same = borrows_lent (borrows_lent was.same c.request_line.ensures.same
          (record { chooser = refl; screen = refl; source = refl; rules = refl })) c.flush.ensures.same
          (record { chooser = refl; screen = refl; source = refl; rules = refl });
      given = came g stored;
      gives = gives-came g stored (gives-flushed g earlier.After-flush);
      missed = given_missed g.L.LineSource.missed c.args.io.now.source.now c.flush.new.self.source.now
          c.next.follows.lender-at-none c.in-Some-2.line c.next.result (line_came g stored) before
          c.next.follows.holds-at-none.3;
      refines = λ before x prompt is.
          answering_again c.args.request.now.said.now x prompt c.in_ok-target.target c.in-Some-2.line.now
          (asked-came g stored before x prompt is (waited g earlier.After-next before x prompt is))
          _ _ c.if-branch-2.false
          (c.in_ok-store_answer-2.ensures.comes (devices-came g stored before) _ c.args.request.now.said.now x prompt);
    }
