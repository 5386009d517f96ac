-- This file answers what is left to prove of `take_at_hand`.
use Rattle.std.proofs.Common.{◌≡◌, [], ◌∷◌, ◌++◌, Ok, ap, refl}
use Rattle.ptb_devices.specs.Sources.{ready_lines}
use Rattle.ptb_expr.specs.Tree.{Var}
use Rattle.ptb_command.specs.CommandIo.{pending_trace, io_trace}
use Rattle.ptb_command.specs.Devices.{devices, screen_state}
use Rattle.ptb_command.proofs.DirectAnswers.{letter_asked}
use Rattle.ptb_command.proofs.InputItems.{fewer_left, gives_no_more, gives_one_more, none_given}
use Rattle.ptb_command.proofs.MissedLines.{falls_one, fewer_lines, not_missed}
use Rattle.ptb_command.proofs.PartRefinement.{refines_part_then}
use Rattle.ptb_command.proofs.TakenItems.{taken_comes}
use Rattle.ptb_command.proofs.execution.input.take_at_hand.Goals as goal

-- no line is at hand
pub returns-in_default : goal.returns-in_default
returns-in_default g c t steps operation short =
    let s = c.args.io.now.source.now in
    let u = c.take_ready.follows.lender-at-none in
    let none : ready_lines c.take_ready.result ≡ [] = ap ready_lines c.in_default.is in
    let fewer = fewer_lines g.L.LineSource.gives g.L.LineSource.most g.met.L.LineSource.falls s u _
    c.take_ready.follows.holds-at-none.0 in
    record {
      given = [];
      gives = gives_no_more g.L.LineSource.gives g.met.L.LineSource.gives_more s s u [] (Ok c.take_ready.result) none
          (g.met.L.LineSource.gives_none s) c.take_ready.follows.holds-at-none.0;
      comes = λ before part rest operands means.
          refines_part_then
          (fewer_left (pending_trace g.C.Chooser.choices g.S.Screen g.L.LineSource.most c.args.io.now before
          c.args.store.now c.args.output.now.pending) (g.L.LineSource.most u) fewer _)
          (none_given _ _);
      passed = λ part means never. (short steps part means).1 never;
      missed = not_missed _ _ _ _ c.take_ready.follows.holds-at-none.1;
      same = record { chooser = refl; screen = refl; source = refl; rules = refl };
      width = refl;
    }

-- a line is at hand
pub returns : goal.returns
returns g c t steps operation short =
    let s = c.args.io.now.source.now in
    let u = c.take_ready.follows.lender-at-none in
    let line = c.in-Some.line.now in
    let some : ready_lines c.take_ready.result ≡ line ∷ [] = ap ready_lines c.in-Some.is in
    let item = c.args.item in
    let prompt = item.name ∷ 58 ∷ [] in
    let old = c.args.output.now in
    record {
      given = line ∷ [];
      gives = gives_one_more g.L.LineSource.gives g.met.L.LineSource.gives_more s s u [] line
          (Ok c.take_ready.result) some (g.met.L.LineSource.gives_none s) c.take_ready.follows.holds-at-none.0;
      comes = λ before part rest operands means.
          rw c.store_answer.ensures.width
          (rw (short steps part means).0
          (taken_comes rest old.width operands (Var item.letter) prompt _ _ _ _ _ (g.L.LineSource.most u) line
          (before ++ line ∷ [])
          (letter_asked [] (Var item.letter) prompt (item.name ∷ [])
          (io_trace g.C.Chooser.choices g.S.Screen g.L.LineSource.most c.args.io.now before c.args.store.now)
          old.pending c.push_two.new.self item.letter refl refl refl c.push_two.ensures)
          (falls_one g.L.LineSource.gives g.L.LineSource.most g.met.L.LineSource.falls s u
          (Ok c.take_ready.result) line some c.take_ready.follows.holds-at-none.0) refl c.store_answer.result
          (c.store_answer.ensures.comes
          (devices (g.C.Chooser.choices c.args.io.now.chooser.now) (screen_state g.S.Screen c.args.io.now.screen.now)
          (g.L.LineSource.most u) c.args.io.now.rules.choose (before ++ line ∷ [])) _ [] (Var item.letter) prompt)));
      passed = λ part means never. (short steps part means).1 never;
      missed = not_missed _ _ _ _ c.take_ready.follows.holds-at-none.1;
      same = record { chooser = refl; screen = refl; source = refl; rules = refl };
      width = c.store_answer.ensures.width;
    }
