-- This file answers that the mistakes of a statement are those of its commands, one after the other.
use Rattle.std.proofs.Common.{◌≡◌, ◌∙◌, ◌∷◌, ◌≤◌, ℕ, List, [], Some, None, false, true, length, ap, sym, subst, refl}
use Rattle.std.proofs.Common.{arith}
use Rattle.std.proofs.lemmas.Result.{err_from_is_err_and}
use Rattle.ptb_text.specs.CursorState.{CursorState}
use Rattle.ptb_text.specs.FoundParts.{LiesAhead}
use Rattle.ptb_text.specs.Words.{is_over}
use Rattle.ptb_command.specs.Commands.{command_at, commands_from}
use Rattle.ptb_command.specs.Translation.{IsTranslated}
use Rattle.ptb_machine.proofs.PublicLemmas.{next_ahead}
use Rattle.ptb_check.proofs.Progress.{all_written, more_written, not_written}
use Rattle.ptb_check.proofs.Rounds.{commands_left, left_at, mistakes_from, mistakes_left, no_command_left}
use Rattle.ptb_check.proofs.writer.write_statement.Goals as goal
use Rattle.ptb_check.proofs.writer.write_statement.Goals.{After-translate-next}

-- the room has the code of the command
translated : (g : _) (c : After-translate-next g)
    → IsTranslated c.args.text.now c.commands.cursor.place c.translate-next.new.code
translated g c = subst (λ v. IsTranslated v c.commands.cursor.place c.translate-next.new.code)
    c.commands.invariant.text c.translate-next.ensures.code

-- the commands from its place on, by where the next one begins
left : (g : _) (c : After-translate-next g)
    → commands_from c.args.text.now c.commands.cursor.place
    ≡ command_at c.args.text.now c.commands.cursor.place ∷ left_at c.args.text.now c.translate-next.result
left g c =
    let i = c.commands.cursor.place in
    let over = sym c.at_end.ensures ∙ c.commands-test.true in
    subst (λ v. commands_from v i ≡ command_at v i ∷ left_at v c.translate-next.result) c.commands.invariant.text
    (commands_left c.command_laws.ensures c.commands.cursor.text i c.translate-next.result over
    (c.translate-next.ensures.next over))

-- a write failed
pub returns-in_err-any-clause-writes : goal.returns-in_err-any-clause-writes
returns-in_err-any-clause-writes g c =
    let t = c.args.text.now in
    let i = c.commands.cursor.place in
    let here = (goal.at.returns-in_err-any-clause-writes g c).After-translate-next in
    let e = err_from_is_err_and c.from_residual.result c.from_residual.ensures.1 in
    rw e.1 (not_written _ _ e.0 _
    (mistakes_from c.args.program.now.lines c.args.number t (left_at t c.translate-next.result))
    (mistakes_left c.args.program.now.lines c.args.number t i (left_at t c.translate-next.result) (left g here))
    c.commands.invariant.written (c.in_err-any.ensures.writes i (translated g here)))

-- no command is left
pub returns-in-None-clause-writes : goal.returns-in-None-clause-writes
returns-in-None-clause-writes g c =
    let t = c.args.text.now in
    let i = c.commands.cursor.place in
    let here = (goal.at.returns-in-None-clause-writes g c).After-translate-next in
    all_written refl (more_written _ c.in_ok-any.field-0 _ [] (mistakes_left c.args.program.now.lines c.args.number t i
    [] (rw c.in-None.is at (left g here))) c.commands.invariant.written
    (c.in_ok-any.ensures.writes i (translated g here)))

pub returns-clause-writes : goal.returns-clause-writes
returns-clause-writes g c =
    let t = c.args.text.now in
    let i = c.commands.cursor.place in
    let over = subst (λ v. is_over v i ≡ true) c.commands.invariant.text
    (sym c.at_end.ensures ∙ c.commands-test.false) in
    all_written
    (ap (mistakes_from c.args.program.now.lines c.args.number t) (no_command_left c.command_laws.ensures t i over))
    c.commands.invariant.written

-- others are
pub commands-preserved : goal.commands-preserved
commands-preserved g c =
    let t = c.args.text.now in
    let i = c.commands.cursor.place in
    let j = c.go_to.new.self.place in
    let here = (goal.at.commands-preserved g c).After-translate-next in
    let to : j ≡ c.in-Some.next = ap (λ (u : CursorState). u.place) c.go_to.ensures in
    let more : commands_from t i ≡ command_at t i ∷ commands_from t j =
    rw to (rw c.in-Some.is at (left g here)) in
    record {
      text = ap (λ (u : CursorState). u.text) c.go_to.ensures ∙ c.translate-next.ensures.text
          ∙ c.commands.invariant.text;
      unfailed = c.in_ok-any.ensures.unfailed ∙ c.commands.invariant.unfailed;
      written =
          more_written _ c.in_ok-any.field-0 _
          (mistakes_from c.args.program.now.lines c.args.number t (commands_from t j))
          (mistakes_left c.args.program.now.lines c.args.number t i (commands_from t j) more)
          c.commands.invariant.written
          (c.in_ok-any.ensures.writes i (translated g here));
    }

-- and its place is ahead
pub commands-smaller : goal.commands-smaller
commands-smaller g c =
    let u = c.commands.cursor.text in
    let over = sym c.at_end.ensures ∙ c.commands-test.true in
    let ahead = next_ahead c.command_laws.ensures u c.commands.cursor.place c.in-Some.next
    (c.translate-next.ensures.next over ∙ c.in-Some.is) in
    let to : c.go_to.new.self.place ≡ c.in-Some.next = ap (λ (v : CursorState). v.place) c.go_to.ensures in
    let same : length u ≡ length c.args.text.now = ap length c.commands.invariant.text in
    omega (arith, ahead.after, ahead.within, to, same)
