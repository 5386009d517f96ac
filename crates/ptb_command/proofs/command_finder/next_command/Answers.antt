-- At a place that a machine has: its own command, the first of the statement after it, or none.
use Rattle.std.proofs.Common.{◌≡◌, ◌∙◌, Option, None, true, false, sym, subst, rules}
use Rattle.ptb_text.specs.Words.{is_over}
use Rattle.ptb_command.specs.Locations.{PlacesAre, NextIs}
use Rattle.ptb_command.specs.State.{Place, next_command}
use Rattle.ptb_command.proofs.MachinePlaces.{not_placed}
use Rattle.ptb_command.proofs.NextCommands.{placed, text_there, next_nowhere, next_here, next_last, next_empty}
use Rattle.ptb_command.proofs.NextCommands.{next_later}
use Rattle.ptb_command.proofs.command_finder.next_command.Goals as goal

pub returns-in_err-here : goal.returns-in_err-here
returns-in_err-here c q a =
    let none : c.from_residual.result ≡ None = search rules in
    rw none (next_nowhere c.args.program.now.lines q (subst (PlacesAre c.args.program.now.lines q) c.in_err-here.was a))

pub returns-then-not-at_end : goal.returns-then-not-at_end
returns-then-not-at_end c q a =
    let p = c.args.program.now.lines in
    let over : is_over c.line_at.result.1.now c.in_ok-here.here.offset ≡ false =
    rw c.new-cursor.ensures at (sym c.at_end.ensures ∙ c.if-not-at_end.true) in
    rw c.new-cursor.ensures
    (placed p c.in_ok-here.here (λ (q : Option Place). NextIs p q c.in_ok-here.here c.line_at.result.1.now)
    (λ q a. next_here c.command_laws.ensures p q c.in_ok-here.here a _ (text_there p q _ _ _ a c.line_at.ensures.there)
    over)
    q (subst (PlacesAre p q) c.in_ok-here.was a))

pub returns-in_err-following : goal.returns-in_err-following
returns-in_err-following c q a =
    let p = c.args.program.now.lines in
    let none : c.from_residual-in_err-following.result ≡ None = search rules in
    let over : is_over c.line_at.result.1.now c.in_ok-here.here.offset ≡ true =
    rw c.new-cursor.ensures at (sym c.at_end.ensures ∙ c.if-not-at_end.false) in
    rw none (placed p c.in_ok-here.here (λ (q : Option Place). next_command p q ≡ None)
    (λ q a. next_last c.command_laws.ensures p q c.in_ok-here.here a _ (text_there p q _ _ _ a c.line_at.ensures.there)
    over
    (not_placed p _ (c.in_err-following.ensures.following q a.statement)))
    q (subst (PlacesAre p q) c.in_ok-here.was a))

pub returns-then-at_end : goal.returns-then-at_end
returns-then-at_end c q a =
    let p = c.args.program.now.lines in
    let over : is_over c.line_at.result.1.now c.in_ok-here.here.offset ≡ true =
    rw c.new-cursor.ensures at (sym c.at_end.ensures ∙ c.if-not-at_end.false) in
    let over_after : is_over c.line_at-2.result.1.now c.in_ok-following.following.offset ≡ true =
    rw c.new-cursor-2.ensures at (sym c.at_end-2.ensures ∙ c.if-at_end.true) in
    placed p c.in_ok-here.here (λ (q : Option Place). next_command p q ≡ None)
    (λ q a. next_empty c.command_laws.ensures p q c.in_ok-here.here a _ (text_there p q _ _ _ a c.line_at.ensures.there)
    c.in_ok-following.following _ _ over
    (c.in_ok-following.ensures.following q a.statement) c.line_at-2.ensures.there over_after)
    q (subst (PlacesAre p q) c.in_ok-here.was a)

pub returns : goal.returns
returns c q a =
    let p = c.args.program.now.lines in
    let over : is_over c.line_at.result.1.now c.in_ok-here.here.offset ≡ true =
    rw c.new-cursor.ensures at (sym c.at_end.ensures ∙ c.if-not-at_end.false) in
    let over_after : is_over c.line_at-2.result.1.now c.in_ok-following.following.offset ≡ false =
    rw c.new-cursor-2.ensures at (sym c.at_end-2.ensures ∙ c.if-at_end.false) in
    rw c.new-cursor-2.ensures
    (placed p c.in_ok-here.here (λ (q : Option Place). NextIs p q c.in_ok-following.following c.line_at-2.result.1.now)
    (λ q a. next_later c.command_laws.ensures p q c.in_ok-here.here a _ (text_there p q _ _ _ a c.line_at.ensures.there)
    c.in_ok-following.following _ _ over
    (c.in_ok-following.ensures.following q a.statement) c.line_at-2.ensures.there over_after)
    q (subst (PlacesAre p q) c.in_ok-here.was a))
