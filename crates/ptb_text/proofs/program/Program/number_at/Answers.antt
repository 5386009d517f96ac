-- This file answers what is left to prove of `Program::number_at`.
use Rattle.std.proofs.Common.{◌≡◌, ◌≤◌, Some, pos, sym, ap, ◌∙◌, arith, option_map, is_some, true, ℕ, []}
use Rattle.std.proofs.lemmas.Int.{ints}
use Rattle.std.proofs.lemmas.Option.{slice_get-get_or}
use mir.Syntax.{w16}
use mir.Val.{to_z}
use Rattle.ptb_text.specs.Statements.{is_program}
use Rattle.ptb_text.proofs.SoundPrograms.{text_at-number}
use Rattle.ptb_text.proofs.StoredLines.{IsShownAt, IsShownAt-from_read}
use Rattle.ptb_text.proofs.program.Program.number_at.Goals as goal
use Rattle.ptb_text.proofs.program.Program.number_at.Goals.{In_ok-statement}

-- the statement that is looked up is the line at its place
shown_here : (c : In_ok-statement) → IsShownAt c.args.self.now c.args.at c.in_ok-statement.statement.now.number
shown_here c =
    let item = (rw c.deref.ensures.value at c.in_ok-statement.ensures.lookup).3 in
    IsShownAt-from_read c.self.inside _ c.self.view_is c.self.invariant _ _ item.0 (item.1 _)

-- so its number is no more than a signed number can be
signed : (n : ℕ) → n ≤ 32767 → to_z w16 n ≡ pos n
signed n small = omega (arith, ints)

pub overflow_cast-result : goal.overflow_cast-result
overflow_cast-result c = let here = shown_here (goal.at.overflow_cast-result c).In_ok-statement in
    omega (arith, here.high)

pub returns-clause-value : goal.returns-clause-value
returns-clause-value c =
    let here = shown_here (goal.at.returns-clause-value c).In_ok-statement in
    let line = slice_get-get_or c.args.self.now.lines c.args.at (0, []) here.in_range in
    ap Some (signed _ here.high ∙ ap pos (sym here.has_number)) ∙ ap (option_map (λ s. pos s.0)) (sym line)

pub returns-clause-text : goal.returns-clause-text
returns-clause-text c =
    let here = shown_here (goal.at.returns-clause-text c).In_ok-statement in
    let is : is_program c.args.self.now.lines ≡ true = rw (← c.self.view_is) c.self.invariant.sound.is_map in
    let text = text_at-number c.args.self.now.lines is c.args.at here.in_range in
    rw (signed _ here.high, ← here.has_number) (ap is_some text)

pub returns-clause-number : goal.returns-clause-number
returns-clause-number c =
    let here = shown_here (goal.at.returns-clause-number c).In_ok-statement in
    rw (signed _ here.high) (omega (arith, ints, here.low))
