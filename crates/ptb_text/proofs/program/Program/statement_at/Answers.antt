-- This file answers what is left to prove of `Program::statement_at`.
use Rattle.std.proofs.Common.{[], Some, ap, ◌∙◌, arith}
use Rattle.std.proofs.lemmas.Option.{slice_get-get_or}
use Rattle.ptb_text.proofs.Pool.{IsEntry}
use Rattle.ptb_text.proofs.SoundPrograms.{StatementFacts, StatementFacts_at}
use Rattle.ptb_text.specs.Program.{text_in}
use Rattle.ptb_text.proofs.StoredLines.{line_read, is_program_shown, HasSizes-from_kept, IsEntry-shown}
use Rattle.ptb_text.proofs.program.Program.statement_at.Goals as goal
use Rattle.ptb_text.proofs.program.Program.statement_at.Goals.{After-index}

-- the statement that is read is the line at its place
facts : (c : After-index)
    → StatementFacts c.index.result.now.number (text_in c.self.inside.pool.items c.index.result.now)
facts c =
    let p = c.args.self.now in
    StatementFacts_at p.lines
    (is_program_shown c.self.inside p c.self.view_is c.self.invariant) c.args.at _ _ c.requires
    (line_read c.self.inside p c.self.view_is c.args.at c.index.result.now c.requires c.index.ensures)

-- and its text is in the pool
entry : (c : After-index) → IsEntry c.args.self.now.lines c.args.at c.index.result.now
entry c = IsEntry-shown c.self.inside c.args.self.now c.self.view_is c.self.invariant c.args.at c.index.result.now
    c.requires c.index.ensures

pub slice_bounds-text-end : goal.slice_bounds-text-end
slice_bounds-text-end c =
    let s = HasSizes-from_kept c.self.inside c.args.self.now c.self.view_is c.self.invariant in
    let e = entry (goal.at.slice_bounds-text-end c).After-index in
    omega (arith, e.within, s.texts_are, c.end.ensures, c.deref.ensures.len, c.self.inside.pool.ok.0)

pub returns-clause-number : goal.returns-clause-number
returns-clause-number c = (facts (goal.at.returns-clause-number c).After-index).high

pub returns-clause-text : goal.returns-clause-text
returns-clause-text c =
    rw (c.deref.ensures.value, c.from.ensures, c.end.ensures)
    (facts (goal.at.returns-clause-text c).After-index).text.short

pub returns-clause-line : goal.returns-clause-line
returns-clause-line c =
    let p = c.args.self.now in
    let line = line_read c.self.inside p c.self.view_is c.args.at c.index.result.now c.requires c.index.ensures in
    rw (c.deref.ensures.value, c.from.ensures, c.end.ensures)
    (slice_get-get_or p.lines c.args.at (0, []) c.requires ∙ ap Some line)
