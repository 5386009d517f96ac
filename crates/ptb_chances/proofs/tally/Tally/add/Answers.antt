-- This file answers that a row was added.
use Rattle.std.proofs.Common.{List, subst}
use Rattle.ptb_chances.specs.Chances.{Row}
use Rattle.ptb_chances.specs.Accounts.{AddsRow}
use Rattle.ptb_chances.specs.Keys.{key_result, rows_of}
use Rattle.ptb_chances.proofs.Tallies.{added}
use Rattle.ptb_chances.proofs.tally.Tally.add.Goals as goal

pub returns : goal.returns
returns c =
    let row : Row = record { result = key_result c.args.key; chance = c.args.chance.now; runs = c.args.runs.now } in
    subst (λ (old : List Row). AddsRow old row (rows_of c.insert.new.self.entries)) c.self.view_is
    (added c.args.key c.args.chance.now c.args.runs.now c.in_ok-total.total c.self.inside.totals.entries
    c.remove-old.result c.remove-old.new.self.entries c.insert.new.self.entries
    c.remove-old.ensures.value c.remove-old.ensures.entries (c.remove-old.ensures.updates.1)
    c.in_ok-insert.ensures.entries c.in_ok-total.ensures)
