-- This file answers what is left to prove of `Program::after`.
use Rattle.std.proofs.Common.{ℕ, Ok, refl, ◌∙◌}
use Rattle.ptb_text.proofs.Numbers.{is_whole, number_above-place, number_above-gap}
use Rattle.ptb_text.proofs.program.Program.after.Goals as goal

pub returns-in-Ok-search-clause-value : goal.returns-in-Ok-search-clause-value
returns-in-Ok-search-clause-value c =
    let whole = is_whole {E = ℕ} (Ok c.in-Ok.number) c.args.number _ c.ranges.number c.in-Ok.ensures refl in
    c.number_at.ensures.value
    ∙ number_above-place c.args.self.now.lines c.args.number _ _ whole c.in-Ok-search.ensures.found

pub returns-in-Err-clause-value : goal.returns-in-Err-clause-value
returns-in-Err-clause-value c =
    let whole = is_whole {E = ℕ} (Ok c.in-Ok.number) c.args.number _ c.ranges.number c.in-Ok.ensures refl in
    c.number_at-in-Err.ensures.value
    ∙ number_above-gap c.args.self.now.lines c.args.number _ _ whole c.in-Err.ensures.absent
