-- This file answers what is left to prove of `keep`.
use Rattle.std.proofs.Common.{◌<◌, ◌≤◌, length, sym, ◌∙◌, rules}
use Rattle.std.proofs.lemmas.Bool.{eqb-true}
use Rattle.ptb_devices.proofs.CutLines.{with_byte-full, with_byte-kept, with_byte-dropped}
use Rattle.ptb_devices.proofs.cutter.keep.Goals as goal

pub returns-then-is_full : goal.returns-then-is_full
returns-then-is_full c =
    sym (with_byte-full _ c.args.byte (eqb-true _ _ (sym c.is_full.ensures.value ∙ c.if-is_full.true)))

pub returns-in-Some : goal.returns-in-Some
returns-in-Some c =
    let room : length c.args.kept.now.items < 255 = search rules in
    c.push.ensures.items ∙ sym (with_byte-kept _ c.args.byte _ room c.in-Some.ensures)

pub returns-in_default : goal.returns-in_default
returns-in_default c =
    let fits : length c.args.kept.now.items ≤ 255 = search rules in
    sym (with_byte-dropped _ c.args.byte fits c.in_default.ensures)
