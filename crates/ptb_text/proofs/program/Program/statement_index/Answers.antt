-- What the look-up of a number gives.
use Rattle.std.proofs.Common.{◌≡◌, pos, sym, ◌∙◌}
use Rattle.ptb_text.proofs.Numbers.{is_whole, look_up-found, look_up-absent}
use Rattle.ptb_text.proofs.program.Program.statement_index.Goals as goal

-- the number has no sign
whole : (c : goal.After-ok-2) → c.args.number ≡ pos c.in_ok-number.number
whole c = is_whole c.try_from.result c.args.number c.in_ok-number.number c.ranges.number c.try_from.ensures
    (sym c.ok.ensures.value ∙ c.in_ok-number.was)

pub returns-clause-found : goal.returns-clause-found
returns-clause-found c = look_up-found c.args.self.now.lines c.args.number _ c.ok-2.result c.search.result
    (whole c) c.search.ensures.found c.ok-2.ensures.value

pub returns-clause-absent : goal.returns-clause-absent
returns-clause-absent c = look_up-absent c.args.self.now.lines c.args.number _ c.ok-2.result c.search.result
    (whole c) c.search.ensures.absent c.ok-2.ensures.value
