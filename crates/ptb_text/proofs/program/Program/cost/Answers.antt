-- This file answers what is left to prove of `Program::cost`.
use Rattle.std.proofs.Common.{arith, ◌≡◌, ◌≤◌, ◌+◌, ◌*◌}
use Rattle.ptb_text.specs.Statements.{cost}
use Rattle.ptb_text.proofs.StoredLines.{HasSizes-from_kept}
use Rattle.ptb_text.proofs.program.Program.cost.Goals as goal
use Rattle.ptb_text.proofs.program.Program.cost.Goals.{After-len-2}

-- the two lengths give what the program costs
counted : (c : After-len-2) → (c.len.result + 3 * c.len-2.result ≡ cost c.args.self.now.lines)
    × (cost c.args.self.now.lines ≤ 32767)
counted c =
    let s = HasSizes-from_kept c.self.inside c.args.self.now c.self.view_is c.self.invariant in (
      omega (
        arith,
        s.texts_are,
        s.count,
        s.cost_is,
        c.len.ensures,
        c.len-2.ensures,
        c.self.inside.statements.ok.0,
        c.self.inside.pool.ok.0,
      ),
      omega (arith, s.fits, s.small),
    )

pub overflow_mul-result : goal.overflow_mul-result
overflow_mul-result c =
    let both = counted (goal.at.overflow_mul-result c).After-len-2 in omega (arith, both.0, both.1)

pub overflow_add-result : goal.overflow_add-result
overflow_add-result c =
    let both = counted (goal.at.overflow_add-result c).After-len-2 in omega (arith, both.0, both.1)

pub overflow_cast-result : goal.overflow_cast-result
overflow_cast-result c =
    let both = counted (goal.at.overflow_cast-result c).After-len-2 in omega (arith, both.0, both.1)

pub returns-clause-value : goal.returns-clause-value
returns-clause-value c = (counted (goal.at.returns-clause-value c).After-len-2).0
