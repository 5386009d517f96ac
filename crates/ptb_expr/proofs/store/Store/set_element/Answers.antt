-- This file answers what is left to prove of a value that is stored in the array.
use Rattle.std.proofs.Common.{◌≤◌, ◌+◌, arith, rules}
use Rattle.ptb_expr.proofs.Zeros.{zeros_stored}
use Rattle.ptb_expr.proofs.store.Store.set_element.Goals as goal

pub invariant_of-self-2 : goal.invariant_of-self-2
invariant_of-self-2 c =
    let at = c.from-at.result in
    let used : c.self.inside.used ≤ at + 1 = omega (arith, c.if-at-self.false) in
    let own : at + 1 ≤ at + 1 = omega arith in (
      c.self.invariant.0,
      c.self.invariant.1,
      c.self.invariant.2,
      search rules,
      zeros_stored _ _ _ _ _ used own c.self.invariant.4,
      c.self.invariant.5,
    )
