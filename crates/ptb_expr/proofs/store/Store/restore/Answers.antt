-- This file proves goals of `restore` that the prover finds late by itself.
use Rattle.std.proofs.Common.{arith, rules}
use Rattle.std.proofs.lemmas.Grind.{common_steps}
use Rattle.ptb_expr.proofs.store.Store.restore.Goals as goal

pub new-requires : goal.new-requires
new-requires c = search rules fits 50 depth 2

pub same-self : goal.same-self
same-self c = search rules fits 50 depth 2

pub returns-in_err-self-inside : goal.returns-in_err-self-inside
returns-in_err-self-inside c = search rules fits 50 depth 2

pub put_front-requires-clause-fits : goal.put_front-requires-clause-fits
put_front-requires-clause-fits c = search rules fits 50 depth 2

pub put_front-requires-clause-within : goal.put_front-requires-clause-within
put_front-requires-clause-within c = search rules fits 50 depth 2

pub put_front-requires-clause-zeros : goal.put_front-requires-clause-zeros
put_front-requires-clause-zeros c = search rules fits 50 depth 2

pub invariant_of-self : goal.invariant_of-self
invariant_of-self c = grind (arith, common_steps)

pub returns-clause-ok : goal.returns-clause-ok
returns-clause-ok c = grind (arith, common_steps)

pub returns-clause-same_size : goal.returns-clause-same_size
returns-clause-same_size c = search rules fits 50 depth 2
