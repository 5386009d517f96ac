-- This file proves goals of `next` by short searches, which the prover finds late by itself.
use Rattle.std.proofs.Common.{rules}
use Rattle.ptb_explore.proofs.beginnings.Beginnings.next.Goals as goal

pub find_beginning-found-requires-clause-position :
    goal.find_beginning-found-requires-clause-position
find_beginning-found-requires-clause-position c = search rules fits 50 depth 2

pub find_beginning-found-requires-clause-copies : goal.find_beginning-found-requires-clause-copies
find_beginning-found-requires-clause-copies c = search rules fits 50 depth 2

pub invariant_of-self : goal.invariant_of-self
invariant_of-self c = search rules fits 50 depth 2

pub invariant_of-self-in-Ok-false : goal.invariant_of-self-in-Ok-false
invariant_of-self-in-Ok-false c = search rules fits 50 depth 2

pub invariant_of-self-in-Err : goal.invariant_of-self-in-Err
invariant_of-self-in-Err c = search rules

pub returns-in-Ok-true-clause-same : goal.returns-in-Ok-true-clause-same
returns-in-Ok-true-clause-same c = search rules fits 50 depth 2

pub returns-in-Ok-true-clause-next : goal.returns-in-Ok-true-clause-next
returns-in-Ok-true-clause-next c = search rules fits 50 depth 2

pub returns-in-Ok-true-clause-played : goal.returns-in-Ok-true-clause-played
returns-in-Ok-true-clause-played c = search rules fits 50 depth 2

pub returns-in-Ok-true-clause-rises : goal.returns-in-Ok-true-clause-rises
returns-in-Ok-true-clause-rises c = search rules fits 50 depth 2

pub returns-in-Ok-true-clause-once : goal.returns-in-Ok-true-clause-once
returns-in-Ok-true-clause-once c = search rules fits 50 depth 2

pub returns-in-Ok-false-clause-same : goal.returns-in-Ok-false-clause-same
returns-in-Ok-false-clause-same c = search rules fits 50 depth 2

pub returns-in-Ok-false-clause-next : goal.returns-in-Ok-false-clause-next
returns-in-Ok-false-clause-next c = search rules fits 50 depth 2

pub returns-in-Ok-false-clause-ended : goal.returns-in-Ok-false-clause-ended
returns-in-Ok-false-clause-ended c = search rules fits 50 depth 2

pub returns-in-Ok-false-clause-played : goal.returns-in-Ok-false-clause-played
returns-in-Ok-false-clause-played c = search rules fits 50 depth 2

pub returns-in-Ok-false-clause-rises : goal.returns-in-Ok-false-clause-rises
returns-in-Ok-false-clause-rises c = search rules fits 50 depth 2

pub returns-in-Ok-false-clause-once : goal.returns-in-Ok-false-clause-once
returns-in-Ok-false-clause-once c = search rules fits 50 depth 2

pub returns-in-Err-clause-same : goal.returns-in-Err-clause-same
returns-in-Err-clause-same c = search rules fits 50 depth 2

pub returns-in-Err-clause-unmoved : goal.returns-in-Err-clause-unmoved
returns-in-Err-clause-unmoved c = search rules fits 50 depth 2

pub returns-in-Err-clause-ended : goal.returns-in-Err-clause-ended
returns-in-Err-clause-ended c = search rules

pub returns-in-Err-clause-rises : goal.returns-in-Err-clause-rises
returns-in-Err-clause-rises c = search rules fits 50 depth 2

pub returns-in-Err-clause-once : goal.returns-in-Err-clause-once
returns-in-Err-clause-once c = search rules fits 50 depth 2
