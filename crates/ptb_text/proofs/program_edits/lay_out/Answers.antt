-- This file answers what is left to prove of `lay_out`.
use Rattle.std.proofs.Common.{◌≡◌, ◌+◌, take, get_or, arith}
use Rattle.std.proofs.lemmas.List.Sums.{sum_by-take-le}
use Rattle.ptb_text.specs.Program.{lengths}
use Rattle.ptb_text.proofs.Pool.{next_moved, next_length}
use Rattle.ptb_text.proofs.program_edits.lay_out.Goals as goal
use Rattle.ptb_text.proofs.program_edits.lay_out.Goals.{After-from-place}

-- the next place is after one statement more
following : (c : After-from-place)
    → c.loop-statement.place + c.from-place.result
    ≡ c.args.start + lengths (take (c.loop-statement.statement-index + 1) c.args.statements.now)
following c =
    let ss = c.args.statements.now in
    let k = c.loop-statement.statement-index in
    let one = next_length c.args.start ss k (record { number = 0; place = 0; length = 0 }) c.loop-statement-test.true in
    let here : c.from-place.result
    ≡ (get_or c.loop-statement.statements k (record { number = 0; place = 0; length = 0 })).length =
    c.from-place.ensures in
    let same = rw c.loop-statement.invariant.laid at here in
    omega (arith, c.loop-statement.invariant.following, one, same)

pub overflow_add-place : goal.overflow_add-place
overflow_add-place c =
    let part = sum_by-take-le (λ s. s.length) c.args.statements.now (c.loop-statement.statement-index + 1) in
    omega (arith, following (goal.at.overflow_add-place c).After-from-place, c.requires)

pub loop-statement-preserved : goal.loop-statement-preserved
loop-statement-preserved c =
    let moved = next_moved c.args.start c.loop-statement.place c.args.statements.now c.loop-statement.statement-index
    (record { number = 0; place = 0; length = 0 }) c.loop-statement-test.true c.loop-statement.invariant.following in
    record {
      laid = rw c.loop-statement.invariant.laid moved;
      following = following (goal.at.loop-statement-preserved c).After-from-place;
    }
