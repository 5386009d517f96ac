-- This file answers that the mistakes of a program are those of its statements, one after the other.
use Rattle.std.proofs.Common.{◌≡◌, ◌∙◌, ◌+◌, ◌<◌, ◌++◌, ℕ, drop, length, ap, sym, subst, arith, rules, to_z, of_z, w16}
use Rattle.std.specs.Prelude.{flat_map, unsigned_abs}
use Rattle.std.proofs.lemmas.Result.{err_from_is_err_and}
use Rattle.ptb_check.specs.Mistakes.{statement_mistakes}
use Rattle.ptb_check.proofs.Progress.{more_written, not_written}
use Rattle.ptb_check.proofs.Rounds.{statement_left}
use Rattle.ptb_check.proofs.writer.write_mistakes.Goals as goal
use Rattle.ptb_check.proofs.writer.write_mistakes.Goals.{After-unsigned_abs-number}

-- what is left from the statement on is its mistakes and those of the others
left_from : (g : _) (c : After-unsigned_abs-number g)
    → flat_map (statement_mistakes c.args.program.now.lines) (drop c.loop-at.at c.args.program.now.lines)
    ≡ statement_mistakes c.args.program.now.lines (c.unsigned_abs-number.result, c.line_at-number.result.1.now)
    ++ flat_map (statement_mistakes c.args.program.now.lines) (drop (c.loop-at.at + 1) c.args.program.now.lines)
left_from g c =
    let p = c.args.program.now.lines in
    let at = c.loop-at.at in
    let within : at < length p = omega (arith, c.loop-at-test.true, c.len-at-end.ensures.value) in
    let left = statement_left p p at c.line_at-number.result.0 c.line_at-number.result.1.now within
    c.line_at-number.ensures.there in
    let same : to_z w16 (of_z w16 c.line_at-number.result.0) ≡ c.line_at-number.result.0 = search rules in
    let value = c.unsigned_abs-number.ensures.value ∙ ap unsigned_abs same in
    subst (λ (n : ℕ). flat_map (statement_mistakes p) (drop at p) ≡ statement_mistakes p
    (n, c.line_at-number.result.1.now) ++ flat_map (statement_mistakes p) (drop (at + 1) p)) (sym value) left

-- a write failed
pub returns-in_err-any-clause-writes : goal.returns-in_err-any-clause-writes
returns-in_err-any-clause-writes g c =
    let left = left_from g (goal.at.returns-in_err-any-clause-writes g c).After-unsigned_abs-number in
    let e = err_from_is_err_and c.from_residual.result c.from_residual.ensures.1 in
    rw e.1 (not_written _ _ e.0 _ _ left c.loop-at.invariant.written c.in_err-any.ensures.writes)

pub loop-at-preserved : goal.loop-at-preserved
loop-at-preserved g c =
    let left = left_from g (goal.at.loop-at-preserved g c).After-unsigned_abs-number in
    record {
      unfailed = c.in_ok-any.ensures.unfailed ∙ c.loop-at.invariant.unfailed;
      written = more_written _ c.in_ok-any.field-0 _ _ left c.loop-at.invariant.written c.in_ok-any.ensures.writes;
    }
