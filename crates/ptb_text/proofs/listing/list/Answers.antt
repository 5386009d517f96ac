-- This file answers what is left to prove of `list`.
use Rattle.std.proofs.Common.{rules, length, ap, ◌∙◌, arith}
use Rattle.std.proofs.lemmas.List.{drop_all}
use Rattle.ptb_text.specs.Statements.{listing}
use Rattle.ptb_text.proofs.ListedPrograms.{GivesProgram-listing, listing-drop}
use Rattle.ptb_text.proofs.TakenPieces.{gathers_all, piece_taken, piece_fault}
use Rattle.ptb_text.proofs.WrittenTexts.{failed_after, fails}
use Rattle.ptb_text.proofs.listing.list.Goals as goal

-- a write failed
pub returns-in_err-write_line : goal.returns-in_err-write_line
returns-in_err-write_line g c =
    let next = listing-drop c.args.program.now.lines c.loop-at.at _ c.statement_at-number.ensures.line in
    let failed = c.in_err-write_line.ensures.writes in
    record {
      writes = fails _ _ _ c.from_residual.result _ c.from_residual.ensures.1
          (piece_fault _ _ _ next c.loop-at.invariant.taken failed.fault)
          (failed_after _ _ _ c.loop-at.invariant.unfailed failed.failed) failed.kind;
      reloads = GivesProgram-listing;
    }

-- all lines were written
pub returns : goal.returns
returns g c =
    let p = c.args.program.now.lines in
    let none = drop_all c.loop-at.at p (omega (arith, c.loop-at-test.false, c.len-at-end.ensures.value)) in
    record {
      writes = record {
        ok = gathers_all _ c.loop-at.invariant.taken (ap (λ ls. length (listing ls)) none);
        fault = tt;
        failed = tt;
        kind = tt;
        unfailed = c.loop-at.invariant.unfailed;
      };
      reloads = GivesProgram-listing;
    }

pub loop-at-preserved : goal.loop-at-preserved
loop-at-preserved g c =
    let next = listing-drop c.args.program.now.lines c.loop-at.at _ c.statement_at-number.ensures.line in
    let all = c.in_ok-write_line.ensures.writes.ok in
    let same = c.in_ok-write_line.ensures.writes.unfailed in
    record {
      unfailed = same ∙ c.loop-at.invariant.unfailed;
      taken = piece_taken _ _ _ next c.loop-at.invariant.taken all;
      empty = c.in_ok-write_line.ensures.empty;
    }

pub loop-at-init : goal.loop-at-init
loop-at-init g c = search rules fits 50 depth 2
