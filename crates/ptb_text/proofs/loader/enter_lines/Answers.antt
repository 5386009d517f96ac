-- This file answers what is left to prove of `enter_lines`.
use Rattle.std.proofs.Common.{◌≡◌, ◌∷◌, drop, Err, refl, sym, ap, ◌∙◌, arith}
use Rattle.ptb_text.specs.Lines.{lines}
use Rattle.ptb_text.proofs.LineParts.{no_bytes}
use Rattle.ptb_text.proofs.EnteredLines.{drop_next, has_text, accepted, acceptable, refused, all_accepted, none_entered}
use Rattle.ptb_text.proofs.loader.enter_lines.Goals as goal
use Rattle.ptb_text.proofs.loader.enter_lines.Goals.{After-split_line}

-- the line that is entered next is the first of those that are left
left : (c : After-split_line)
    → c.split_line.result.0.now ∷ lines c.split_line.result.1.now ≡ drop c.loop-rest.entered (lines c.args.text.now)
left c = sym c.split_line.ensures.lines ∙ c.loop-rest.invariant.others

pub loop-rest-init : goal.loop-rest-init
loop-rest-init c =
    record { memory = refl; so_far = none_entered _ _ c.requires.empty; others = refl; count = omega arith }

pub returns-in-Err-clause-refused : goal.returns-in-Err-clause-refused
returns-in-Err-clause-refused c line_fault =
    let first = left (goal.at.returns-in-Err-clause-refused c).After-split_line in
    let e = rw c.loop-rest.invariant.memory at (c.in-Err.ensures.refused line_fault) in
    refused (lines c.args.text.now) c.loop-rest.entered c.split_line.result.0.now
    (lines c.split_line.result.1.now) first c.args.program.memory _ c.loop-rest.invariant.so_far _ e

pub returns-in-Err-clause-memory_last : goal.returns-in-Err-clause-memory_last
returns-in-Err-clause-memory_last c other_fault =
    let first = left (goal.at.returns-in-Err-clause-memory_last c).After-split_line in
    let e = c.in-Err.ensures.memory_last other_fault in
    let ok = rw c.loop-rest.invariant.memory at e.1 in (
      e.0,
      acceptable (lines c.args.text.now) c.loop-rest.entered c.split_line.result.0.now
          (lines c.split_line.result.1.now) first c.args.program.memory _ c.loop-rest.invariant.so_far ok,
    )

pub returns-in-Err-clause-memory_line : goal.returns-in-Err-clause-memory_line
returns-in-Err-clause-memory_line c memory_fault =
    let first = left (goal.at.returns-in-Err-clause-memory_line c).After-split_line in
    has_text (lines c.args.text.now) c.loop-rest.entered c.split_line.result.0.now
    (lines c.split_line.result.1.now) first (c.in-Err.ensures.memory_text (ap Err memory_fault))

pub loop-rest-preserved : goal.loop-rest-preserved
loop-rest-preserved c =
    let first = left (goal.at.loop-rest-preserved c).After-split_line in
    let e = rw c.loop-rest.invariant.memory at c.in_default.ensures.ok in
    let all = lines c.args.text.now in
    record {
      memory = c.in_default.ensures.memory ∙ c.loop-rest.invariant.memory;
      so_far =
          accepted all c.loop-rest.entered c.split_line.result.0.now
          (lines c.split_line.result.1.now) first c.args.program.memory _ c.loop-rest.invariant.so_far _ e;
      others = drop_next all c.loop-rest.entered c.split_line.result.0.now (lines c.split_line.result.1.now) first;
      count = omega (arith, c.split_line.ensures.shorter, c.loop-rest.invariant.count);
    }

pub returns-clause-ok : goal.returns-clause-ok
returns-clause-ok c =
    let none = no_bytes c.loop-rest.rest.now _ c.is_empty.ensures c.loop-rest-test.false in
    all_accepted (lines c.args.text.now) c.loop-rest.entered c.args.program.memory _
    (ap lines (sym none) ∙ c.loop-rest.invariant.others) c.loop-rest.invariant.so_far
