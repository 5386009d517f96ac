-- This file answers what is left to prove of `Program::enter`.
use Rattle.std.proofs.Common.{rules, ◌≤◌, length}
use Rattle.ptb_text.specs.EnteredLines.{IsNumbered}
use Rattle.ptb_text.proofs.LineParts.{found_is, line_refused, line_statement, line_stored}
use Rattle.ptb_text.proofs.program.Program.enter.Goals as goal

-- its number is wrong, or it has none
pub returns-in_err-line : goal.returns-in_err-line
returns-in_err-line c =
    let told = line_refused c.args.line.now c.args.self.now c.from_residual.result c.in_err-line.field-0.0
    c.from_residual.ensures.1 c.in_err-line.ensures in
    let enters = told.enters in
    record {
      ok = enters.ok;
      refused = enters.refused;
      memory_last = enters.memory_last;
      memory_text = told.memory_text;
      err = enters.err;
      memory = enters.memory;
    }

pub returns-then-is_empty-clause-ok : goal.returns-then-is_empty-clause-ok
returns-then-is_empty-clause-ok c = search rules fits 50 depth 2

pub store_text-requires : goal.store_text-requires
store_text-requires c =
    let short : length c.in-Some.line.text.now ≤ 255 = search rules in
    let numbered = found_is _ (λ l. IsNumbered c.args.line.now l.number l.text.now) c.in_ok-line.field-0 c.in-Some.line
    c.in_ok-line.ensures c.in-Some.is in
    line_statement c.args.line.now c.args.self.now c.in-Some.line.number c.in-Some.line.text.now numbered
    c.is_empty.result c.is_empty.ensures c.if-is_empty.false short

-- its text is stored
pub returns : goal.returns
returns c =
    let short : length c.in-Some.line.text.now ≤ 255 = search rules in
    let numbered = found_is _ (λ l. IsNumbered c.args.line.now l.number l.text.now) c.in_ok-line.field-0 c.in-Some.line
    c.in_ok-line.ensures c.in-Some.is in
    let told =
    line_stored c.args.line.now c.args.self.now c.in-Some.line.number c.in-Some.line.text.now numbered c.is_empty.result
    c.is_empty.ensures c.if-is_empty.false short
    c.store_text.new.self c.store_text.result c.store_text.ensures
    in
    record {
      ok = told.enters.ok;
      refused = told.enters.refused;
      memory_last = told.enters.memory_last;
      memory_text = told.memory_text;
      err = told.enters.err;
      memory = told.enters.memory;
    }
