-- This file answers what is known of the request that the arguments make, or of why there is none.
use Rattle.std.proofs.Common.{◌∙◌, ap, sym}
use Rattle.ptb_options.specs.Options.{Options}
use Rattle.ptb_options.proofs.Decisions.{asked, decided_clash, decided_list, decided_misspelled}
use Rattle.ptb_options.proofs.KeptLists.{list_found, no_list_found}
use Rattle.ptb_options.proofs.decision.decide.Goals as goal

-- the options clash
pub returns-in-Some : goal.returns-in-Some
returns-in-Some c =
    let told = decided_clash _ c.of-line.result c.of-line.ensures c.clash.result c.in-Some.fault c.clash.ensures
    c.in-Some.is in
    record { ok = told.ok; fault = told.fault }

-- they don't
pub rules-requires : goal.rules-requires
rules-requires c = rw c.of-line.ensures c.requires.bound

pub mode-requires-clause-clash : goal.mode-requires-clause-clash
mode-requires-clause-clash c = sym c.clash.ensures ∙ c.in_default.is

pub mode-requires-clause-spelled : goal.mode-requires-clause-spelled
mode-requires-clause-spelled c =
    c.misspelled.ensures.none (no_list_found c.misspelled.result c.is_some.result c.is_some.ensures c.if-is_some.false)

-- a list is misspelled
pub returns-then-is_some : goal.returns-then-is_some
returns-then-is_some c =
    let found = list_found c.misspelled.result c.is_some.result c.is_some.ensures c.if-is_some.true in
    let told = decided_misspelled _ c.of-line.result c.of-line.ensures c.clash.result c.clash.ensures c.in_default.is
    found.0 (rw found.1 at c.misspelled.ensures.some) in
    record { ok = told.ok; fault = told.fault }

pub returns-in_err-mode : goal.returns-in_err-mode
returns-in_err-mode c =
    let told = decided_list _ c.of-line.result c.of-line.ensures c.clash.result c.clash.ensures c.in_default.is
    c.requires.memory c.requires.bound c.from_residual.result c.in_err-mode.field-0.0 c.from_residual.ensures.1
    c.in_err-mode.ensures.fault in
    record { ok = told.ok; fault = told.fault }

pub returns : goal.returns
returns c =
    let kept = ap (λ (o : Options). o.memory) c.line.view_is in
    record {
      ok = asked _ c.of-line.result c.of-line.ensures c.clash.result c.clash.ensures c.in_default.is
          c.line.inside.memory c.rules.result c.unwrap_or.result c.in_ok-mode.field-0 _ kept c.rules.ensures
          c.unwrap_or.ensures c.in_ok-mode.ensures.ok;
      fault = tt;
    }
