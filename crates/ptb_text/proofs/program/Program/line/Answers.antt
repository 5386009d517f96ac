-- This file answers what is left to prove of `Program::line`.
use Rattle.std.proofs.Common.{Some, [], sym, ap, ◌∙◌, arith}
use Rattle.std.specs.Option.{option_copied}
use Rattle.std.proofs.lemmas.Int.{ints}
use Rattle.std.proofs.lemmas.Option.{get_or_from_slice_get}
use Rattle.ptb_text.specs.Statements.{text_of_number}
use Rattle.ptb_text.proofs.Numbers.{is_whole, text_of_number-absent, text_of_number-unconverted, IsAt-found, if_none}
use Rattle.ptb_text.proofs.Numbers.{on_none}
use Rattle.ptb_text.proofs.Entries.{text_at-place}
use Rattle.ptb_text.proofs.SoundPrograms.{StatementFacts_at}
use Rattle.ptb_text.proofs.program.Program.line.Goals as goal

-- no statement has a number below 0
pub returns-in_err-number : goal.returns-in_err-number
returns-in_err-number c =
    let none = text_of_number-unconverted c.args.self.now.lines c.try_from.result c.args.number c.ranges.number
    c.try_from.ensures (sym c.ok.ensures.value ∙ c.in_err-number.was) in
    record {
      value = ap option_copied c.from_residual.ensures ∙ sym none;
      number = on_none _ _ c.from_residual.ensures;
      text = if_none _ _ c.from_residual.ensures;
    }

-- none has this number
pub returns-in_err-at : goal.returns-in_err-at
returns-in_err-at c =
    let whole = is_whole c.try_from.result c.args.number c.in_ok-number.number c.ranges.number c.try_from.ensures
    (sym c.ok.ensures.value ∙ c.in_ok-number.was) in
    let none = text_of_number-absent c.args.self.now.lines c.args.number _ c.search.result whole c.search.ensures.absent
    (sym c.ok-2.ensures.value ∙ c.in_err-at.was) in
    let is = c.from_residual-in_err-at.ensures in
    record { value = ap option_copied is ∙ sym none; number = on_none _ _ is; text = if_none _ _ is }

pub statement_at-requires : goal.statement_at-requires
statement_at-requires c = (IsAt-found c.args.self.now.lines _ c.in_ok-at.at c.search.result c.search.ensures.found
    (sym c.ok-2.ensures.value ∙ c.in_ok-at.was)).in_range

-- one has
pub returns : goal.returns
returns c =
    let p = c.args.self.now.lines in
    let whole = is_whole c.try_from.result c.args.number c.in_ok-number.number c.ranges.number c.try_from.ensures
    (sym c.ok.ensures.value ∙ c.in_ok-number.was) in
    let at = IsAt-found p _ c.in_ok-at.at c.search.result c.search.ensures.found
    (sym c.ok-2.ensures.value ∙ c.in_ok-at.was) in
    let read = get_or_from_slice_get p c.in_ok-at.at _ (0, []) c.statement_at.ensures.line in
    let facts = StatementFacts_at p c.search.ensures.sound.is_map _ _ _ at.in_range read in
    record {
      value = ap Some (ap (λ s. s.1) (sym read)) ∙ sym (ap (text_of_number p) whole ∙ text_at-place p _ _ at);
      number = omega (arith, ints, whole, facts.low, at.has_number, ap (λ s. s.0) read);
      text = facts.text;
    }
