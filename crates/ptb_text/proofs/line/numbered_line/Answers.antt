-- This file answers what is left to prove of `numbered_line`.
use Rattle.std.proofs.Common.{rules, arith, ◌∙◌, sym, ap, length, drop, ◌-◌}
use Rattle.std.specs.Prelude.{unsigned_abs}
use Rattle.std.proofs.lemmas.List.{take_all, length-drop}
use Rattle.std.proofs.lemmas.Int.{to_z-of_z}
use mir.Syntax.{w16}
use Rattle.ptb_text.proofs.LineParts.{found, in_front, in_front-trim_start, some_in_front}
use Rattle.ptb_text.proofs.LineParts.{number_too_big, number_absent, number_value}
use Rattle.ptb_text.proofs.LineParts.{after_blanks, after_no_number, after_too_big, after_number}
use Rattle.ptb_text.proofs.line.numbered_line.Goals as goal

pub returns-then-is_all_blank : goal.returns-then-is_all_blank
returns-then-is_all_blank c =
    after_blanks c.args.line.now (sym c.in_default.ensures.value)
    (sym c.is_all_blank.ensures ∙ c.if-is_all_blank.true)

pub returns-in-TooBig : goal.returns-in-TooBig
returns-in-TooBig c =
    after_too_big c.args.line.now (sym c.in_default.ensures.value)
    (sym c.is_all_blank.ensures ∙ c.if-is_all_blank.false)
    (number_too_big c.args.line.now _ (found _ _ _ _ c.number_in_front-number.ensures.value c.in-TooBig.is))

pub returns-in-Absent : goal.returns-in-Absent
returns-in-Absent c =
    after_no_number c.args.line.now (sym c.in_default.ensures.value)
    (sym c.is_all_blank.ensures ∙ c.if-is_all_blank.false)
    (number_absent c.args.line.now _ (found _ _ _ _ c.number_in_front-number.ensures.value c.in-Absent.is))

pub returns-then-number-eq0 : goal.returns-then-number-eq0
returns-then-number-eq0 c =
    let line = c.args.line.now in
    let here = found _ _ _ _ c.number_in_front-number.ensures.value c.in-Value.is in
    let parts = number_value line _ _ here in
    let ev = to_z-of_z w16 c.in-Value.number (search rules) in
    let is = c.unsigned_abs-number.ensures.value ∙ ap unsigned_abs (ev ∙ sym parts.value) in
    after_no_number line (sym c.in_default.ensures.value) (sym c.is_all_blank.ensures ∙ c.if-is_all_blank.false)
    (sym is ∙ c.if-number-eq0.true)

pub returns : goal.returns
returns c =
    let line = c.args.line.now in
    let place = c.number_in_front-number.result.1 in
    let here = found _ _ _ _ c.number_in_front-number.ensures.value c.in-Value.is in
    let parts = number_value line _ _ here in
    let ev = to_z-of_z w16 c.in-Value.number (search rules) in
    let is = c.unsigned_abs-number.ensures.value ∙ ap unsigned_abs (ev ∙ sym parts.value) in
    let text = take_all (length line - place) (drop place line) (omega (arith, length-drop place line)) ∙ parts.text in
    rw text (after_number line (in_front line) (sym c.in_default.ensures.value) (in_front-trim_start line) _
    (some_in_front line (sym c.is_all_blank.ensures ∙ c.if-is_all_blank.false)) (sym is) (omega arith)
    (omega (arith, is, parts.high)))
