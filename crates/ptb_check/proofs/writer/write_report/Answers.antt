-- This file answers that the parts that are written are the report.
use Rattle.std.proofs.Common.{◌≡◌, ◌∙◌, ap, sym, inl, inr, arith, refl, ℕ, List, ◌++◌, take}
use Rattle.std.proofs.Common.{drop, length, codes, decimal, true}
use Rattle.std.specs.Prelude.{min}
use Rattle.std.proofs.lemmas.Bool.{cases_lt}
use Rattle.std.proofs.lemmas.List.{take_all, drop_all}
use Rattle.ptb_expr.specs.declared.fault.Fault.{Fault}
use Rattle.ptb_text.proofs.PublicLemmas.{text_same}
use Rattle.ptb_command.specs.Act.{newline, report_bytes, fault_word}
use Rattle.ptb_check.proofs.writer.write_report.Goals as goal
use Rattle.ptb_check.proofs.writer.write_report.Goals.{After-write_parts}

same_before : (k m : ℕ) (t : List ℕ) → m ≡ min k (length t) → take m t ≡ take k t
same_before k m t is = elim (cases_lt k (length t)) [
  | inl lt ↦ let same : m ≡ k = omega arith in ap (λ (i : ℕ). take i t) same
  | inr ge ↦ take_all m t (omega arith) ∙ sym (take_all k t ge)
]

same_after : (k m : ℕ) (t : List ℕ) → m ≡ min k (length t) → drop m t ≡ drop k t
same_after k m t is = elim (cases_lt k (length t)) [
  | inl lt ↦ let same : m ≡ k = omega arith in ap (λ (i : ℕ). drop i t) same
  | inr ge ↦ drop_all m t (omega arith) ∙ sym (drop_all k t ge)
]

in_parts : (word digits before after text : List ℕ) (n m : ℕ) (f : Fault) → word ≡ fault_word f.kind ++ newline
    → digits ≡ decimal n → before ≡ take m text → after ≡ drop m text → m ≡ min f.mark (length text)
    → word ++ digits ++ codes " " ++ before ++ codes "?" ++ after ++ newline ≡ report_bytes true n text f
in_parts word digits before after text n m f is count front rest at =
    let first : before ≡ take f.mark text = front ∙ same_before f.mark m text at in
    let last : after ≡ drop f.mark text = rest ∙ same_after f.mark m text at in
    rw (is, count, first, last) refl

-- the parts that are written are the report of the statement
parts_are : (g : _) (c : After-write_parts g)
    → c.fault_line-word.result.now ++ c.as_bytes-number.result.now ++ codes " " ++ c.split_at.result.0.now ++ codes "?"
    ++ c.split_at.result.1.now ++ newline ≡ report_bytes true c.args.number c.args.text.now c.args.fault
parts_are g c = in_parts _ _ _ _ c.args.text.now c.args.number c.min-mark.result c.args.fault
    c.fault_line-word.ensures (c.as_bytes-number.ensures.value ∙ c.format.ensures.text)
    c.split_at.ensures.front c.split_at.ensures.back c.min-mark.ensures

pub returns : goal.returns
returns g c =
    text_same _ _ _ c.write_parts.result (parts_are g (goal.at.returns g c).After-write_parts) c.write_parts.ensures
