-- This file answers what is left to prove of an expression at a place of a text.
use Rattle.std.proofs.Common.{◌∙◌, ap, refl}
use Rattle.ptb_expr.specs.Operators.{comparison}
use Rattle.ptb_expr.proofs.Parts.{at_text}
use Rattle.ptb_expr.proofs.ReadParts.{sum_alone, sum_fails, comparison_read, comparison_fails}
use Rattle.ptb_expr.proofs.reader.read_expr_at.Goals as goal

pub returns-in_err-sum-clause-fails : goal.returns-in_err-sum-clause-fails
returns-in_err-sum-clause-fails g c = λ none able t same. sum_fails t _ _
    (rw (ap (λ s. s.place) c.new-cursor.ensures) at
    (c.in_err-sum.ensures.fails refl able t (ap (λ s. s.text) c.new-cursor.ensures ∙ same)))

pub returns-in_default-clause-reads : goal.returns-in_default-clause-reads
returns-in_default-clause-reads g c = λ t same.
    let text = ap (λ s. s.text) c.new-cursor.ensures ∙ same in
    let x = rw (ap (λ s. s.place) c.new-cursor.ensures) at (c.in_ok-sum.ensures.reads t text) in
    rw (c.mark.ensures, c.in_default.ensures.absent refl) (sum_alone t _ _ _ x
    (at_text (λ u. comparison u c.read_sum.new.cursor.place) (c.in_ok-sum.ensures.text ∙ text)
    c.in_default.ensures.value))

pub returns-in_err-right-clause-fails : goal.returns-in_err-right-clause-fails
returns-in_err-right-clause-fails g c = λ none able t same.
    let text = ap (λ s. s.text) c.new-cursor.ensures ∙ same in
    let x = rw (ap (λ s. s.place) c.new-cursor.ensures) at (c.in_ok-sum.ensures.reads t text) in
    let sum = c.in_ok-sum.ensures.text ∙ text in
    comparison_fails t _ _ _ x _ _ _ _
    (at_text (λ u. comparison u c.read_sum.new.cursor.place) sum c.in-Some.ensures.value)
    (c.in_err-right.ensures.fails refl able t (c.in-Some.ensures.text ∙ sum))
    (λ x y made spoilt. c.malformed_laws.ensures.right _ _ _ _ _ x y _ (c.keep-left.ensures.kept _ x made) spoilt)

pub returns-clause-reads : goal.returns-clause-reads
returns-clause-reads g c = λ t same.
    let text = ap (λ s. s.text) c.new-cursor.ensures ∙ same in
    let x = rw (ap (λ s. s.place) c.new-cursor.ensures) at (c.in_ok-sum.ensures.reads t text) in
    let sum = c.in_ok-sum.ensures.text ∙ text in
    rw c.mark-end.ensures (comparison_read t _ _ _ x _ _ _ _
    (at_text (λ u. comparison u c.read_sum.new.cursor.place) sum c.in-Some.ensures.value) _
    (c.in_ok-right.ensures.reads t (c.in-Some.ensures.text ∙ sum))
    (λ x y made next. rw c.mark-end.ensures at
    (c.in_ok-made.ensures.made _ _ x y (c.keep-left.ensures.kept _ x made) next)))
