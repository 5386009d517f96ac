-- This file answers what is left to prove of the public call that evaluates an expression.
use Rattle.std.proofs.Common.{rules, ◌≡◌, ◌∙◌, ap, refl, to_z, of_z, w16}
use Rattle.ptb_expr.specs.ReadTrees.{ReadsWhole}
use Rattle.ptb_expr.specs.Builders.{MakesValue}
use Rattle.ptb_expr.specs.Spells.{Expr}
use Rattle.ptb_expr.specs.Reading.{Whole, item_of, expression}
use Rattle.ptb_expr.specs.Value.{value}
use Rattle.ptb_expr.proofs.CodedTrees.{is_whole}
use Rattle.ptb_expr.proofs.PlainSteps.{evaluates_plain}
use Rattle.ptb_expr.proofs.evaluator.evaluate.Goals as goal
use Rattle.ptb_expr.proofs.evaluator.evaluate.Given as given

-- ---- a number alone

pub returns-in-Some-clause-value : goal.returns-in-Some-clause-value
unfolding value
returns-in-Some-clause-value g c =
    let t = c.args.cursor.now.text in
    let i = c.args.cursor.now.place in
    let is = c.spelling_laws.ensures.unique t Expr i _ _ (c.spelling_laws.ensures.expression_spelled t i)
    c.in-Some.ensures.spelled in
    let same_value : to_z w16 (of_z w16 c.in-Some.value) ≡ c.in-Some.value = search rules in
    rw same_value (evaluates_plain _ _ _ _ (ap (λ r. value c.args.store.now (item_of r)) is))

pub returns-in-Some-clause-ahead : goal.returns-in-Some-clause-ahead
returns-in-Some-clause-ahead g c =
    let t = c.args.cursor.now.text in
    let i = c.args.cursor.now.place in
    c.spelling_laws.ensures.expression_ahead t i _ _ (c.spelling_laws.ensures.unique t Expr i _ _
    (c.spelling_laws.ensures.expression_spelled t i) c.in-Some.ensures.spelled)

-- ---- an expression that is evaluated while it is read

made : (g : given.Over) (c : goal.After-new-in-Some-read_expr_at g)
    → ReadsWhole c.args.cursor.now.text Expr c.args.cursor.now.place c.in-Some-read_expr_at.end
    (MakesValue c.args.store.now c.read_expr_at.new.builder c.in-Some-read_expr_at.value)
made g c = rw (c.place-place.ensures ∙ c.in_default.ensures.absent refl, c.new.ensures) at
    (c.in-Some-read_expr_at.ensures.reads c.args.cursor.now.text (c.text-text.ensures ∙ c.in_default.ensures.text))

there : (g : given.Over) (c : goal.After-new-in-Some-read_expr_at g)
    → expression c.args.cursor.now.text c.args.cursor.now.place ≡ Whole (made g c).tree c.in-Some-read_expr_at.end
there g c =
    let t = c.args.cursor.now.text in
    let i = c.args.cursor.now.place in
    c.spelling_laws.ensures.unique t Expr i _ _ (c.spelling_laws.ensures.expression_spelled t i) (made g c).spelled

pub returns-in-Some-read_expr_at-clause-value : goal.returns-in-Some-read_expr_at-clause-value
returns-in-Some-read_expr_at-clause-value g c =
    let same_value : to_z w16 (of_z w16 c.in-Some-read_expr_at.value) ≡ c.in-Some-read_expr_at.value = search rules in
    rw same_value (evaluates_plain _ _ _ _
    (ap (λ r. value c.args.store.now (item_of r)) (there g c) ∙ (made g c).holds.is))

pub returns-in-Some-read_expr_at-clause-whole : goal.returns-in-Some-read_expr_at-clause-whole
returns-in-Some-read_expr_at-clause-whole g c =
    rw (c.new-in-Some-read_expr_at.ensures, c.from.ensures) (is_whole _ _ _ (there g c))

pub returns-in-Some-read_expr_at-clause-ahead : goal.returns-in-Some-read_expr_at-clause-ahead
returns-in-Some-read_expr_at-clause-ahead g c =
    rw (c.new-in-Some-read_expr_at.ensures, c.from.ensures)
    (c.spelling_laws.ensures.expression_ahead _ _ _ _ (there g c))
