-- This file answers that an expression is evaluated by its steps.
use Rattle.std.proofs.Common.{◌∙◌, refl, ap, arith, length}
use Rattle.ptb_expr.specs.Spells.{Expr}
use Rattle.ptb_expr.specs.Reading.{item_of, expression}
use Rattle.ptb_expr.proofs.CodedTrees.{coded, worked_out, is_whole_then}
use Rattle.ptb_expr.proofs.Evaluation.{where_whole, where_faulty}
use Rattle.ptb_expr.proofs.evaluator.evaluate_steps.Goals as goal

pub returns-clause-evaluated : goal.returns-clause-evaluated
returns-clause-evaluated g c =
    let t = c.args.text.now in
    let i = c.args.place in
    let same = ap (λ s. s.text) c.new-cursor.ensures in
    let place = ap (λ s. s.place) c.new-cursor.ensures in
    let spelled = c.spelling_laws.ensures.expression_spelled t i in
    let code = coded c.spelling_laws.ensures t Expr i c.read_expr_steps.new.cursor.place
    (expression t i) c.read_expr_steps.new.steps c.read_expr_steps.result spelled
    (λ some. rw (c.new-steps.ensures, place) at (c.read_expr_steps.ensures.reads some t same))
    (λ none. rw (c.new-steps.ensures, place) at (c.read_expr_steps.ensures.fails none t same)) in
    let value = worked_out _ _ _ _ _ _ _ _ code c.run_room.ensures in
    let whole = is_whole_then _ _ _ _ _ _ _ _ code c.run_room.ensures in rw c.place.ensures (record {
      text = refl;
      value = value;
      spelled = spelled;
      whole = whole;
      ahead = where_whole (expression t i) _ _ _ whole (c.spelling_laws.ensures.expression_ahead t i _);
      left = omega (
        arith,
        c.read_expr_steps.ensures.left,
        place,
        ap length (c.read_expr_steps.ensures.text ∙ same),
        ap length same,
      );
      mark = λ low. where_faulty _ t _ _ _ _ value (λ a rest e. c.mark_laws.ensures.value_faults _ c.args.store.now
          (item_of (expression t i)) a rest e (c.mark_laws.ensures.expression_marks t i low));
    })
