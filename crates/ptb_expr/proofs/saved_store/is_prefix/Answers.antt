-- This file answers what is left to prove of values that are compared with those in front.
use Rattle.std.proofs.Common.{◌≡◌, ◌-◌, ◌∙◌, length, take, drop, replicate, sym, ap}
use Rattle.std.specs.Prelude.{pos}
use Rattle.std.proofs.lemmas.Bool.{true≢false}
use Rattle.std.proofs.lemmas.Bool.Decides.{Decides-int_eq}
use Rattle.std.proofs.lemmas.List.{length-drop, take_rest}
use Rattle.std.proofs.lemmas.Slice.Eq.{slice_eq-Decides}
use Rattle.ptb_expr.proofs.SavedValues.{same_front, same_rest, same_values}
use Rattle.ptb_expr.proofs.saved_store.is_prefix.Goals as goal

pub returns-then-eq : goal.returns-then-eq
returns-then-eq c = λ n within.
    let xs = c.args.front.now in
    let ys = c.args.values.now in
    let front : take (length xs) ys ≡ xs = (slice_eq-Decides Decides-int_eq _ _ _ c.eq.ensures).0 c.if-eq.true in
    let long : length (drop (length xs) ys) ≡ length ys - length xs = length-drop (length xs) ys in
    let zeros = rw (take_rest ys (length xs)) at c.is_zero.ensures in (
      λ zero. same_values xs ys n c.requires within front (zeros.0 zero ∙ ap (λ k. replicate k (pos 0)) long),
      λ same. zeros.1 (same_rest xs ys n c.requires within same ∙ ap (λ k. replicate k (pos 0)) (sym long)),
    )

pub returns-else-eq : goal.returns-else-eq
returns-else-eq c = λ n within. (
  λ same. absurd (true≢false (sym same ∙ c.if-eq.false)),
  λ same. (slice_eq-Decides Decides-int_eq _ _ _ c.eq.ensures).1
      (same_front c.args.front.now c.args.values.now n c.requires same),
)
