-- This file answers that a product is what its operation gives.
use Rattle.std.proofs.Common.{rules, ◌≡◌, ◌*ℤ◌, to_z, of_z, FitsSigned, w16, w32}
use Rattle.std.proofs.lemmas.Int.{to_z-of_z, fits_signed_mul}
use Rattle.ptb_expr.proofs.operator.multiply.Goals as goal

pub returns : goal.returns
returns c =
    let left : to_z w16 (of_z w16 c.args.left) ≡ c.args.left = search rules in
    let right : to_z w16 (of_z w16 c.args.right) ≡ c.args.right = search rules in
    let wide_left : to_z w32 (of_z w32 c.args.left) ≡ c.args.left = search rules in
    let wide_right : to_z w32 (of_z w32 c.args.right) ≡ c.args.right = search rules in
    let fits : FitsSigned w32 (c.args.left *ℤ c.args.right) =
    fits_signed_mul w32 c.args.left c.args.right 32768 32768 (search rules) (search rules) (search rules) in
    let product : to_z w32 (of_z w32 (c.args.left *ℤ c.args.right)) ≡ c.args.left *ℤ c.args.right =
    to_z-of_z w32 _ fits in
    record {
      value = rw (left, right, wide_left, wide_right, product) at c.in_range.ensures.value;
      none = rw (left, right, wide_left, wide_right, product) at c.in_range.ensures.none;
    }
