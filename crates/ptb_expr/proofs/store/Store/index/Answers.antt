-- This file answers what is left to prove of an index of the array.
use Rattle.std.proofs.Common.{◌≡◌, ◌<◌, Ok, of_z, w16, arith, ap, sym, ◌∙◌}
use Rattle.std.proofs.lemmas.Int.{to_z-of_z}
use Rattle.ptb_expr.specs.Store.{index_of}
use Rattle.ptb_expr.proofs.Indices.{index_within}
use Rattle.ptb_expr.proofs.store.Store.index.Goals as goal

pub returns-then-from-len : goal.returns-then-from-len
returns-then-from-len c =
    let bits : c.cast_unsigned.result ≡ of_z w16 c.args.index =
    c.cast_unsigned.ensures ∙ ap (of_z w16) (to_z-of_z w16 c.args.index c.ranges.index) in
    let below : of_z w16 c.args.index < c.self.inside.elements.len =
    omega (arith, c.if-from-len.true, c.len.ensures, c.from.ensures, bits) in
    let is : index_of c.self.inside.size c.args.index ≡ Ok c.args.index =
    index_within _ _ _ c.ranges.index c.self.invariant.1 c.self.invariant.5 c.self.invariant.2 below in
    ap Ok (to_z-of_z w16 c.args.index c.ranges.index) ∙ sym is ∙ ap (λ v. index_of v.size c.args.index) c.self.view_is
