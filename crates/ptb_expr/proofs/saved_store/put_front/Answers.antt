-- This file answers that zeros come after the values that are put in front.
use Rattle.std.proofs.Common.{◌≡◌, ◌≤◌, ◌-◌, ◌∙◌, length, drop, sym, refl, arith}
use Rattle.std.proofs.Math.Nat.{le-max_left, le-max_right}
use Rattle.std.proofs.lemmas.List.{append-nil, take_at}
use Rattle.ptb_expr.proofs.SavedValues.{all_put, front_put, front_zeros}
use Rattle.ptb_expr.proofs.saved_store.put_front.Goals as goal

pub zeros-init : goal.zeros-init
zeros-init c =
    let front = c.args.front.now in
    let old = c.args.values.now in
    let copied : c.copy_from_slice.new.self ≡ front = c.copy_from_slice.ensures.after in
    let used : c.args.used ≤ c.max-end.result = rw c.max-end.ensures (le-max_left _ _) in
    let longer : length front ≤ c.max-end.result = rw c.max-end.ensures (le-max_right _ _) in
    let none : length front - length front ≡ 0 = omega arith in
    rw copied (record {
      same_length = front_put front old c.requires.fits;
      longer = omega arith;
      within = longer;
      fits = omega (arith, c.max-end.ensures, c.requires.fits, c.requires.within);
      zeros = front_zeros front old c.args.used c.max-end.result used longer c.requires.fits c.requires.zeros;
      put = rw none (take_at front (drop (length front) old) (length front) refl ∙ sym (append-nil front));
    })

pub returns : goal.returns
returns c =
    let i = c.zeros.invariant in
    let over : c.zeros.at ≡ c.max-end.result = omega (arith, c.zeros-test.false, i.within) in
    let longer : length c.args.front.now ≤ c.max-end.result = omega (arith, i.longer, i.within) in
    all_put c.args.front.now c.zeros.values c.max-end.result (length c.args.values.now) longer i.fits i.same_length
    (rw over at i.put) i.zeros
