-- This file proves what becomes of values that are 0 from some place on.
-- Main lemmas: `zeros_stored` and `zeros_copied`.
use Rattle.std.specs.Prelude.{◌≡◌, ◌≤◌, ◌+◌, ◌-◌, ℕ, ℤ, List, pos, length, take, drop, replicate, ◌++◌, slice_set}
use Rattle.std.proofs.Common.{arith}
use Rattle.std.proofs.lemmas.List.{drop-drop, drop-replicate, drop-set-lt, take-append-drop, length-set}
use Rattle.ptb_expr.specs.Store.{IsZeroFrom}

-- they are 0 from each later place on, too
pub zeros_after : (m n : ℕ) (xs : List ℤ) → n ≤ m → IsZeroFrom n xs → drop m xs ≡ replicate (length xs - m) (pos 0)
zeros_after m n xs within zeros =
    let at : n + (m - n) ≡ m = omega (arith, within) in
    let left : length xs - n - (m - n) ≡ length xs - m = omega (arith, within) in
    let following : drop (m - n) (drop n xs) ≡ replicate (length xs - n - (m - n)) (pos 0) =
    rw zeros (drop-replicate (m - n) (length xs - n) (pos 0)) in
    rw (drop-drop (m - n) n xs, at, left) at following

-- a value that is stored before a place leaves what is after it
pub zeros_stored : (m n i : ℕ) (v : ℤ) (xs : List ℤ) → n ≤ m → i + 1 ≤ m → IsZeroFrom n xs
    → IsZeroFrom m (slice_set xs i v)
zeros_stored m n i v xs within before zeros =
    rw (drop-set-lt m xs i v (omega (arith, before)), length-set xs i v) (zeros_after m n xs within zeros)

-- what is in front is all that must be taken over
pub zeros_copied : (m n k : ℕ) (xs ys : List ℤ) → n ≤ m → k ≤ m → IsZeroFrom n xs → IsZeroFrom k ys
    → length xs ≡ length ys
    → take m ys ++ drop m xs ≡ ys
zeros_copied m n k xs ys a b zeros others same =
    rw (zeros_after m n xs a zeros, same) (rw (zeros_after m k ys b others) at (take-append-drop m ys))
