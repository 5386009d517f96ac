-- This file defines which values a saved form of a store represents.
-- Main definition: `with_zeros`.
--     with_zeros n xs     values, and zeros after them, n in all
use Rattle.std.specs.Prelude.{ℕ, ◌-◌, ℤ, pos, List, ◌++◌, length, replicate}

abbrev pub with_zeros : ℕ → List ℤ → List ℤ
with_zeros n values = values ++ replicate (n - length values) (pos 0)
