-- This file proves that one comparison shows whether an index is within the array.
-- Main lemma: `index_within`.
use Rattle.std.proofs.Common.{◌≡◌, ◌<◌, ◌+◌, ◌/◌, ℕ, ℤ, pos, negsuc, ◌≤ℤ◌, Ok, unsigned_abs}
use Rattle.std.proofs.Common.{FitsSigned, w16, of_z, arith}
use Rattle.std.proofs.lemmas.Grind.{common_steps}
use Rattle.std.proofs.lemmas.Int.{ints}
use Rattle.ptb_expr.specs.Store.{index_of}

-- an index that is below the length of the array as an unsigned number
pub index_within : (size i : ℤ) (len : ℕ) → FitsSigned w16 i → pos 0 ≤ℤ size → size ≤ℤ pos 32767
    → len ≡ unsigned_abs size / 2 + 1
    → of_z w16 i < len → index_of size i ≡ Ok i
index_within (pos s) (pos n) len fits a b is below = grind (arith, is, below, common_steps)
index_within (pos s) (negsuc n) len fits a b is below = absurd (omega (arith, fits.sfits, ints, b, is, below))
index_within (negsuc s) i len fits a b is below = absurd (omega (arith, ints, a))
