-- This file proves that equal fractions have the same lowest terms, and that these are a fraction.
-- Main lemma: `lowest_same`.
use Rattle.std.proofs.Common.{◌≡◌, ℕ, zero, suc, ◌*◌, ◌/◌, ◌<◌, sym, ap, arith}
use Rattle.std.proofs.Math.Nat.{pos_of_dvd_of_pos, mul-div_cancel'}
use Rattle.ptb_numbers.specs.Fractions.{Ratio, Equals, IsLowest, gcd, lowest}
use Rattle.ptb_numbers.proofs.PublicLemmas.{coprime_quotients, gcd_is, lowest_is}
use Rattle.ptb_chances.proofs.Sums.{equals_then}

-- a factor of a number above 0 is above 0
factor_positive : (d g q : ℕ) → d ≡ g * q → 0 < d → 0 < q
factor_positive d g zero is some = absurd (omega (arith, is, some))
factor_positive d g (suc q) is some = omega arith

module _ (f : Ratio) (some : 0 < f.denominator) where
  upper : f.numerator ≡ gcd f.numerator f.denominator * (f.numerator / gcd f.numerator f.denominator)
  upper = sym (mul-div_cancel' (gcd f.numerator f.denominator) ((gcd_is f.numerator f.denominator).0))

  lower : f.denominator ≡ gcd f.numerator f.denominator * (f.denominator / gcd f.numerator f.denominator)
  lower = sym (mul-div_cancel' (gcd f.numerator f.denominator) ((gcd_is f.numerator f.denominator).1))

  pub lowest_low : IsLowest (lowest f)
  lowest_low =
      coprime_quotients f.numerator f.denominator (gcd f.numerator f.denominator)
      (f.numerator / gcd f.numerator f.denominator) (f.denominator / gcd f.numerator f.denominator)
      (gcd_is f.numerator f.denominator) (pos_of_dvd_of_pos ((gcd_is f.numerator f.denominator).1) some) upper lower

  pub lowest_positive : 0 < (lowest f).denominator
  lowest_positive = factor_positive f.denominator (gcd f.numerator f.denominator)
      (f.denominator / gcd f.numerator f.denominator) lower some

  pub lowest_equal : Equals (lowest f) f
  lowest_equal =
      let first : (f.numerator / gcd f.numerator f.denominator) * f.denominator ≡ (f.numerator / gcd f.numerator
      f.denominator) * (gcd f.numerator f.denominator * (f.denominator / gcd f.numerator f.denominator)) =
      ap (λ n. (f.numerator / gcd f.numerator f.denominator) * n) lower in
      let second : f.numerator * (f.denominator / gcd f.numerator f.denominator) ≡ (gcd f.numerator f.denominator
      * (f.numerator / gcd f.numerator f.denominator)) * (f.denominator / gcd f.numerator f.denominator) =
      ap (λ n. n * (f.denominator / gcd f.numerator f.denominator)) upper in
      let goal : (f.numerator / gcd f.numerator f.denominator) * f.denominator
      ≡ f.numerator * (f.denominator / gcd f.numerator f.denominator) = omega (arith, first, second) in
      goal

pub lowest_same : (f g : Ratio) → 0 < f.denominator → 0 < g.denominator → Equals f g → lowest f ≡ lowest g
lowest_same f g first second same =
    lowest_is g (lowest f) second (lowest_low f first) (equals_then (lowest f) f g first (lowest_equal f first) same)
