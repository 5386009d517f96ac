-- This file proves laws of sums of fractions.
-- Main lemmas: `plus_comm` and `plus_assoc`.
use Rattle.std.proofs.Common.{◌≡◌, ℕ, ◌+◌, ◌*◌, ◌<◌, refl, ap, sym, ◌∙◌, arith}
use Rattle.std.proofs.Math.Nat.{eq_of_mul-eq-mul_right}
use Rattle.std.proofs.lemmas.Nat.{mul-le}
use Rattle.ptb_numbers.specs.Fractions.{Ratio, plus, Equals}

pub parts_same : (p q a b : ℕ) → p ≡ a → q ≡ b
    → ◌≡◌ {A = Ratio} (record { numerator = p; denominator = q }) (record { numerator = a; denominator = b })
parts_same p q a b first second = rw (first, second) refl

abbrev pub nothing : Ratio
nothing = record { numerator = 0; denominator = 1 }

pub plus_nothing : (f : Ratio) → plus f nothing ≡ f
plus_nothing f = parts_same (f.numerator * 1 + 0 * f.denominator) (f.denominator * 1) f.numerator f.denominator
    (omega arith) (omega arith)

pub plus_comm : (f g : Ratio) → plus f g ≡ plus g f
plus_comm f g = parts_same _ _ _ _
    (let left : f.numerator * g.denominator + g.numerator * f.denominator
    ≡ g.numerator * f.denominator + f.numerator * g.denominator = omega arith in left)
    (let right : f.denominator * g.denominator ≡ g.denominator * f.denominator = omega arith in right)

pub plus_assoc : (f g h : Ratio) → plus (plus f g) h ≡ plus f (plus g h)
plus_assoc f g h = parts_same _ _ _ _
    (let left : (f.numerator * g.denominator + g.numerator * f.denominator) * h.denominator + h.numerator
    * (f.denominator * g.denominator)
    ≡ f.numerator * (g.denominator * h.denominator) + (g.numerator * h.denominator + h.numerator * g.denominator)
    * f.denominator = omega arith in left)
    (let right : f.denominator * g.denominator * h.denominator
    ≡ f.denominator * (g.denominator * h.denominator) = omega arith in right)

pub plus_turn : (f g h : Ratio) → plus f (plus g h) ≡ plus g (plus f h)
plus_turn f g h = sym (plus_assoc f g h) ∙ ap (λ (k : Ratio). plus k h) (plus_comm f g) ∙ plus_assoc g f h

pub equals_plus : (f g h k : Ratio) → Equals f g → Equals h k → Equals (plus f h) (plus g k)
equals_plus f g h k first second = omega (
  arith,
  ap (λ n. n * (h.denominator * k.denominator)) first,
  ap (λ n. n * (f.denominator * g.denominator)) second,
)

pub equals_then : (f g h : Ratio) → 0 < g.denominator → Equals f g → Equals g h → Equals f h
equals_then f g h some first second =
    let both : f.numerator * h.denominator * g.denominator ≡ h.numerator * f.denominator * g.denominator =
    omega (arith, ap (λ n. n * h.denominator) first, ap (λ n. n * f.denominator) second) in
    eq_of_mul-eq-mul_right g.denominator some (f.numerator * h.denominator) (h.numerator * f.denominator) both

pub plus_positive : (f g : Ratio) → 0 < f.denominator → 0 < g.denominator → 0 < (plus f g).denominator
plus_positive f g first second = mul-le 1 1 f.denominator g.denominator first second
