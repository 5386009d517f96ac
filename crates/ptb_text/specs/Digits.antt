-- This file defines blanks and digits, and the numbers that digits write.
-- Main definition: `digits_value`.
--     is_blank b, is_digit b      what a byte is
--     digits_value digits         the number that digits write
--     number_limit                the greatest number that a text can write
use Rattle.std.specs.Prelude.{ℕ, ◌+◌, ◌*◌, ◌-◌, Bool, ◌&&◌, ◌==◌, nat_le, List, fold}

abbrev pub is_blank : ℕ → Bool
is_blank b = b == 32

abbrev pub is_digit : ℕ → Bool
is_digit b = nat_le 48 b && nat_le b 57

abbrev pub digits_value : List ℕ → ℕ
digits_value digits = fold (λ n d. n * 10 + (d - 48)) 0 digits

abbrev pub number_limit : ℕ
number_limit = 32767
