-- This file defines what a program can store: the variables A to Z and the array @.
-- Main definition: `Cells`.
--     Cells                                              the values of the variables and the elements, and SIZE
--     value_at c letter, with_value c letter v           the value of a variable
--     index_of size i                                    the index i of the array, if there is such an element
--     element_of c i, with_element c i v                 the element there
--     empty_cells size                                   all of them 0
use Rattle.std.specs.Prelude.{ℕ, ◌+◌, ◌-◌, ◌/◌, List, ℤ, pos, ◌*ℤ◌, Result, Ok, Err, if◌then◌else◌}
use Rattle.std.specs.Prelude.{int_lt, slice_index_or, slice_set, unsigned_abs, replicate, ◌≡◌, drop}
use Rattle.std.specs.Prelude.{length}
use Rattle.ptb_expr.specs.declared.fault.FaultKind.{FaultKind}
use Rattle.ptb_expr.specs.declared.fault.FaultKind.TheVariants.{How, Sorry}

-- SIZE, the values of A to Z, and the elements of @ from index 0 on
pub record Cells : Type 0 where
  pub size : ℤ
  pub values : List ℤ
  pub elements : List ℤ

abbrev pub value_at : Cells → ℕ → ℤ
value_at c letter = slice_index_or c.values (letter - 65) (pos 0)

abbrev pub with_value : Cells → ℕ → ℤ → Cells
with_value c letter v = record c { values = slice_set c.values (letter - 65) v }

-- an index goes from 0 to half of SIZE: below it is HOW?, above it is SORRY
abbrev pub index_of : ℤ → ℤ → Result ℤ FaultKind
index_of size i = if int_lt i (pos 0) then Err How else if int_lt size (i *ℤ pos 2) then Err Sorry else Ok i

-- a result with another value
abbrev pub map_ok : {A B E : Type 0} → (A → B) → Result A E → Result B E
map_ok f (Ok x) = Ok (f x)
map_ok f (Err e) = Err e

abbrev pub element_of : Cells → ℤ → Result ℤ FaultKind
element_of c i = map_ok (λ k. slice_index_or c.elements (unsigned_abs k) (pos 0)) (index_of c.size i)

abbrev pub with_element : Cells → ℤ → ℤ → Cells
with_element c i v = record c { elements = slice_set c.elements (unsigned_abs i) v }

abbrev pub empty_cells : ℤ → Cells
empty_cells size = record {
  size = size;
  values = replicate 26 (pos 0);
  elements = replicate (unsigned_abs size / 2 + 1) (pos 0);
}

-- all values after the first n are 0
abbrev pub IsZeroFrom : ℕ → List ℤ → Type 0
IsZeroFrom n values = drop n values ≡ replicate (length values - n) (pos 0)
