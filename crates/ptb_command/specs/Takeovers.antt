-- This file defines what is promised where something that has variables and an array takes over what another has.
-- Main definition: `TakesOver`.
--     TakesOver old new other cells result    with this result, it has what the other has, or what it had
use Rattle.std.specs.Prelude.{◌≡◌, Result, IsOk, OnOk, OnErr}
use Rattle.std.specs.declared.alloc.AllocError.{AllocError}
use Rattle.ptb_expr.specs.Store.{Cells}

-- `cells` gives what it stores
pub record TakesOver {A : Type 0} (old new other : A) (cells : A → Cells) (result : Result (Unit {0}) AllocError)
    : Type 0 where
  pub ok : OnOk result (new ≡ other)
  -- no memory is taken where both arrays have the same size
  pub same_size : (cells old).size ≡ (cells other).size → IsOk result
  pub err : OnErr result (new ≡ old)
