-- This file defines how mistakes are written.
-- Main definition: `WritesMistakes`.
--     texts due                      the texts of mistakes, one after the other
--     has_any due                    there is one
--     WritesMistakes due old new result    these mistakes were written, or a prefix of their texts where the writer
--                                          failed
use Rattle.std.specs.Prelude.{◌≡◌, ℕ, Bool, true, false, List, [], ◌∷◌, flat_map, Option, Result, IfOk, OnErr, OnOk}
use Rattle.std.specs.Io.KnownBytes.{Appends}
use Rattle.ptb_text.specs.Device.{TakesSome}
use Rattle.ptb_text.specs.declared.device_fault.DeviceFault.{DeviceFault}
use Rattle.ptb_check.specs.Mistakes.{Mistake, mistake_text}

abbrev pub texts : List Mistake → List ℕ
texts due = flat_map mistake_text due

abbrev pub has_any : List Mistake → Bool
has_any [] = false
has_any (mistake ∷ others) = true

-- the writer took `old` before, and `new` after
pub record WritesMistakes (due : List Mistake) (old new : Option (List ℕ))
    (result : Result Bool DeviceFault) : Type 0 where
  -- all of them were written; `any` is whether there is one
  pub ok : OnOk result (Appends old new (texts due))
  pub any : IfOk result (λ any. any ≡ has_any due)
  -- the writer failed
  pub fault : OnErr result (TakesSome old new (texts due))
