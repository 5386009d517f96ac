-- This file defines what a line source gives.
-- Main definition: `Loses`.
--     Loses old new given          known lines begin with those given, and lose them
--     NoneLeft lines               no known line is left
--     given_lines result           the line that a call gave, if it gave one
--     ready_lines line             the line that was at hand, if one was
--     IsSourceFault fault          a source can have this fault
--     LineList                     a list of lines, and how many of them were taken
--     Gives old given new          between two states of such a list, these lines were taken
use Rattle.std.specs.Prelude.{◌≡◌, ℕ, ◌+◌, List, [], ◌∷◌, ◌++◌, length, drop, ⊤, Option, Some, None, Result, Ok, Err}
use Rattle.std.specs.Borrow.{Bor}
use Rattle.ptb_text.specs.declared.device_fault.DeviceFault.{DeviceFault}
use Rattle.ptb_text.specs.declared.device_fault.DeviceFault.TheVariants as faults
pub use Rattle.ptb_text.specs.Streams.{ConsumesAtMost}

-- known lines begin with these, and lose them
abbrev pub Loses : Option (List (List ℕ)) → Option (List (List ℕ)) → List (List ℕ) → Type 0
Loses None new given = ⊤
Loses (Some xs) None given = ⊥
Loses (Some xs) (Some ys) given = xs ≡ given ++ ys

-- no known line is left
abbrev pub NoneLeft : Option (List (List ℕ)) → Type 0
NoneLeft None = ⊤
NoneLeft (Some xs) = xs ≡ []

-- the line that a call gave, if it gave one
abbrev pub given_lines : {E : Type 0} → Result (Option (Bor (List ℕ))) E → List (List ℕ)
given_lines (Ok (Some line)) = line.now ∷ []
given_lines (Ok None) = []
given_lines (Err fault) = []

-- the line that was at hand, if one was
abbrev pub ready_lines : Option (Bor (List ℕ)) → List (List ℕ)
ready_lines line = given_lines {E = DeviceFault} (Ok line)

-- the input could not be read, or is too long, or memory was refused
abbrev pub IsSourceFault : DeviceFault → Type 0
IsSourceFault faults.Write = ⊥
IsSourceFault _ = Unit {0}

-- a list of lines, of which the first ones were taken
pub record LineList : Type 0 where
  pub lines : List (List ℕ)
  pub taken : ℕ

-- these lines were taken between the two
pub record Gives (old : LineList) (given : List (List ℕ)) (new : LineList) : Type 0 where
  pub same_lines : new.lines ≡ old.lines
  pub counted : new.taken ≡ old.taken + length given
  pub first : drop old.taken old.lines ≡ given ++ drop new.taken new.lines
