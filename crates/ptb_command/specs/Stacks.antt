-- This file defines what is found, closed and removed in a list of open loops and calls, newest first.
-- Main definition: `ClosesNewer`.
--     call_of os               the place to which the newest call returns, and what is open below it
--     loop_of x os             the newest level's loop of the variable x, and what is open below it
--     newest_loop os           the newest of all, if it is a loop
--     newest_return os         the place to which the newest of all returns, if it is a call
--     without x os             all of it but the newest level's loops of x
--     ClosesCall old new result                              the newest call is closed, if there is one
--     ClosesNewer x old new result                           the loop of the variable x, if there is one, becomes the
--                                                            newest
--     ClosesNewest old new                                   the newest loop or call is closed, if one is open
--     FindsOpen make os newest result                        the newest one of a kind, if there is one, is found in a
--                                                            list with the newest last: how many are below it
use Rattle.std.specs.Prelude.{◌≡◌, ℕ, ◌+◌, ◌==◌, if◌then◌else◌, List, [], ◌∷◌, ◌++◌, Option, Some, None, IfSome}
use Rattle.std.specs.Prelude.{option_map, reverse, take}
use Rattle.ptb_command.specs.declared.location.Location.{Location}
use Rattle.ptb_command.specs.declared.stack.OpenLoop.{OpenLoop}
use Rattle.ptb_command.specs.declared.stack.Open.{Open}
use Rattle.ptb_command.specs.declared.stack.Open.TheVariants as opens

abbrev pub call_of : List Open → Option (Location × List Open)
call_of [] = None
call_of (opens.Loop m ∷ os) = call_of os
call_of (opens.Call back ∷ os) = Some (back, os)

abbrev pub loop_of : ℕ → List Open → Option (OpenLoop × List Open)
loop_of x [] = None
loop_of x (opens.Loop m ∷ os) = if m.letter == x then Some (m, os) else loop_of x os
loop_of x (opens.Call back ∷ os) = None

abbrev pub newest_loop : List Open → Option OpenLoop
newest_loop [] = None
newest_loop (opens.Loop m ∷ os) = Some m
newest_loop (opens.Call back ∷ os) = None

abbrev pub newest_return : List Open → Option Location
newest_return [] = None
newest_return (opens.Loop m ∷ os) = None
newest_return (opens.Call back ∷ os) = Some back

abbrev pub without : ℕ → List Open → List Open
without x [] = []
without x (opens.Loop m ∷ os) = if m.letter == x then without x os else opens.Loop m ∷ without x os
without x (opens.Call back ∷ os) = opens.Call back ∷ os

abbrev pub ClosesCall : List Open → List Open → Option Location → Type 0
ClosesCall old new None = (call_of old ≡ None) × (new ≡ old)
ClosesCall old new (Some back) = call_of old ≡ Some (back, new)

abbrev pub ClosesNewer : ℕ → List Open → List Open → Option OpenLoop → Type 0
ClosesNewer x old new None = (loop_of x old ≡ None) × (new ≡ old)
ClosesNewer x old new (Some m) = (below : List Open) × (loop_of x old ≡ Some (m, below)) × (new ≡ opens.Loop m ∷ below)

abbrev pub ClosesNewest : List Open → List Open → Type 0
ClosesNewest [] new = new ≡ []
ClosesNewest (o ∷ os) new = new ≡ os

pub record FindsOpen {A : Type 0} (make : A → Open) (os : List Open) (newest : Option (A × List Open))
    (result : Option (ℕ × A)) : Type 0 where
  pub found : newest ≡ option_map (λ x. (x.1, reverse (take x.0 os))) result
  pub there : IfSome result (λ x. take (x.0 + 1) os ≡ take x.0 os ++ make x.1 ∷ [])
