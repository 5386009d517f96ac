-- This file defines what is known of a writer that may leave out what was typed.
-- Main definition: `unless_watched`.
--     unless_watched place known     known, where it is not noted what is typed
use Rattle.std.specs.Prelude.{Option, Some, None}

abbrev pub unless_watched : {A B : Type 0} → Option A → Option B → Option B
unless_watched None known = known
unless_watched (Some place) known = None
