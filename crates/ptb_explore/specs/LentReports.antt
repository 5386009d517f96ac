-- This file defines what an explorer is once the report that it lent is given back.
-- Main definition: `NextRests`.
--     NextRests e result       it is what the search for the next run left
use Rattle.std.specs.Prelude.{[], Option, Result}
use Rattle.std.specs.declared.alloc.AllocError.{AllocError}
use Rattle.std.specs.Borrow.{Bor, MutBor, Fml}
use Rattle.std.specs.Io.BufRead.{Rests}
use mir.Syntax.{named}
use Rattle.ptb_explore.specs.declared.report.Report.{Report}
use Rattle.ptb_explore.specs.contracts.explorer.Explorer.{the_row}
use Rattle.ptb_explore.specs.Explorations.{Exploration, NextLeaves}

abbrev pub NextRests : MutBor Exploration → Result (Option (Bor Report)) AllocError → Fml
NextRests e result = Rests (the_row (record { mir = named 0; lft = [] })) e (λ new. NextLeaves e.now result new)
