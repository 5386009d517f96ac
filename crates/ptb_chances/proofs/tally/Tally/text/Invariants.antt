-- This file says that what is written and the rows that are left are the complete table.
use Rattle.std.proofs.Common.{◌≡◌, ◌++◌, map}
use Rattle.ptb_chances.specs.Chances.{table_text}
use Rattle.ptb_chances.specs.Accounts.{reduced}
use Rattle.ptb_chances.specs.Keys.{rows_of}
use Rattle.ptb_chances.proofs.tally.Tally.text.Given as goal

abbrev pub invariant-loop-key : goal.invariant-loop-key
invariant-loop-key l = l.text.items ++ table_text (map reduced (rows_of l.key-iterator))
    ≡ table_text (map reduced l.fn.self)
