-- This file says what the loops of `lay_out` keep.
use Rattle.std.proofs.Common.{◌≡◌, ◌+◌, ◌++◌, take, drop}
use Rattle.ptb_text.specs.Program.{laid_out, lengths}
use Rattle.ptb_text.proofs.program_edits.lay_out.Given as goal

-- the texts so far are directly one after the other, and the next place is after them
abbrev pub invariant-loop-statement : goal.invariant-loop-statement
invariant-loop-statement l = record {
  laid : l.statements ≡ laid_out l.start
      (take l.statement-index l.initial.statements) ++ drop l.statement-index l.initial.statements;
  following : l.place ≡ l.start + lengths (take l.statement-index l.initial.statements);
}
