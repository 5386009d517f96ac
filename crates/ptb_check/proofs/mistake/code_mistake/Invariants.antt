-- This file says what the loop of `code_mistake` keeps.
use Rattle.std.proofs.Common.{◌≡◌, length}
use Rattle.ptb_check.specs.CodeMistakes.{code_mistake}
use Rattle.ptb_check.proofs.mistake.code_mistake.Given as goal

abbrev pub invariant-loop-operation : goal.invariant-loop-operation
invariant-loop-operation l = record {
  same : code_mistake l.program.lines l.steps l.rest ≡ code_mistake l.program.lines l.steps l.operations;
}

abbrev pub decreases-loop-operation : goal.decreases-loop-operation
decreases-loop-operation l = length l.rest
