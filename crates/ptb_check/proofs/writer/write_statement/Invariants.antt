-- This file says what the loop over the commands of a statement keeps.
use Rattle.std.proofs.Common.{◌≡◌, ◌-◌, length}
use Rattle.ptb_command.specs.Commands.{commands_from}
use Rattle.ptb_check.specs.Mistakes.{statement_mistakes}
use Rattle.ptb_check.proofs.Rounds.{mistakes_from}
use Rattle.ptb_check.proofs.Progress.{IsWrittenUpTo}
use Rattle.ptb_check.proofs.writer.write_statement.Given as goal

abbrev pub invariant-commands : goal.invariant-commands
invariant-commands g l = record {
  text : l.cursor.text ≡ l.text;
  unfailed : g.W.Write.failures l.writer ≡ g.W.Write.failures l.initial.writer;
  written :
      IsWrittenUpTo (g.W.Write.contents l.initial.writer) (g.W.Write.contents l.writer) l.any
      (statement_mistakes l.program.lines (l.number, l.text))
      (mistakes_from l.program.lines l.number l.text (commands_from l.text l.cursor.place));
}

abbrev pub decreases-commands : goal.decreases-commands
decreases-commands g l = length l.text - l.cursor.place
