-- This file has the laws of commands as the contract names them.
-- Main lemma: `command_laws`.
use Rattle.ptb_text.specs.FoundParts.{FindingLaws}
use Rattle.ptb_expr.specs.Spells.{SpellingLaws}
use Rattle.ptb_command.specs.Commands.{command_round}
use Rattle.ptb_command.proofs.Sequences.{enough_rounds, items_by_round}
use Rattle.ptb_command.proofs.CommandOrder.{let_advances, input_advances, print_advances, commands_advance, parts_end}
use Rattle.ptb_command.proofs.Places.{commands_by_round, at_first, at_next, at_last, at_there}
use Rattle.ptb_command.proofs.Places.{at_none, begins_at, start_there}
use Rattle.ptb_command.specs.CommandLaws.{CommandLaws}

pub command_laws : FindingLaws → SpellingLaws → CommandLaws
command_laws finding spelling = record {
  let_advances = let_advances finding spelling;
  input_advances = input_advances finding spelling;
  print_advances = print_advances finding spelling;
  commands_advance = commands_advance finding spelling;
  items_by_round = λ t round i on. items_by_round t round on i;
  enough_rounds = enough_rounds;
  commands_by_round = commands_by_round finding spelling;
  enough_commands = λ t n i h. enough_rounds t (command_round t) n i (commands_advance finding spelling t) h;
  parts_end = λ word t. parts_end finding spelling t word;
  at_first = at_first finding spelling;
  at_next = at_next finding spelling;
  at_last = at_last finding spelling;
  at_there = at_there finding spelling;
  at_none = at_none finding spelling;
  begins_at = begins_at finding spelling;
  begins = start_there finding spelling;
}
