-- This file has the laws of actions and runs as the contracts name them.
-- Main lemmas: `run_laws` and `effect_laws`.
use Rattle.std.proofs.Common.{arith}
use Rattle.ptb_expr.specs.Laws.{ValueLaws}
use Rattle.ptb_command.proofs.PublicLemmas.{input_part, parts_part, finish_end, command_change, act_keeps}
use Rattle.ptb_machine.proofs.Turns.{enough_turns, turn_change, turn_goes, all_by_turn, all_change}
use Rattle.ptb_machine.proofs.Turns.{turns_by_turn, turns_shown, turns_steps}
use Rattle.ptb_machine.proofs.PlayReads.{turns_read, play_reader}
use Rattle.ptb_machine.specs.Laws.{EffectLaws, RunLaws}

pub effect_laws : EffectLaws
effect_laws = record {
  input = λ said x prompt lines. (input_part said x prompt lines).at;
  parts = λ parts w operands. (parts_part parts w operands).at;
  end = λ kind p q e x operands. (finish_end kind p q e x operands).at;
  command = λ p q c. (command_change p q c).at;
  step = act_keeps;
  turn = turn_change;
  run = turns_shown;
  all_turns = all_change;
  first = λ p input choose. omega arith;
}

pub run_laws : ValueLaws → RunLaws
run_laws values = record {
  one_step = turn_goes;
  by_turn = turns_by_turn;
  last_by_turn = all_by_turn;
  enough_turns = enough_turns;
  within_limit = turns_steps;
  reads = play_reader values;
  reads_on = turns_read values;
}
