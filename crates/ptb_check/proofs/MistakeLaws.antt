-- This file has the laws of mistakes as the contracts name them.
-- Main lemmas: `check_laws` and `code_mistake_laws`.
use Rattle.ptb_expr.specs.Spells.{SpellingLaws}
use Rattle.ptb_command.specs.CommandLaws.{CommandLaws}
use Rattle.ptb_machine.specs.Laws.{EffectLaws}
use Rattle.ptb_check.specs.Laws.{end_state, CheckLaws, CodeMistakeLaws}
use Rattle.ptb_check.proofs.MistakeCodes.{code_is_mistake}
use Rattle.ptb_check.proofs.Endings.{play_next}
use Rattle.ptb_check.proofs.Parts.{parts_tell}
use Rattle.ptb_check.proofs.ReportedMistakes.{command_told, jump_told, next_is_there}

pub code_mistake_laws : SpellingLaws → CommandLaws → CodeMistakeLaws
code_mistake_laws spelling laws = record {
  code = λ p t word i code is. code_is_mistake p t word i code (parts_tell spelling laws t word i) is;
}

pub check_laws : SpellingLaws → CommandLaws → EffectLaws → CheckLaws
check_laws spelling laws effects = record {
  commands = command_told spelling laws;
  jumps = jump_told;
  runs = λ p input rules a rest f kind e h.
      let at = play_next effects p input rules a rest f kind e h in record {
        place = at.place;
        command = at.command;
        next = at.next;
        reported =
            command_told spelling laws p.lines at.place at.command
            (next_is_there p.lines (end_state p input rules a).place at.place at.command at.next);
      };
}
