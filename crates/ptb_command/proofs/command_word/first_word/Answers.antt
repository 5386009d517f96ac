-- This file answers what is left to prove of `first_word`.
use Rattle.std.proofs.Common.{refl}
use Rattle.ptb_text.specs.declared.word.Table.TheVariants.{Commands}
use Rattle.ptb_command.proofs.FoundParts.{command_word, no_command_word}
use Rattle.ptb_command.proofs.command_word.first_word.Goals as goal

pub returns-in-Some-clause-first : goal.returns-in-Some-clause-first
returns-in-Some-clause-first c =
    command_word _ _ _ _ c.in-Some.ensures.value (c.finding_laws.ensures.word Commands _ _ _ _ c.in-Some.ensures.value)

pub returns-in-None-clause-first : goal.returns-in-None-clause-first
returns-in-None-clause-first c =
    rw (c.in-None.ensures.absent refl) (no_command_word _ _ c.in-None.ensures.value c.range_law.ensures.within)
