-- This file answers what is left to prove of `first_command`.
use Rattle.ptb_machine_tests.proofs.tests.commands.first_command.Goals as goal

pub next_command-requires : goal.next_command-requires
next_command-requires c = record { place = _; are = c.start_of.ensures }
