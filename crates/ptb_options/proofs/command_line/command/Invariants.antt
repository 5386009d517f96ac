-- This file says what the loop of `command` keeps.
use Rattle.std.proofs.Common.{◌≡◌, List, map, take, true}
use Rattle.std.specs.Prelude.{codes}
use Rattle.clap.specs.Words.{App, Rule, app_of, new_app}
use Rattle.ptb_options.specs.CommandLine.{rule_of_listed}
use Rattle.ptb_options.proofs.command_line.command.Given as goal

-- the command with so many of its rules
abbrev pub tool_with : List Rule → App
tool_with rules =
    record (new_app (codes "ptb")) { top = record (new_app (codes "ptb")).top { rules = rules; has_version = true } }

-- it has the rules of the arguments so far
abbrev pub invariant-loop-listed : goal.invariant-loop-listed
invariant-loop-listed l = app_of l.command ≡ tool_with (map rule_of_listed (take l.listed-index l.listed-items))
