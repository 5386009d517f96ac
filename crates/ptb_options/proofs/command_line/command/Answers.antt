-- This file answers what is left to prove of `command`.
use Rattle.std.proofs.Common.{◌≡◌, ◌∙◌, ap, ap₂, sym, true, false, ℕ, ◌+◌, ◌<◌, ◌≤◌, List, get_or}
use Rattle.std.proofs.Common.{length, map, take, take_all}
use Rattle.std.proofs.lemmas.List.{map_more}
use Rattle.clap.specs.Words.{AddsArg, App, app_of, rule_of, with_rule}
use Rattle.clap.specs.Simple.{app_of_fields}
use Rattle.clap.specs.declared.builder.Arg.{Arg}
use Rattle.clap.specs.declared.builder.Command.{Command}
use Rattle.ptb_options.specs.CommandLine.{rule_of_listed}
use Rattle.ptb_options.specs.declared.command_line.ListedArg.{ListedArg}
use Rattle.ptb_options.proofs.command_line.command.Goals as goal
use Rattle.ptb_options.proofs.command_line.command.Invariants.{tool_with}

-- with the next argument's rule after them, these are the rules of one more
one_more : (old new : Command) (a : Arg) (args : List ListedArg) (i : ℕ) (next : ListedArg) → i < length args
    → app_of old ≡ tool_with (map rule_of_listed (take i args)) → rule_of a ≡ rule_of_listed (get_or args i next)
    → a.global ≡ false
    → AddsArg old a new → app_of new ≡ tool_with (map rule_of_listed (take (i + 1) args))
one_more old new a args i next within before its_rule local added =
    added.shape local
    ∙ (ap₂ with_rule before its_rule ∙ ap tool_with (sym (map_more rule_of_listed args i next within)))

-- after the last argument they are the rules of all
all : (app : App) (args : List ListedArg) (i : ℕ) → length args ≤ i → app ≡ tool_with (map rule_of_listed (take i args))
    → app ≡ tool_with (map rule_of_listed args)
all app args i following so_far =
    so_far ∙ ap (λ (ws : List ListedArg). tool_with (map rule_of_listed ws)) (take_all i args following)

-- a command that has a version to show
abbrev pub with_version : App → App
with_version a = record a { top = record a.top { has_version = true } }

pub loop-listed-init : goal.loop-listed-init
loop-listed-init c =
    ap app_of_fields c.after_help-command.ensures
    ∙ (ap app_of_fields c.version.ensures ∙ ap with_version (ap app_of_fields c.about.ensures ∙ c.new.ensures.app))

pub loop-listed-preserved : goal.loop-listed-preserved
loop-listed-preserved c =
    one_more c.loop-listed.command c.in_ok-command.command c.arg.result _ c.loop-listed.listed-index _
    c.loop-listed-test.true c.loop-listed.invariant
    c.arg.ensures.rule c.arg.ensures.local c.in_ok-command.ensures

pub returns : goal.returns
returns c =
    all (app_of c.loop-listed.command) _ c.loop-listed.listed-index c.loop-listed-test.false c.loop-listed.invariant
