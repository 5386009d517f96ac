-- This file defines the command line as clap reads it.
-- Main definition: `tool`.
--     tool                the command with its options, in the order in which help shows them
--     rule_of_listed a    the rule of an argument as the program lists it
use Rattle.std.specs.Prelude.{List, [], ◌∷◌, Some, pos, codes, true, ℕ}
use Rattle.clap.specs.Words.{App, Rule, new_app, new_rule}
use Rattle.clap.specs.declared.builder.ArgAction.TheVariants.{SetTrue}
use Rattle.clap.specs.declared.builder.ValueParser.{ValueParser}
use Rattle.clap.specs.declared.builder.ValueParser.TheVariants.{Signed, Unsigned}
use Rattle.ptb_options.specs.declared.command_line.ListedArg.{ListedArg}
use Rattle.ptb_options.specs.declared.command_line.ArgKind.{ArgKind}
use Rattle.ptb_options.specs.declared.command_line.ArgKind.TheVariants as kinds

-- an option with a number
abbrev pub number_option : List ℕ → ValueParser → Rule
number_option name parser = record (new_rule name) { long = Some name; value_names = 1; parser = Some parser }

-- an option with a text
abbrev pub text_option : List ℕ → Rule
text_option name = record (new_rule name) { long = Some name; value_names = 1 }

-- an option without a value
abbrev pub flag : List ℕ → Rule
flag name = record (new_rule name) { long = Some name; action = Some SetTrue }

-- an argument that is no option
abbrev pub positional : List ℕ → Rule
positional name = record (new_rule name) { value_names = 1 }

abbrev pub rules : List Rule
rules =
    number_option (codes "steps") (Signed (pos 1) (pos 1000000000))
    ∷ number_option (codes "memory") (Signed (pos 64) (pos 32767))
    ∷ number_option (codes "choose") (Signed (pos 1) (pos 32767))
    ∷ text_option (codes "answers")
    ∷ number_option (codes "seed") (Unsigned 0 4294967295)
    ∷ flag (codes "all")
    ∷ text_option (codes "under")
    ∷ text_option (codes "after")
    ∷ number_option (codes "first") (Unsigned 1 1000000000)
    ∷ number_option (codes "shares") (Signed (pos 1) (pos 64))
    ∷ number_option (codes "sample") (Unsigned 1 1000000000)
    ∷ number_option (codes "form") (Signed (pos 1) (pos 2))
    ∷ flag (codes "chances")
    ∷ flag (codes "list")
    ∷ flag (codes "check")
    ∷ positional (codes "program")
    ∷ []

-- the rule of an argument as the program lists it
abbrev pub rule_by : List ℕ → ArgKind → Rule
rule_by name (kinds.Number parser) = number_option name parser
rule_by name kinds.List = text_option name
rule_by name kinds.Flag = flag name
rule_by name kinds.Operand = positional name

abbrev pub rule_of_listed : ListedArg → Rule
rule_of_listed a = rule_by a.name.now a.kind

-- it has a version to show
abbrev pub tool : App
tool = record (new_app (codes "ptb")) { top = record (new_app (codes "ptb")).top { rules = rules; has_version = true } }
