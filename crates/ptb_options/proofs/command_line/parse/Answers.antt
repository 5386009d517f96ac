-- This file answers what is left to prove of `parse`.
use Rattle.std.proofs.Common.{◌≡◌, ◌∙◌, ap, refl, subst, true, List, map, Result}
use Rattle.clap.specs.declared.error.Error.{Error}
use Rattle.std.proofs.lemmas.Result.{IfOk-weaker}
use Rattle.clap.specs.Words.{App, FailsBy, HasMatchesOf, Text, fault_of, is_simple, is_simple_and_free, matches_of}
use Rattle.clap.specs.declared.parser.ArgMatches.{ArgMatches}
use Rattle.ptb_options.specs.CommandLine.{tool}
use Rattle.ptb_options.specs.Options.{entries_of}
use Rattle.ptb_options.proofs.NumberRanges.{memory_in_range, choose_in_range}
use Rattle.ptb_options.proofs.command_line.parse.Goals as goal

is_simple-tool : is_simple tool ≡ true
is_simple-tool = refl

entries_by_app : (a t : App) (arguments : List Text) (m : ArgMatches) → HasMatchesOf a arguments m → a ≡ t
    → is_simple t ≡ true
    → entries_of m ≡ matches_of t arguments
entries_by_app a t arguments m found e simple = (found (ap is_simple e ∙ simple)).0
    ∙ ap (λ (x : App). matches_of x arguments) e

pub returns-clause-entries : goal.returns-clause-entries
returns-clause-entries g c =
    IfOk-weaker c.try_get_matches_from.result _ _
    (λ m found. entries_by_app _ tool (map g.S.AsStr.text c.args.arguments.now) m found c.in_ok-command.ensures
    is_simple-tool)
    c.try_get_matches_from.ensures.matches

pub returns-clause-memory : goal.returns-clause-memory
returns-clause-memory g c =
    IfOk-weaker c.try_get_matches_from.result _ _
    (λ m parsed. memory_in_range c.in_ok-command.field-0 m c.in_ok-command.ensures parsed)
    c.try_get_matches_from.ensures.parsed

pub returns-clause-bound : goal.returns-clause-bound
returns-clause-bound g c =
    IfOk-weaker c.try_get_matches_from.result _ _
    (λ m parsed. choose_in_range c.in_ok-command.field-0 m c.in_ok-command.ensures parsed)
    c.try_get_matches_from.ensures.parsed

-- tool has only what clap's rules of faults know
is_free-tool : is_simple_and_free tool ≡ true
is_free-tool = refl

fails_by_app : (a t : App) (arguments : List Text) (r : Result ArgMatches Error)
    → (is_simple_and_free a ≡ true → FailsBy (fault_of a arguments) r) → a ≡ t → is_simple_and_free t ≡ true
    → FailsBy (fault_of t arguments) r
fails_by_app a t arguments r fails e free =
    subst (λ (x : App). FailsBy (fault_of x arguments) r) e (fails (ap is_simple_and_free e ∙ free))

pub returns-clause-kinds : goal.returns-clause-kinds
returns-clause-kinds g c =
    fails_by_app _ tool
    (map g.S.AsStr.text c.args.arguments.now) _ c.try_get_matches_from.ensures.kinds
    c.in_ok-command.ensures is_free-tool
