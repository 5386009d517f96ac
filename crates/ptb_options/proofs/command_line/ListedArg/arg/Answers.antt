-- This file answers which rule clap gets for an argument, by what the argument is.
use Rattle.std.proofs.Common.{◌∙◌, ap, Some}
use Rattle.clap.specs.declared.builder.Arg.{Arg}
use Rattle.clap.specs.Words.{rule_of}
use Rattle.ptb_options.proofs.ListedArgs.{IsNamed, flag_rule, number_rule, operand_rule, text_rule}
use Rattle.ptb_options.proofs.command_line.ListedArg.arg.Goals as goal
use Rattle.ptb_options.proofs.command_line.ListedArg.arg.Goals.{After-under_heading-arg}

named : (c : After-under_heading-arg) → IsNamed c.under_heading-arg.result c.args.self.now.name
named c = record {
  rule = c.under_heading-arg.ensures.rule ∙ ap rule_of c.help.ensures ∙ c.new.ensures.rule;
  local = c.under_heading-arg.ensures.local ∙ ap (λ (x : Arg). x.global) c.help.ensures ∙ c.new.ensures.optional.1;
}

pub returns-in-Number : goal.returns-in-Number
returns-in-Number c =
    let given = c.value_parser.ensures.given in
    let told = number_rule _ _ c.args.self.now.kind (named (goal.at.returns-in-Number c).After-under_heading-arg)
    c.long.result c.long.ensures c.value_name.result (ap rule_of c.value_name.ensures)
    (ap (λ (x : Arg). x.global) c.value_name.ensures)
    c.value_parser.result c.in-Number.parser c.value_parser.ensures.others (given.1 ∙ ap Some given.2) c.in-Number.is in
    record { rule = told.rule; local = told.local }

pub returns-in-List : goal.returns-in-List
returns-in-List c =
    let told = text_rule _ _ c.args.self.now.kind (named (goal.at.returns-in-List c).After-under_heading-arg)
    c.long-in-List.result c.long-in-List.ensures c.value_name-in-List.result (ap rule_of c.value_name-in-List.ensures)
    (ap (λ (x : Arg). x.global) c.value_name-in-List.ensures) c.in-List.is in
    record { rule = told.rule; local = told.local }

pub returns-in-Flag : goal.returns-in-Flag
returns-in-Flag c =
    let told = flag_rule _ _ c.args.self.now.kind (named (goal.at.returns-in-Flag c).After-under_heading-arg)
    c.long-in-Flag.result c.long-in-Flag.ensures c.action.result c.action.ensures c.in-Flag.is in
    record { rule = told.rule; local = told.local }

pub returns-in-Operand : goal.returns-in-Operand
returns-in-Operand c =
    let told = operand_rule _ _ c.args.self.now.kind (named (goal.at.returns-in-Operand c).After-under_heading-arg)
    c.value_name-in-Operand.result (ap rule_of c.value_name-in-Operand.ensures)
    (ap (λ (x : Arg). x.global) c.value_name-in-Operand.ensures) c.in-Operand.is in
    record { rule = told.rule; local = told.local }
