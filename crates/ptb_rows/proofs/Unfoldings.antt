-- This file names what a proof unfolds to compute the result of a program that is written out.
-- Main definition: `on_programs`.
use Rattle.std.specs.Prelude.{⊤}
use Rattle.std.specs.Fmt.{digits}
use Rattle.ptb_text.specs.Statements.{after_lines}
use Rattle.ptb_text.specs.Words.{past_blanks, spelling_in_front, word_at, bytes_at, letter_at, number_at, quotation_at}
use Rattle.ptb_answers.specs.Outcome.{answer}
use Rattle.ptb_expr.specs.Value.{random_number, value, target_of}
use Rattle.ptb_expr.specs.Operators.{product_operator, sum_operator, comparison}
use Rattle.ptb_expr.specs.Reading.{more, paren, variable_or, variable, plain_factor, factor, product}
use Rattle.ptb_expr.specs.Reading.{first_product, sum, expr_with, expr, expression, variable_tree}
use Rattle.ptb_command.specs.Items.{items_within, items}
use Rattle.ptb_command.specs.Commands.{assignment, string_at, print_item, print_parts, input_item}
use Rattle.ptb_command.specs.Commands.{step_parts, limit_parts, for_parts, next_parts, parts_of}
use Rattle.ptb_command.specs.Commands.{command_at, command_round, commands_from}
use Rattle.ptb_command.specs.State.{next_command}
use Rattle.ptb_command.specs.Act.{input_action, parts_action, finish, command_action, act}
use Rattle.ptb_machine.specs.Play.{turn, turns_within, all_turns, turns, play}
use Rattle.ptb_serve.specs.Replies.{program_of_text, runs_reply}

unfoldable pub on_programs : ⊤
unfolding digits after_lines past_blanks spelling_in_front word_at bytes_at letter_at number_at quotation_at answer
    random_number value target_of product_operator sum_operator comparison more paren variable_or variable plain_factor
    factor product first_product sum expr_with expr expression variable_tree items_within items assignment string_at
    print_item print_parts input_item step_parts limit_parts for_parts next_parts parts_of command_at command_round
    commands_from next_command input_action parts_action finish command_action act turn turns_within all_turns turns
    play program_of_text runs_reply
on_programs = tt
