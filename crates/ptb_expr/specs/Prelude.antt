-- This file passes on the definitions that the clauses of this crate cite most. It declares nothing.
pub use Rattle.std.specs.Prelude.{List, ℕ, length, option_map}
pub use Rattle.ptb_answers.specs.Outcome.{is_answer}
pub use Rattle.ptb_text.specs.CursorState.{bytes_left}
pub use Rattle.ptb_text.specs.FoundParts.{LiesAhead, IsNextToken, past_byte}
pub use Rattle.ptb_text.specs.Words.{word_at, letter_at, next_byte_at, token_at}
pub use Rattle.ptb_text.specs.declared.word.Table.TheVariants.{Functions}
pub use Rattle.ptb_expr.specs.Builders.{node_of, room_of}
pub use Rattle.ptb_expr.specs.Evaluation.{Evaluates, IsEvaluated, IsMarkedWithin, IsTarget, IsWhole, variable_target}
pub use Rattle.ptb_expr.specs.Evaluation.{variable_there, expression_there, expression_value}
pub use Rattle.ptb_expr.specs.Operators.{product_operator, sum_operator, comparison}
pub use Rattle.ptb_expr.specs.ReadTrees.{ReadsPart, FailsPart, ReadsSteps, FailsSteps}
pub use Rattle.ptb_expr.specs.Reading.{item_of, Whole}
pub use Rattle.ptb_expr.specs.Spells.{Spells, Variable, Expr, Sum, First, Product, Factor, Paren}
pub use Rattle.ptb_expr.specs.Starts.{BeginsFactor, IsBefore, start_room, sign_of, room_before, IsFirst}
pub use Rattle.ptb_expr.specs.Starts.{node_before, KeepsBefore}
pub use Rattle.ptb_expr.specs.Stops.{HasResult, RunsOn, IfFull}
pub use Rattle.ptb_expr.specs.Store.{map_ok}
pub use Rattle.ptb_expr.specs.Translation.{AreStepsOf, IsMalformed, IsVariableRead, IsVariable}
pub use Rattle.ptb_expr.specs.Tree.{Tree, Num, Var, Unclosed}
pub use Rattle.ptb_expr.specs.TreeSteps.{plain_step, after_step, steps_value, waiting}
pub use Rattle.ptb_expr.specs.Value.{fault, in_range, truth, operation, negation, absolute_value, chosen, random_number}
pub use Rattle.ptb_expr.specs.declared.fault.FaultKind.TheVariants.{How}
