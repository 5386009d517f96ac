-- This file passes on the definitions that the clauses of this crate cite most. It declares nothing.
pub use Rattle.std.specs.Fmt.{signed_decimal}
pub use Rattle.ptb_answers.specs.Outcome.{success}
pub use Rattle.ptb_expr.specs.Evaluation.{expression_there, variable_there, IsTarget}
pub use Rattle.ptb_expr.specs.Reading.{item_of, expression}
pub use Rattle.ptb_expr.specs.Translation.{IsMalformed, HasNoValue}
pub use Rattle.ptb_expr.specs.Tree.{Tree, Bad, Elem}
pub use Rattle.ptb_expr.specs.declared.fault.FaultKind.TheVariants.{What}
pub use Rattle.ptb_expr.specs.Store.{Cells, index_of, value_at}
pub use Rattle.ptb_expr.specs.TreeSteps.{steps_value}
pub use Rattle.ptb_expr.specs.Value.{with_target, or_fault, in_range}
pub use Rattle.ptb_expr.specs.declared.step.Step.{Step}
pub use Rattle.ptb_expr.specs.declared.store.Target.TheVariants.{Element}
pub use Rattle.ptb_text.specs.CursorState.{bytes_left}
pub use Rattle.ptb_text.specs.Digits.{is_blank}
pub use Rattle.ptb_text.specs.Statements.{text_limit, Statements}
pub use Rattle.ptb_text.specs.Words.{is_over, IsCommand, token_at}
pub use Rattle.ptb_text.specs.declared.word.Word.{Word}
pub use Rattle.ptb_text.specs.declared.word.Word.TheVariants.{NextKw, LetKw, InputKw, ForKw}
pub use Rattle.ptb_text.specs.Lines.{line_limit}
pub use Rattle.ptb_command.specs.Code.{AreStepsAt, IsDestination, NamesOne, IsPromptIn, prompt_by, said_by, IsIn}
pub use Rattle.ptb_command.specs.Code.{IsLiteralIn, bytes_in, literal_bytes, ShowsParts, OnlyHasParts, steps_at}
pub use Rattle.ptb_command.specs.Code.{FailsWithoutValue}
pub use Rattle.ptb_command.specs.Commands.{command_round, value_part, assignment, command_ends, defect, end_check}
pub use Rattle.ptb_command.specs.Commands.{input_item, source, string_item, variable_begins, variable_item, Part}
pub use Rattle.ptb_command.specs.Commands.{Assign, Show, Width, command_of, parts_of}
pub use Rattle.ptb_command.specs.Locations.{PlacesAre, IsLineAt}
pub use Rattle.ptb_command.specs.Places.{next_place}
pub use Rattle.ptb_command.specs.ReadCommands.{IsRead, NextBegins, IsNext}
pub use Rattle.ptb_command.specs.Stacks.{ClosesNewer, loop_of, FindsOpen, call_of, newest_loop, newest_return}
pub use Rattle.ptb_command.specs.Stacks.{without, ClosesCall, ClosesNewest}
pub use Rattle.ptb_command.specs.State.{statement, Place, nesting_limit, first_place, place_after, text_of}
pub use Rattle.ptb_command.specs.Translation.{AddsSteps, IsMalformedAt, either, IsTranslated, Translates, HasRoom}
pub use Rattle.ptb_command.specs.Translation.{KeepsRoom, TakesPart, Completes, IsAlone, IsEnd, IsTranslatedAs}
pub use Rattle.ptb_command.specs.Translation.{TakesOperand, HasAllRoom, IsStepRead, limit_tree, step_tree}
pub use Rattle.ptb_command.specs.declared.stack.OpenLoop.{OpenLoop}
pub use Rattle.ptb_command.specs.declared.operation.Operation.{Operation}
pub use Rattle.ptb_command.specs.declared.stack.Open.{Open}
pub use Rattle.ptb_command.specs.Act.{parts_action, answer_instead, item_action, value_action, target_action}
pub use Rattle.ptb_command.specs.Act.{first_width, padded_decimal, width_of, is_past, command_action}
pub use Rattle.ptb_command.specs.Actions.{goes_on, show, work_action, show as show_action}
pub use Rattle.ptb_command.specs.CommandOutcomes.{Refines}
pub use Rattle.ptb_command.specs.CommandIo.{pending_trace, SameBorrows, SameDevices}
pub use Rattle.ptb_command.specs.Configuration.{Configuration}
pub use Rattle.ptb_command.specs.Devices.{Devices, with_choices, refused_answers, nothing_refused, refused_by}
pub use Rattle.ptb_command.specs.Devices.{screen_state, with_screen}
pub use Rattle.ptb_command.specs.ExecutedCommands.{IsExecuted, context_code}
pub use Rattle.ptb_command.specs.Execution.{FinishesAlone, FinishesAsking}
pub use Rattle.ptb_command.specs.Loops.{loop_of_open, AddsStep}
pub use Rattle.ptb_command.specs.ShowResults.{IsShown}
pub use Rattle.ptb_command.specs.Representation.{Begun}
pub use Rattle.ptb_command.specs.ScreenOperations.{HasAsked, HasAnswered, StoresLine, ArePartsDone, IsOnlyItem}
pub use Rattle.ptb_command.specs.ScreenOperations.{IsPartDone, IsPartShown, IsPartTaken, IsShort, ShowsOrTakes}
pub use Rattle.ptb_command.specs.Stops.{Comes, ReportsMissed, miss_of, as_stop}
pub use Rattle.ptb_command.specs.Traces.{trace, with_pending, RefinesPart, Trace, fresh_after}
pub use Rattle.ptb_command.specs.Values.{IsValueOf}
pub use Rattle.ptb_command.specs.declared.command_io.CommandIo.{CommandIo}
pub use Rattle.ptb_command.specs.declared.execution.parts.CodeInText.{CodeInText}
