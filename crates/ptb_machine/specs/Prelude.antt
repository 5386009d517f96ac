-- This file passes on the definitions that the clauses of this crate cite most. It declares nothing.
pub use Rattle.std.specs.Prelude.{List, ℕ, option_map}
pub use Rattle.ptb_answers.specs.Outcome.{success}
pub use Rattle.ptb_expr.specs.ShortValues.{IsShortOf}
pub use Rattle.ptb_expr.specs.Store.{Cells}
pub use Rattle.ptb_expr.specs.TreeSteps.{steps_value}
pub use Rattle.ptb_expr.specs.declared.short_value.ShortValue.{ShortValue}
pub use Rattle.ptb_text.specs.FoundParts.{LiesAhead}
pub use Rattle.ptb_text.specs.Statements.{Statements, StoredProgram, size_of}
pub use Rattle.ptb_text.specs.Words.{is_over}
pub use Rattle.ptb_command.specs.State.{statement, first_state, next_command, Place}
pub use Rattle.ptb_command.specs.Act.{ending_of, report_bytes}
pub use Rattle.ptb_command.specs.Code.{steps_at, Code}
pub use Rattle.ptb_command.specs.CommandIo.{SameBorrows}
pub use Rattle.ptb_command.specs.Devices.{Devices, screen_state, with_screen}
pub use Rattle.ptb_command.specs.ExecutedCommands.{context_code}
pub use Rattle.ptb_command.specs.Execution.{ContinuesAt}
pub use Rattle.ptb_command.specs.PlainCommands.{DoesPlainly, AreDone}
pub use Rattle.ptb_command.specs.ShowResults.{IsShown}
pub use Rattle.ptb_command.specs.Locations.{PlacesAre, NextIs}
pub use Rattle.ptb_command.specs.Representation.{Represents}
pub use Rattle.ptb_command.specs.Stacks.{ClosesNewer, loop_of}
pub use Rattle.ptb_command.specs.Traces.{trace}
pub use Rattle.ptb_command.specs.Translation.{IsTranslated}
pub use Rattle.ptb_command.specs.declared.ending.Ending.TheVariants.{Limit}
pub use Rattle.ptb_command.specs.declared.operation.Operation.{Operation}
pub use Rattle.ptb_command.specs.declared.registers.Registers.{Registers}
pub use Rattle.ptb_command.specs.declared.stack.Open.{Open}
pub use Rattle.ptb_machine.specs.RunStart.{IsAtFirst}
pub use Rattle.ptb_machine.specs.CommandResults.{IsCodeOfNext, IsPerformed, MayPerform}
pub use Rattle.ptb_machine.specs.EndingWords.{ending_word}
pub use Rattle.ptb_machine.specs.Entries.{after_entry, IsNextAt, BeginsAt, EndsStatement, LeadsTo, Follows, place_of}
pub use Rattle.ptb_machine.specs.Jumps.{Jumps}
pub use Rattle.ptb_machine.specs.KnownLoops.{Brings, IsEntryOf, IsKnown, loop_with}
pub use Rattle.ptb_machine.specs.PlainRuns.{GoesBy, HasLine, PlaysWith, ReadsLines, WantsMemory}
pub use Rattle.ptb_machine.specs.Play.{play, next_number}
pub use Rattle.ptb_machine.specs.Positions.{IsFound, IsLedTo, Stands, place_at}
pub use Rattle.ptb_machine.specs.ProgramCode.{IsNextCode, IsCodeTable, IsProgramCode, IsCommandAt, HasShortForms}
pub use Rattle.ptb_machine.specs.ProgramCode.{code_from}
pub use Rattle.ptb_machine.specs.RunDevices.{lent, run_devices}
pub use Rattle.ptb_machine.specs.Runs.{IsCompleteRun, IsRunToEnd, ending_alone}
pub use Rattle.ptb_machine.specs.SeededRuns.{IsDrawn, SeededLaws}
pub use Rattle.ptb_machine.specs.ShortForms.{statement_start, place_by, IsSet, IsSetElement, IsIf, IsLastIf, IsGosub}
pub use Rattle.ptb_machine.specs.ShortForms.{IsReturn, IsEndTurn, HasShortForm, IsShortForm, LeadsToStatement}
pub use Rattle.ptb_machine.specs.ShortForms.{viewed, with_form}
pub use Rattle.ptb_machine.specs.ShortSteps.{DoesEntry, MovesOn, Arrives}
pub use Rattle.ptb_machine.specs.Steps.{FitsProgram, IsStep, PlainTurns}
pub use Rattle.ptb_machine.specs.Streams.{reads_of, writes_of}
pub use Rattle.ptb_machine.specs.declared.program_code.CommandEntry.{CommandEntry}
