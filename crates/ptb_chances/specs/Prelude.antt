-- This file passes on the definitions that the clauses of this crate cite most. It declares nothing.
pub use Rattle.ptb_answers.specs.Outcome.{is_open}
pub use Rattle.ptb_devices.specs.Screens.{IsScreenFault}
pub use Rattle.ptb_chances.specs.Chances.{chance_of_all, chances, last_line, rank, result_order, ratio_text}
pub use Rattle.ptb_chances.specs.Chances.{row_text, table_text}
pub use Rattle.ptb_machine.specs.Play.{run_from}
pub use Rattle.ptb_machine.specs.EndingWords.{field}
pub use Rattle.ptb_machine.specs.RunTree.{tree}
pub use Rattle.ptb_command.specs.Configuration.{Configuration}
pub use Rattle.ptb_machine.specs.Play.{play}
pub use Rattle.ptb_machine.specs.Questions.{most_answers}
pub use Rattle.ptb_command.specs.State.{State}
pub use Rattle.ptb_machine.specs.RunStart.{IsAtFirst}
pub use Rattle.ptb_machine.specs.Steps.{FitsProgram, PlainTurns}
pub use Rattle.ptb_numbers.specs.Decimals.{decimals}
pub use Rattle.ptb_numbers.specs.Fractions.{lowest, Equals, plus}
pub use Rattle.ptb_numbers.specs.LowestTerms.{ratio_of}
pub use Rattle.ptb_text.specs.Device.{HasFailed, TakesSome}
pub use Rattle.ptb_text.specs.Lines.{lines}
pub use Rattle.ptb_chances.specs.Accounts.{AddsRow, IsAccountOf, ResultsRise, reduced}
pub use Rattle.ptb_chances.specs.Continuations.{ComesTo, GoesOn}
pub use Rattle.ptb_chances.specs.CountedRuns.{IsTallied, work_to_do}
pub use Rattle.ptb_chances.specs.Keys.{key_result, result_text, row_of_total, total_text}
pub use Rattle.ptb_chances.specs.Order.{result_order_total}
pub use Rattle.ptb_chances.specs.TableLaws.{TableLaws}
pub use Rattle.ptb_chances.specs.StagePlays.{CanPlay, PlaysTo, SameEnd, IsStageAt, IsStageAtSaved}
pub use Rattle.ptb_chances.specs.WaitingPlays.{planned, waiting_plays, after_answer, first_waiting, gone_to, Puts}
pub use Rattle.ptb_chances.specs.WaitingPlays.{PutsAnswers}
pub use Rattle.ptb_chances.specs.WaitingPlays.{states_left, Takes, unplanned}
