-- This file passes on the definitions that the clauses of this crate cite most. It declares nothing.
pub use Rattle.std.specs.Fmt.{signed_decimal}
pub use Rattle.std.specs.Io.KnownBytes.{Appends}
pub use Rattle.ptb_answers.specs.AnswerText.{answers_of, unmarked, in_form, item_text}
pub use Rattle.ptb_answers.specs.AskedQuestions.{answers_in, bounds_in}
pub use Rattle.ptb_answers.specs.DrawnAnswers.{answers_by, sampled_runs}
pub use Rattle.ptb_answers.specs.Outcome.{Answers, bounds as bounds_of, is_open, Outcome, IsReader}
pub use Rattle.ptb_answers.specs.Seeds.{generator_after, generator_of}
pub use Rattle.ptb_answers.specs.declared.rules.Rules.{Rules}
pub use Rattle.ptb_machine.specs.Play.{Finish, play}
pub use Rattle.ptb_machine.specs.Questions.{most_answers}
pub use Rattle.ptb_machine.specs.RunStart.{IsAtFirst}
pub use Rattle.ptb_text.specs.Device.{HasFailed, TakesSome}
pub use Rattle.ptb_text.specs.Statements.{StoredProgram}
pub use Rattle.ptb_text.specs.Streams.{WritesText, writes_of}
pub use Rattle.ptb_explore.specs.Beginnings.{beginning_line, split_play, stopped, FindsBeginning, IsSameSearch, MovesTo}
pub use Rattle.ptb_explore.specs.Beginnings.{BeginningLaws, PlaysList, PlaysLists, PlaysOneListMore, Splitting}
pub use Rattle.ptb_explore.specs.ReportHeaders.{header_prefix, marked_of, marked_items, AreEnds, BeginsWith}
pub use Rattle.ptb_explore.specs.Copies.{Agrees, AreCopies, PlaysOn, kept_runs, ArePrefixes, more_played, play_limit}
pub use Rattle.ptb_explore.specs.Copies.{WentBack, last_steps, ArePlaces}
pub use Rattle.ptb_explore.specs.Explorations.{AreCopiesAt, HasRunCopies, IsSameGame, NextPlays, game_of, play_of}
pub use Rattle.ptb_explore.specs.Explorations.{most_of, IsSameListing, exploration, IsAdded, IsPlayed, report_finish}
pub use Rattle.ptb_explore.specs.Explorations.{CanPlayOn, NextReports, PlaysOneMore, PlaysRuns, Resumes, Reports}
pub use Rattle.ptb_explore.specs.Explorations.{Exploration, AreKeptAt}
pub use Rattle.ptb_explore.specs.Laws.{ListingLaws, ReportLaws, ShareLaws, TreeLaws}
pub use Rattle.ptb_explore.specs.Listing.{FailsToWrite, FailsOnlyToWrite, NextWrites, WritesRuns, less_one}
pub use Rattle.ptb_explore.specs.Listing.{FailsAfterSome, FailsOnlyAfterSome}
pub use Rattle.ptb_explore.specs.MarkedRuns.{states_bounds, IsMarkedRun, IsMarkedBeginning}
pub use Rattle.ptb_explore.specs.Mismatch.{Explains, IsItemMismatch, IsRunMismatch, MismatchLaws, TakesItems}
pub use Rattle.ptb_explore.specs.PlannedPlays.{PlayEnds, IsRunPrefix, play_steps}
pub use Rattle.ptb_explore.specs.Plans.{PlanEndsWith, IsFresh, IsPosition, front_at, IsTaken, IsTakenAlone, IsLastBelow}
pub use Rattle.ptb_explore.specs.Plans.{AreAtBounds, HasPlan, PlansNext}
pub use Rattle.ptb_explore.specs.Recorders.{recorded, recorder_choices}
pub use Rattle.ptb_explore.specs.Report.{report}
pub use Rattle.ptb_explore.specs.ReportText.{asked_items, list_line, report_ending, report_text, text_of_report}
pub use Rattle.ptb_machine.specs.EndingWords.{ending_word, field}
pub use Rattle.ptb_machine.specs.RunTree.{At, IsLast, Start, runs_left, tree, IsNextRun, IsRun, begins_with}
pub use Rattle.ptb_explore.specs.Samples.{SampleLaws, PlaysDrawn, WritesRun, WritesSample}
