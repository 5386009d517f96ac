-- This file passes on the definitions that the clauses of this crate cite most. It declares nothing.
pub use Rattle.ptb_answers.specs.declared.form.Marked.{Marked}
pub use Rattle.ptb_explore.specs.Beginnings.{beginning_line, split_play, stopped}
pub use Rattle.ptb_explore.specs.Explorations.{exploration, play_of, most_of}
pub use Rattle.ptb_explore.specs.Listing.{FailsAfterSome, FailsOnlyAfterSome, WritesRuns}
pub use Rattle.ptb_explore.specs.Openings.{first_front}
pub use Rattle.ptb_explore.specs.Report.{report}
pub use Rattle.ptb_machine.specs.RunTree.{Front, runs_left}
pub use Rattle.ptb_machine.specs.Play.{play, status}
pub use Rattle.ptb_machine.specs.Runs.{ending_alone}
pub use Rattle.ptb_machine.specs.Streams.{reads_of, writes_of}
pub use Rattle.ptb_text.specs.Device.{HasFailed}
pub use Rattle.ptb_text.specs.Lines.{input_lines}
pub use Rattle.ptb_serve.specs.ListMismatches.{IsUnstarted, items_of}
pub use Rattle.ptb_serve.specs.LoadedPrograms.{ReadsInput, ServesProgram, ReportsFailures, ReportsMismatch, IsRunStatus}
pub use Rattle.ptb_serve.specs.LoadedPrograms.{end_line, IsServed, IsServedIn, IsServedOn}
pub use Rattle.ptb_serve.specs.Promises.{FailsLoudly, ReadsOnlyWhatIsAsked, Served}
pub use Rattle.ptb_serve.specs.Replies.{share_prefix, front_note}
pub use Rattle.ptb_serve.specs.ReplyLaws.{ReplyLaws}
pub use Rattle.ptb_serve.specs.ServedRequests.{mode_of, outcome_of}
