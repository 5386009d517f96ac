-- This file passes on the definitions that the clauses of this crate cite most. It declares nothing.
pub use Rattle.ptb_rows.specs.ExpressionRows.{ValueRows}
pub use Rattle.ptb_rows.specs.LoadingRows.{LoadingRows, WordRows}
pub use Rattle.ptb_rows.specs.MistakeRows.{MistakeRows}
pub use Rattle.ptb_rows.specs.PlayRows.{AnswerRows, PrintRows, InputRows, LoopRows, RunFaultRows, ArrayRows, LongRows}
pub use Rattle.ptb_rows.specs.PlayRows.{StepRows}
pub use Rattle.ptb_rows.specs.SampledRunRows.{SampledRunRows}
pub use Rattle.ptb_rows.specs.TableRows.{TableRows}
pub use Rattle.ptb_rows.specs.TreeRows.{TreeRows, ReportRows}
