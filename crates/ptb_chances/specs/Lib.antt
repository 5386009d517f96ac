-- This file names the files of definitions.
pub mod Chances
pub mod Accounts
pub mod CountedRuns
pub mod Continuations
pub mod Keys
pub mod Order
pub mod TableLaws
pub mod PlanChoosers
pub mod StagePlays
pub mod WaitingPlays
pub mod Prelude
