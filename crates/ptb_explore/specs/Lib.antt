-- This file names the files of definitions.
pub mod ReportHeaders
pub mod ReportText
pub mod Recorders
pub mod Plans
pub mod PlannedPlays
pub mod Copies
pub mod MarkedRuns
pub mod Mismatch
pub mod Report
pub mod Listing
pub mod Explorations
pub mod LentReports
pub mod Openings
pub mod Laws
pub mod Beginnings
pub mod Samples
pub mod Prelude
