-- This file names the files of lemmas.
mod ReplyLaws
mod ShareReplies
mod Fronts
mod ServedPrograms
mod PlainRuns
mod ServedListings
mod Mismatches
mod Promises
mod WholeInput
mod ListingResults
mod Lines
mod Samples
mod Splits
mod Checks
mod Tables
mod Modes
mod OpenedListings
