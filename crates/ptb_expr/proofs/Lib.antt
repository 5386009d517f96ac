-- This file names the files of lemmas. Crates above may cite those of `PublicLemmas` alone.
pub mod PublicLemmas
mod Evaluation
mod Indices
mod Marks
mod Parts
mod ChooserStates
mod SpelledTrees
mod TakenOperators
mod Uniqueness
mod Zeros
mod SavedValues
mod ValueReads
mod TreeSteps
mod WrittenTrees
mod PlainSteps
mod AddedSteps
mod MadeValues
mod ReadParts
mod Starts
mod Runs
mod CodedTrees
mod TranslatedTrees
mod ShortForms
