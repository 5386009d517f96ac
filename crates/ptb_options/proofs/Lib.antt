-- This file names the files of lemmas. Crates above may cite those of `PublicLemmas` alone.
pub mod PublicLemmas
mod AnswerTexts
mod ReadItems
mod ItemWords
mod ListMistakes
mod ListReturns
mod KeptLists
mod NumberRanges
mod OptionReads
mod ListedArgs
mod Decisions
mod NumberArguments
mod NumberOptions
mod NumberRules
mod WrongValues
