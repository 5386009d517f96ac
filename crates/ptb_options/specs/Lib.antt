-- This file names the files of definitions.
pub mod AnswerLists
pub mod CommandLine
pub mod ListMistakes
pub mod Options
pub mod Statuses
pub mod Messages
pub mod WrongNumbers
pub mod Prelude
