-- This file names the files of definitions.
pub mod Mistakes
pub mod CodeMistakes
pub mod WrittenMistakes
pub mod Laws
pub mod Prelude
