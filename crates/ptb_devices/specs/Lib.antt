-- This file names the files of definitions.
pub mod Screens
pub mod Sources
pub mod CutLines
pub mod CutLineLaws
pub mod Inputs
pub mod InputLaws
pub mod Readers
pub mod ReaderLaws
pub mod Prelude
