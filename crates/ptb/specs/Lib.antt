-- This file names the files of definitions.
pub mod Terminal
pub mod Sources
pub mod OpenedPrograms
pub mod Exits
pub mod Messages
pub mod Prelude
