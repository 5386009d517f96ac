-- This file names the files of lemmas. Crates above may cite those of `PublicLemmas` alone.
pub mod PublicLemmas
mod Seeds
mod NextDrawnAnswers
mod DrawnAnswers
mod Refusals
mod Readers
