-- This file names the files of lemmas. Crates above may cite those of `PublicLemmas` alone.
pub mod PublicLemmas
mod CutLines
mod ReadLines
mod ContinuedReads
mod WholeInputs
mod GivenLines
