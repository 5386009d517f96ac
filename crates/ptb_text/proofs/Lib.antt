-- This file names the files of lemmas. Crates above may cite those of `PublicLemmas` alone.
pub mod PublicLemmas
mod Blanks
mod Pairs
mod Digits
mod Words
mod FoundParts
mod TakenTokens
mod ByteTests
mod Edits
mod Entries
mod GatheredBytes
mod LineParts
mod ListedPrograms
mod EnteredLines
mod Numbers
mod Pieces
mod Pool
mod PoolEdits
mod Searches
mod SoundPrograms
mod StoredLines
mod StoredTexts
mod TakenPieces
mod WrittenTexts
mod ByteCounts
mod LimitedReads
mod NextByte
