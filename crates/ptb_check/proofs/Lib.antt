-- This file names the files of lemmas.
mod Readings
mod Parts
mod Endings
mod ReportedMistakes
mod MistakeCodes
mod Rounds
mod Progress
mod MistakeLaws
