-- This file names the file of definitions.
pub mod Rows
pub mod LoadingRows
pub mod ExpressionRows
pub mod PlayRows
pub mod TreeRows
pub mod TableRows
pub mod SampledRunRows
pub mod MistakeRows
pub mod Prelude
